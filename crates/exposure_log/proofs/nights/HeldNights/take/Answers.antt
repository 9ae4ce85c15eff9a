use Rattle.std.proofs.Common.{◌≡◌, Some, None, Less, sym, ◌∙◌, arith, to_z, of_z, w64}
use Rattle.std.specs.List.{filter}
use Rattle.std.proofs.lemmas.Int.{ints}
use Rattle.std.proofs.lemmas.List.Kept.{AllPairs-filter}
use Rattle.sky_math.specs.Night.{night_at}
use Rattle.exposure_log.specs.declared.numbered.NumberedExposure.{NumberedExposure}
use Rattle.exposure_log.specs.Numbered.{numbered_cmp}
use Rattle.exposure_log.specs.Nights.{list_of, all_listed, is_of_night}
use Rattle.exposure_log.proofs.AtPlace.{none_at_place, none_without_list, at_place}
use Rattle.exposure_log.proofs.Searching.{filter_none_out}
use Rattle.exposure_log.proofs.NightEdits.{at_in_list, take_by_night, taken_out, taken_rest}
use Rattle.exposure_log.proofs.nights.HeldNights.take.Goals as goal

pub search-requires : goal.search-requires
search-requires c = rw c.of_night.ensures (AllPairs-filter (λ (g h : NumberedExposure). numbered_cmp h.epoch h.site g ≡ Less) _ _ c.requires)

pub returns-in_default-clause-taken : goal.returns-in_default-clause-taken
returns-in_default-clause-taken c =
    let epoch : to_z w64 (of_z w64 c.args.epoch) ≡ c.args.epoch = omega (arith, ints) in
    let shift : to_z w64 (of_z w64 c.self.inside.shift) ≡ c.self.inside.shift = omega (arith, ints) in
    let fits : to_z w64 (of_z w64 c.night_of_any-night.result) ≡ c.night_of_any-night.result = omega (arith, ints) in
    let night : to_z w64 (of_z w64 c.night_of_any-night.result) ≡ night_at c.self.inside.shift c.args.epoch = rw (shift, epoch) at (fits ∙ c.night_of_any-night.ensures) in
    let here : c.of_night.result.now ≡ filter (is_of_night c.self.inside.shift (night_at c.self.inside.shift c.args.epoch)) (all_listed c.self.inside.by_night.entries) = rw (← c.self.view_is, night) at c.of_night.ensures in
    let missing = rw (here, epoch) at c.in_default.ensures.missing in
    let none = none_at_place c.self.inside.shift c.args.epoch c.args.site.now (all_listed c.self.inside.by_night.entries) c.in_default.field-0 missing in
    rw (← c.self.view_is) record { goes = none; stay = sym (filter_none_out (at_place c.args.epoch c.args.site.now) (all_listed c.self.inside.by_night.entries) none) }

pub returns-in_err-listed-clause-taken : goal.returns-in_err-listed-clause-taken
returns-in_err-listed-clause-taken c =
    let epoch : to_z w64 (of_z w64 c.args.epoch) ≡ c.args.epoch = omega (arith, ints) in
    let shift : to_z w64 (of_z w64 c.self.inside.shift) ≡ c.self.inside.shift = omega (arith, ints) in
    let fits : to_z w64 (of_z w64 c.night_of_any-night.result) ≡ c.night_of_any-night.result = omega (arith, ints) in
    let night : to_z w64 (of_z w64 c.night_of_any-night.result) ≡ night_at c.self.inside.shift c.args.epoch = rw (shift, epoch) at (fits ∙ c.night_of_any-night.ensures) in
    let missing : list_of c.self.inside.by_night.entries (night_at c.self.inside.shift c.args.epoch) ≡ None = rw night at (sym c.in_err-listed.ensures.value) in
    let none = none_without_list c.self.inside.shift c.args.epoch c.args.site.now c.self.inside.by_night.entries c.self.invariant missing in
    rw (← c.self.view_is, c.from_residual.ensures, c.get_mut.follows.holds-at-none) record { goes = none; stay = sym (filter_none_out (at_place c.args.epoch c.args.site.now) (all_listed c.self.inside.by_night.entries) none) }

pub remove-requires : goal.remove-requires
remove-requires c =
    let epoch : to_z w64 (of_z w64 c.args.epoch) ≡ c.args.epoch = omega (arith, ints) in
    let shift : to_z w64 (of_z w64 c.self.inside.shift) ≡ c.self.inside.shift = omega (arith, ints) in
    let fits : to_z w64 (of_z w64 c.night_of_any-night.result) ≡ c.night_of_any-night.result = omega (arith, ints) in
    let night : to_z w64 (of_z w64 c.night_of_any-night.result) ≡ night_at c.self.inside.shift c.args.epoch = rw (shift, epoch) at (fits ∙ c.night_of_any-night.ensures) in
    let here : c.of_night.result.now ≡ filter (is_of_night c.self.inside.shift (night_at c.self.inside.shift c.args.epoch)) (all_listed c.self.inside.by_night.entries) = rw (← c.self.view_is, night) at c.of_night.ensures in
    let list : list_of c.self.inside.by_night.entries (night_at c.self.inside.shift c.args.epoch) ≡ Some c.in_ok-listed.listed.now = rw night at (sym c.in_ok-listed.ensures.value) in
    let found = rw (here, epoch) at c.in-Ok.ensures.found in
    let rise = rw (← c.self.view_is) at c.requires in
    let within = (at_in_list c.self.inside.shift c.args.epoch c.args.site.now c.self.inside.by_night.entries c.in_ok-listed.listed.now c.self.invariant list rise c.in-Ok.index found).0 in
    omega (arith, within, c.in_ok-listed.listed.now.ok.0)

pub invariant_of-self-2 : goal.invariant_of-self-2
invariant_of-self-2 c =
    let epoch : to_z w64 (of_z w64 c.args.epoch) ≡ c.args.epoch = omega (arith, ints) in
    let shift : to_z w64 (of_z w64 c.self.inside.shift) ≡ c.self.inside.shift = omega (arith, ints) in
    let fits : to_z w64 (of_z w64 c.night_of_any-night.result) ≡ c.night_of_any-night.result = omega (arith, ints) in
    let night : to_z w64 (of_z w64 c.night_of_any-night.result) ≡ night_at c.self.inside.shift c.args.epoch = rw (shift, epoch) at (fits ∙ c.night_of_any-night.ensures) in
    let here : c.of_night.result.now ≡ filter (is_of_night c.self.inside.shift (night_at c.self.inside.shift c.args.epoch)) (all_listed c.self.inside.by_night.entries) = rw (← c.self.view_is, night) at c.of_night.ensures in
    let list : list_of c.self.inside.by_night.entries (night_at c.self.inside.shift c.args.epoch) ≡ Some c.in_ok-listed.listed.now = rw night at (sym c.in_ok-listed.ensures.value) in
    let found = rw (here, epoch) at c.in-Ok.ensures.found in
    let rise = rw (← c.self.view_is) at c.requires in
    let written = rw night at ((c.get_mut.follows.holds c.remove.new.self).0) in
    rw written (take_by_night c.self.inside.shift c.args.epoch c.args.site.now c.self.inside.by_night.entries c.in_ok-listed.listed.now c.self.invariant list rise c.in-Ok.index found c.remove.result c.remove.new.self c.remove.ensures.value c.remove.ensures.items)

pub returns-clause-taken : goal.returns-clause-taken
returns-clause-taken c =
    let epoch : to_z w64 (of_z w64 c.args.epoch) ≡ c.args.epoch = omega (arith, ints) in
    let shift : to_z w64 (of_z w64 c.self.inside.shift) ≡ c.self.inside.shift = omega (arith, ints) in
    let fits : to_z w64 (of_z w64 c.night_of_any-night.result) ≡ c.night_of_any-night.result = omega (arith, ints) in
    let night : to_z w64 (of_z w64 c.night_of_any-night.result) ≡ night_at c.self.inside.shift c.args.epoch = rw (shift, epoch) at (fits ∙ c.night_of_any-night.ensures) in
    let here : c.of_night.result.now ≡ filter (is_of_night c.self.inside.shift (night_at c.self.inside.shift c.args.epoch)) (all_listed c.self.inside.by_night.entries) = rw (← c.self.view_is, night) at c.of_night.ensures in
    let list : list_of c.self.inside.by_night.entries (night_at c.self.inside.shift c.args.epoch) ≡ Some c.in_ok-listed.listed.now = rw night at (sym c.in_ok-listed.ensures.value) in
    let found = rw (here, epoch) at c.in-Ok.ensures.found in
    let rise = rw (← c.self.view_is) at c.requires in
    let written = rw night at ((c.get_mut.follows.holds c.remove.new.self).0) in
    rw (← c.self.view_is, written) record {
      goes = taken_out c.self.inside.shift c.args.epoch c.args.site.now c.self.inside.by_night.entries c.in_ok-listed.listed.now c.self.invariant list rise c.in-Ok.index found c.remove.result c.remove.new.self c.remove.ensures.value c.remove.ensures.items;
      stay = taken_rest c.self.inside.shift c.args.epoch c.args.site.now c.self.inside.by_night.entries c.in_ok-listed.listed.now c.self.invariant list rise c.in-Ok.index found c.remove.result c.remove.new.self c.remove.ensures.value c.remove.ensures.items;
    }
