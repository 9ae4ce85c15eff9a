use Rattle.std.proofs.Common.{◌≡◌, sym, ap, map, arith, to_z, of_z, w64}
use Rattle.std.proofs.lemmas.Int.{ints}
use Rattle.exposure_log.specs.Held.{without_exposure}
use Rattle.exposure_log.specs.Numbered.{exposure_of}
use Rattle.exposure_log.specs.Nights.{listed_of}
use Rattle.exposure_log.proofs.HeldList.{each_is_held}
use Rattle.exposure_log.proofs.Searching.{distinct_numbers}
use Rattle.exposure_log.proofs.Removing.{is_there, is_not_there, one_numbered, exposures_without_place, listed_without_place, no_place_out}
use Rattle.exposure_log.proofs.Keeping.{removing_keeps_order}
use Rattle.exposure_log.proofs.Logs.{with_held}
use Rattle.exposure_log.proofs.log.ExposureLog.remove.Goals as goal

pub returns-in_default-clause-found : goal.returns-in_default-clause-found
returns-in_default-clause-found c =
    let e : to_z w64 (of_z w64 c.args.epoch) ≡ c.args.epoch = omega (arith, ints) in
    let none = rw e at c.in_default.ensures.taken.goes in
    rw (← c.self.view_is) (sym (is_not_there c.self.inside.register (listed_of c.self.inside.nights) c.args.epoch c.args.site.now none))

pub returns-in_default-clause-rest : goal.returns-in_default-clause-rest
returns-in_default-clause-rest c =
    let e : to_z w64 (of_z w64 c.args.epoch) ≡ c.args.epoch = omega (arith, ints) in
    let none = rw e at c.in_default.ensures.taken.goes in
    rw (c.in_default.ensures.same, ← c.self.view_is) (ap (with_held c.self.inside.nights.shift c.self.inside.window) (sym (no_place_out c.self.inside.register (listed_of c.self.inside.nights) c.args.epoch c.args.site.now none)))

pub let_go_all-requires-clause-held : goal.let_go_all-requires-clause-held
let_go_all-requires-clause-held c =
    let e : to_z w64 (of_z w64 c.args.epoch) ≡ c.args.epoch = omega (arith, ints) in
    let one = rw e at c.in-Some.ensures.taken.goes in
    let is = one_numbered c.self.inside.register (listed_of c.self.inside.nights) c.args.epoch c.args.site.now c.in-Some.numbered c.self.invariant.1.each one in
    rw c.as_slice.ensures.value (each_is_held c.self.inside.register c.in-Some.numbered is)

pub let_go_all-requires-clause-apart : goal.let_go_all-requires-clause-apart
let_go_all-requires-clause-apart c =
    let e : to_z w64 (of_z w64 c.args.epoch) ≡ c.args.epoch = omega (arith, ints) in
    let one = rw e at c.in-Some.ensures.taken.goes in
    let is = one_numbered c.self.inside.register (listed_of c.self.inside.nights) c.args.epoch c.args.site.now c.in-Some.numbered c.self.invariant.1.each one in
    rw c.as_slice.ensures.value (distinct_numbers c.self.inside.register c.in-Some.numbered is)

pub invariant_of-self-2 : goal.invariant_of-self-2
invariant_of-self-2 c =
    let e : to_z w64 (of_z w64 c.args.epoch) ≡ c.args.epoch = omega (arith, ints) in
    let one = rw e at c.in-Some.ensures.taken.goes in
    let rest = rw e at c.in-Some.ensures.taken.stay in
    let at = rw c.as_slice.ensures.value at c.let_go_all.ensures.at in
    let count = rw c.as_slice.ensures.value at c.let_go_all.ensures.count in
    let xs : map (exposure_of c.let_go_all.new.register) (listed_of c.take.new.self) ≡ without_exposure c.args.epoch c.args.site.now (map (exposure_of c.self.inside.register) (listed_of c.self.inside.nights)) =
    rw rest (exposures_without_place c.self.inside.register c.let_go_all.new.register (listed_of c.self.inside.nights) c.self.invariant.1 c.args.epoch c.args.site.now c.in-Some.numbered one at) in (
      rw c.in-Some.ensures.shift c.self.invariant.0,
      rw rest (listed_without_place c.self.inside.register c.let_go_all.new.register (listed_of c.self.inside.nights) c.self.invariant.1 c.args.epoch c.args.site.now c.in-Some.numbered one at count),
      rw (c.in-Some.ensures.shift, xs) (removing_keeps_order (with_held c.self.inside.nights.shift c.self.inside.window (map (exposure_of c.self.inside.register) (listed_of c.self.inside.nights))) c.args.epoch c.args.site.now c.self.invariant.2),
    )

pub returns-clause-found : goal.returns-clause-found
returns-clause-found c =
    let e : to_z w64 (of_z w64 c.args.epoch) ≡ c.args.epoch = omega (arith, ints) in
    let one = rw e at c.in-Some.ensures.taken.goes in
    rw (← c.self.view_is) (sym (is_there c.self.inside.register (listed_of c.self.inside.nights) c.args.epoch c.args.site.now c.in-Some.numbered one))

pub returns-clause-rest : goal.returns-clause-rest
returns-clause-rest c =
    let e : to_z w64 (of_z w64 c.args.epoch) ≡ c.args.epoch = omega (arith, ints) in
    let one = rw e at c.in-Some.ensures.taken.goes in
    let rest = rw e at c.in-Some.ensures.taken.stay in
    let at = rw c.as_slice.ensures.value at c.let_go_all.ensures.at in
    let xs : map (exposure_of c.let_go_all.new.register) (listed_of c.take.new.self) ≡ without_exposure c.args.epoch c.args.site.now (map (exposure_of c.self.inside.register) (listed_of c.self.inside.nights)) =
    rw rest (exposures_without_place c.self.inside.register c.let_go_all.new.register (listed_of c.self.inside.nights) c.self.invariant.1 c.args.epoch c.args.site.now c.in-Some.numbered one at) in
    rw (← c.self.view_is, c.in-Some.ensures.shift) (ap (with_held c.self.inside.nights.shift c.self.inside.window) xs)
