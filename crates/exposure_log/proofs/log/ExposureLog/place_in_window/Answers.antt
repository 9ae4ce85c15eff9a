use Rattle.std.proofs.Common.{◌≡◌, Less, refl, sym, to_z, of_z, w64, arith}
use Rattle.std.specs.List.{filter}
use Rattle.std.proofs.lemmas.Int.{ints}
use Rattle.std.proofs.lemmas.List.Kept.{AllPairs-filter}
use Rattle.exposure_log.specs.declared.numbered.NumberedExposure.{NumberedExposure}
use Rattle.exposure_log.specs.Numbered.{numbered_cmp}
use Rattle.exposure_log.specs.Nights.{listed_of, is_of_night}
use Rattle.exposure_log.proofs.AtPlace.{none_at_place}
use Rattle.exposure_log.proofs.FreePlace.{among_exposures_of_night}
use Rattle.exposure_log.proofs.Refusing.{place_is_held_in_night}
use Rattle.exposure_log.proofs.Removing.{is_not_there}
use Rattle.exposure_log.proofs.log.ExposureLog.place_in_window.Goals as goal

pub search-requires : goal.search-requires
search-requires c = rw c.of_night.ensures (AllPairs-filter (λ (g h : NumberedExposure). numbered_cmp h.epoch h.site g ≡ Less) _ _ c.self.invariant.1.in_order)

pub returns-in_default-clause-cause : goal.returns-in_default-clause-cause
returns-in_default-clause-cause c =
    let e : to_z w64 (of_z w64 c.epoch-epoch.result) ≡ c.args.exposure.now.epoch = omega (arith, ints, c.epoch-epoch.ensures.value) in
    let n : to_z w64 (of_z w64 c.args.night) ≡ c.args.night = omega (arith, ints) in
    let night = rw (← c.self.view_is) at c.requires in
    let here : c.of_night.result.now ≡ filter (is_of_night c.self.inside.nights.shift c.args.night) (listed_of c.self.inside.nights) = rw n at c.of_night.ensures in
    let found = rw (here, e, c.site.ensures) at c.in_default.ensures.found in
    rw (← c.self.view_is, place_is_held_in_night c.self.inside.register (listed_of c.self.inside.nights) (is_of_night c.self.inside.nights.shift c.args.night) c.args.exposure.now.epoch c.args.exposure.now.site c.in_default.field-0 found) refl

pub returns-in-Some-clause-cause : goal.returns-in-Some-clause-cause
returns-in-Some-clause-cause c =
    let e : to_z w64 (of_z w64 c.epoch-epoch.result) ≡ c.args.exposure.now.epoch = omega (arith, ints, c.epoch-epoch.ensures.value) in
    let n : to_z w64 (of_z w64 c.args.night) ≡ c.args.night = omega (arith, ints) in
    let night = rw (← c.self.view_is) at c.requires in
    let here : c.of_night.result.now ≡ filter (is_of_night c.self.inside.nights.shift c.args.night) (listed_of c.self.inside.nights) = rw n at c.of_night.ensures in
    let free = rw (here, e, c.site.ensures) at c.in-Err.ensures.missing in
    let none = is_not_there c.self.inside.register (listed_of c.self.inside.nights) c.args.exposure.now.epoch c.args.exposure.now.site (none_at_place c.self.inside.nights.shift c.args.exposure.now.epoch c.args.exposure.now.site (listed_of c.self.inside.nights) c.in-Err.index (rw night at free)) in
    let some = rw c.detections.ensures.value at (c.in-Some.ensures.first (listed_of c.self.inside.nights) c.self.invariant.1) in
    rw (← c.self.view_is, none, ← some) refl

pub returns-in-Some-refuses_for_room-clause-cause : goal.returns-in-Some-refuses_for_room-clause-cause
returns-in-Some-refuses_for_room-clause-cause c =
    let e : to_z w64 (of_z w64 c.epoch-epoch.result) ≡ c.args.exposure.now.epoch = omega (arith, ints, c.epoch-epoch.ensures.value) in
    let n : to_z w64 (of_z w64 c.args.night) ≡ c.args.night = omega (arith, ints) in
    let night = rw (← c.self.view_is) at c.requires in
    let here : c.of_night.result.now ≡ filter (is_of_night c.self.inside.nights.shift c.args.night) (listed_of c.self.inside.nights) = rw n at c.of_night.ensures in
    let free = rw (here, e, c.site.ensures) at c.in-Err.ensures.missing in
    let none = is_not_there c.self.inside.register (listed_of c.self.inside.nights) c.args.exposure.now.epoch c.args.exposure.now.site (none_at_place c.self.inside.nights.shift c.args.exposure.now.epoch c.args.exposure.now.site (listed_of c.self.inside.nights) c.in-Err.index (rw night at free)) in
    let first = sym (rw c.detections.ensures.value at (c.in_default-first_taken.ensures.first (listed_of c.self.inside.nights) c.self.invariant.1)) in
    let room = rw (← c.self.view_is) at c.in-Some-refuses_for_room.ensures.cause in
    rw (← c.self.view_is, none, first) (sym room)

pub returns-clause-place : goal.returns-clause-place
returns-clause-place c =
    let e : to_z w64 (of_z w64 c.epoch-epoch.result) ≡ c.args.exposure.now.epoch = omega (arith, ints, c.epoch-epoch.ensures.value) in
    let n : to_z w64 (of_z w64 c.args.night) ≡ c.args.night = omega (arith, ints) in
    let night = rw (← c.self.view_is) at c.requires in
    let here : c.of_night.result.now ≡ filter (is_of_night c.self.inside.nights.shift c.args.night) (listed_of c.self.inside.nights) = rw n at c.of_night.ensures in
    let free = rw (here, e, c.site.ensures) at c.in-Err.ensures.missing in
    let none = is_not_there c.self.inside.register (listed_of c.self.inside.nights) c.args.exposure.now.epoch c.args.exposure.now.site (none_at_place c.self.inside.nights.shift c.args.exposure.now.epoch c.args.exposure.now.site (listed_of c.self.inside.nights) c.in-Err.index (rw night at free)) in
    let first = sym (rw c.detections.ensures.value at (c.in_default-first_taken.ensures.first (listed_of c.self.inside.nights) c.self.invariant.1)) in
    let room = rw (← c.self.view_is) at c.in_default-refuses_for_room.ensures.cause in
    rw (← c.self.view_is, n) (
      rw (none, first) (sym room),
      record {
        night = night;
        free = among_exposures_of_night c.self.inside.register c.self.inside.nights.shift c.args.night (listed_of c.self.inside.nights) c.args.exposure.now.epoch c.args.exposure.now.site c.in-Err.index free;
      },
    )
