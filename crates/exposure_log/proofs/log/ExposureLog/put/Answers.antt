use Rattle.std.proofs.Common.{◌≡◌, ap, ◌∙◌, length, map, arith, to_z, of_z, w64}
use Rattle.std.proofs.lemmas.Int.{ints}
use Rattle.exposure_log.specs.Numbered.{exposure_of}
use Rattle.exposure_log.specs.Nights.{listed_of, PutsIn}
use Rattle.exposure_log.specs.declared.numbered.NumberedExposure.{NumberedExposure}
use Rattle.exposure_log.proofs.FreePlace.{among_listed_of_night}
use Rattle.exposure_log.proofs.Holding.{fresh_in_slots, apart_in_list, few_in_slots, listed_hold, takes_in, holding_keeps_order}
use Rattle.exposure_log.proofs.NewlyNumbered.{same_list, same_listed}
use Rattle.number_register.proofs.Answered.{on_err}
use Rattle.exposure_log.proofs.Logs.{with_held}
use Rattle.exposure_log.proofs.log.ExposureLog.put.Goals as goal

pub take_all-requires-clause-fresh : goal.take_all-requires-clause-fresh
take_all-requires-clause-fresh c =
    rw c.into_parts-epoch.ensures.detections (fresh_in_slots c.self.inside.nights.shift c.self.inside.window c.self.inside.register (listed_of c.self.inside.nights) c.self.invariant.1 c.args.exposure (rw (← c.self.view_is) at c.requires.free))

pub take_all-requires-clause-apart : goal.take_all-requires-clause-apart
take_all-requires-clause-apart c =
    rw c.into_parts-epoch.ensures.detections (apart_in_list c.self.inside.nights.shift c.self.inside.window c.self.inside.register (listed_of c.self.inside.nights) c.self.invariant.1 c.args.exposure (rw (← c.self.view_is) at c.requires.free))

pub take_all-requires-clause-few : goal.take_all-requires-clause-few
take_all-requires-clause-few c =
    rw c.into_parts-epoch.ensures.detections (few_in_slots c.self.inside.nights.shift c.self.inside.window c.self.inside.register (listed_of c.self.inside.nights) c.self.invariant.1 c.args.exposure (rw (← c.self.view_is) at c.requires.free))

pub invariant_of-self-in_err-numbers : goal.invariant_of-self-in_err-numbers
invariant_of-self-in_err-numbers c =
    let same = c.in_err-numbers.ensures.err in
    let xs : map (exposure_of c.take_all.new.register) (listed_of c.make_room.new.self) ≡ map (exposure_of c.self.inside.register) (listed_of c.self.inside.nights) =
    rw c.in_ok-make_room.ensures.listed (same_list c.self.inside.register c.take_all.new.register (listed_of c.self.inside.nights) same.0) in (
      rw c.in_ok-make_room.ensures.shift c.self.invariant.0,
      rw c.in_ok-make_room.ensures.listed (same_listed c.self.inside.register c.take_all.new.register (listed_of c.self.inside.nights) same.0 same.1 c.self.invariant.1),
      rw (c.in_ok-make_room.ensures.shift, xs) c.self.invariant.2,
    )

pub returns-in_err-numbers-clause-err : goal.returns-in_err-numbers-clause-err
returns-in_err-numbers-clause-err c =
    let same = c.in_err-numbers.ensures.err in
    let xs : map (exposure_of c.take_all.new.register) (listed_of c.make_room.new.self) ≡ map (exposure_of c.self.inside.register) (listed_of c.self.inside.nights) =
    rw c.in_ok-make_room.ensures.listed (same_list c.self.inside.register c.take_all.new.register (listed_of c.self.inside.nights) same.0) in
    on_err c.from_residual-in_err-numbers.result _ (rw c.in_ok-make_room.ensures.shift (ap (with_held c.self.inside.nights.shift c.self.inside.window) xs ∙ c.self.view_is))

pub insert-requires-clause-free : goal.insert-requires-clause-free
insert-requires-clause-free c =
    let g : NumberedExposure = record { epoch = to_z w64 (of_z w64 c.into_parts-epoch.result.0); site = c.into_parts-epoch.result.1; numbers = c.in_ok-numbers.numbers } in
    let epoch : g.epoch ≡ c.args.exposure.epoch = omega (arith, ints, c.into_parts-epoch.ensures.epoch) in
    let site : g.site ≡ c.args.exposure.site = c.into_parts-epoch.ensures.site in
    let free = rw (← c.self.view_is) at c.requires.place.free in
    rw (epoch, site, c.in_ok-make_room.ensures.shift, c.in_ok-make_room.ensures.listed)
    (among_listed_of_night c.self.inside.register c.self.inside.nights.shift c.args.place.night (listed_of c.self.inside.nights) c.args.exposure.epoch c.args.exposure.site c.args.place.index free)

pub insert-requires-clause-room : goal.insert-requires-clause-room
insert-requires-clause-room c =
    let night : to_z w64 (of_z w64 c.args.place.night) ≡ c.args.place.night = omega (arith, ints) in
    rw night at c.in_ok-make_room.ensures.room

pub invariant_of-self-2 : goal.invariant_of-self-2
invariant_of-self-2 c =
    let g : NumberedExposure = record { epoch = to_z w64 (of_z w64 c.into_parts-epoch.result.0); site = c.into_parts-epoch.result.1; numbers = c.in_ok-numbers.numbers } in
    let epoch : g.epoch ≡ c.args.exposure.epoch = omega (arith, ints, c.into_parts-epoch.ensures.epoch) in
    let site : g.site ≡ c.args.exposure.site = c.into_parts-epoch.ensures.site in
    let taken = rw c.into_parts-epoch.ensures.detections at c.in_ok-numbers.ensures.ok in
    let put : PutsIn (listed_of c.self.inside.nights) g (listed_of c.insert.new.self) = rw c.in_ok-make_room.ensures.listed at c.insert.ensures.listed in
    let none = rw (← c.self.view_is) at c.requires.free in
    rw (c.insert.ensures.shift, c.in_ok-make_room.ensures.shift) (
      c.self.invariant.0,
      listed_hold c.self.inside.nights.shift c.self.inside.window c.self.inside.register (listed_of c.self.inside.nights) c.self.invariant.1 c.args.exposure none
          c.take_all.new.register (listed_of c.insert.new.self) g c.into_parts-epoch.ensures.keeps epoch site taken.0 put taken.1,
      holding_keeps_order c.self.inside.nights.shift c.self.inside.window c.self.inside.register (listed_of c.self.inside.nights) c.self.invariant.1 c.args.exposure none
          c.take_all.new.register (listed_of c.insert.new.self) g c.into_parts-epoch.ensures.keeps epoch site taken.0 put c.requires.ids c.self.invariant.2,
    )

pub returns-clause-ok : goal.returns-clause-ok
returns-clause-ok c =
    let g : NumberedExposure = record { epoch = to_z w64 (of_z w64 c.into_parts-epoch.result.0); site = c.into_parts-epoch.result.1; numbers = c.in_ok-numbers.numbers } in
    let epoch : g.epoch ≡ c.args.exposure.epoch = omega (arith, ints, c.into_parts-epoch.ensures.epoch) in
    let site : g.site ≡ c.args.exposure.site = c.into_parts-epoch.ensures.site in
    let taken = rw c.into_parts-epoch.ensures.detections at c.in_ok-numbers.ensures.ok in
    let put : PutsIn (listed_of c.self.inside.nights) g (listed_of c.insert.new.self) = rw c.in_ok-make_room.ensures.listed at c.insert.ensures.listed in
    let none = rw (← c.self.view_is) at c.requires.free in (
      omega (arith, c.len-count.ensures, ap length c.into_parts-epoch.ensures.detections, c.into_parts-epoch.result.2.ok.0),
      rw (← c.self.view_is, c.insert.ensures.shift, c.in_ok-make_room.ensures.shift)
          (takes_in c.self.inside.nights.shift c.self.inside.window c.self.inside.register (listed_of c.self.inside.nights) c.self.invariant.1 c.args.exposure none
          c.take_all.new.register (listed_of c.insert.new.self) g c.into_parts-epoch.ensures.keeps epoch site taken.0 put),
    )
