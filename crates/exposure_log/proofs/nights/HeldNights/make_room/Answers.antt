use Rattle.std.proofs.Common.{◌≡◌, arith, to_z, of_z, w64}
use Rattle.std.proofs.lemmas.Int.{ints}
use Rattle.exposure_log.proofs.nights.HeldNights.make_room.Goals as goal

pub invariant_of-self : goal.invariant_of-self
invariant_of-self c = c.add_night.ensures.nights _ c.self.invariant

pub invariant_of-self-2 : goal.invariant_of-self-2
invariant_of-self-2 c = c.reserve_one.ensures.nights _ (c.add_night.ensures.nights _ c.self.invariant)

pub returns-clause-room : goal.returns-clause-room
returns-clause-room c =
    let night : to_z w64 (of_z w64 c.args.night) ≡ c.args.night = omega (arith, ints) in
    rw night at c.reserve_one.ensures.room
