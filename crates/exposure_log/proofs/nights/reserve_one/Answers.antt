use Rattle.std.proofs.Common.{◌≡◌, ◌<◌, sym, ap, Some, IsSome, arith, length, to_z, of_z, w64}
use Rattle.std.specs.Option.{is_some}
use Rattle.std.specs.Vec.{vec_capacity}
use Rattle.std.proofs.lemmas.Int.{ints}
use Rattle.std.proofs.lemmas.Result.{on_ok_weaker}
use Rattle.exposure_log.specs.Nights.{list_of}
use Rattle.exposure_log.proofs.NightEdits.{room_by_night, same_set}
use Rattle.exposure_log.proofs.nights.reserve_one.Goals as goal

pub returns-in-Some-clause-listed : goal.returns-in-Some-clause-listed
returns-in-Some-clause-listed c =
    let night : to_z w64 (of_z w64 c.args.night) ≡ c.args.night = omega (arith, ints) in
    let found : list_of c.args.by_night.now.entries c.args.night ≡ Some c.in-Some.listed.now = rw night at (sym c.in-Some.ensures.value) in
    let written = rw night at ((c.get_mut.follows.holds c.reserve.new.self).0) in
    rw written (same_set c.args.night c.args.by_night.now.entries c.in-Some.listed.now c.reserve.new.self found c.reserve.ensures.items)

pub returns-in-Some-clause-nights : goal.returns-in-Some-clause-nights
returns-in-Some-clause-nights c = λ shift by.
    let night : to_z w64 (of_z w64 c.args.night) ≡ c.args.night = omega (arith, ints) in
    let found : list_of c.args.by_night.now.entries c.args.night ≡ Some c.in-Some.listed.now = rw night at (sym c.in-Some.ensures.value) in
    let written = rw night at ((c.get_mut.follows.holds c.reserve.new.self).0) in
    rw written (room_by_night shift c.args.night c.args.by_night.now.entries c.in-Some.listed.now c.reserve.new.self by found c.reserve.ensures.items)

pub returns-in-Some-clause-room : goal.returns-in-Some-clause-room
returns-in-Some-clause-room c =
    let there : IsSome (list_of c.args.by_night.now.entries (to_z w64 (of_z w64 c.args.night))) = ap is_some (sym c.in-Some.ensures.value) in
    let night : to_z w64 (of_z w64 c.args.night) ≡ c.args.night = omega (arith, ints) in
    let found = rw night at (((c.get_mut.follows.holds c.reserve.new.self).3 there).1) in
    on_ok_weaker c.reserve.result (λ room. let more : length c.reserve.new.self.items < vec_capacity c.reserve.new.self = omega (arith, room, c.reserve.new.self.ok.0) in (c.reserve.new.self, found, more)) c.reserve.ensures.ok
