use Rattle.std.proofs.Common.{OnOk, subst, w64}
use Rattle.std.proofs.lemmas.Int.{to_z-of_z}
use Rattle.tracklet_register.specs.Registers.{HasNight}
use Rattle.tracklet_register.proofs.replacing.make_room.Goals as goal

pub returns-clause-there : goal.returns-clause-there
returns-clause-there c = subst (λ n. OnOk c.enter_night.result (HasNight c.enter_night.new.nights.items n)) (to_z-of_z w64 c.args.night c.ranges.night) c.enter_night.ensures.there
