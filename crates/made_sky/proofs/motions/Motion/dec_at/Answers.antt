use Rattle.std.proofs.Common.{◌≡◌, rules, w64, FitsSigned}
use Rattle.std.proofs.lemmas.Int.{to_z-of_z}
use Rattle.made_sky.specs.Motions.{moved}
use Rattle.made_sky.proofs.Moving.{raised}
use Rattle.made_sky.proofs.motions.Motion.dec_at.Goals as goal

pub returns-clause-value : goal.returns-clause-value
returns-clause-value c =
    let rate : FitsSigned w64 c.args.self.now.dec_rate = search rules in
    let acceleration : FitsSigned w64 c.args.self.now.dec_acceleration = search rules in
    let ticks = c.ranges.ticks in
    let is : c.moved.result ≡ moved c.args.self.now.dec_rate c.args.self.now.dec_acceleration c.args.ticks = simp to_z-of_z at c.moved.ensures.value in
    raised c.args.self.now.dec c.moved.result (moved c.args.self.now.dec_rate c.args.self.now.dec_acceleration c.args.ticks) is c.requires.motion.dec c.moved.ensures.range
