use Rattle.std.proofs.Common.{◌≡◌, ◌∙◌, ap, rules, w64, FitsSigned}
use Rattle.std.specs.Int.{int_rem_euclid}
use Rattle.std.proofs.lemmas.Int.{to_z-of_z}
use Rattle.sky_math.specs.Circle.{full_turn}
use Rattle.made_sky.specs.Motions.{moved}
use Rattle.made_sky.proofs.Moving.{turned}
use Rattle.made_sky.proofs.motions.Motion.ra_at.Goals as goal

pub returns-clause-value : goal.returns-clause-value
returns-clause-value c =
    let rate : FitsSigned w64 c.args.self.now.ra_rate = search rules in
    let acceleration : FitsSigned w64 c.args.self.now.ra_acceleration = search rules in
    let ticks = c.ranges.ticks in
    let is : c.moved-moved.result ≡ moved c.args.self.now.ra_rate c.args.self.now.ra_acceleration c.args.ticks = simp to_z-of_z at c.moved-moved.ensures.value in
    to_z-of_z w64 c.rem_euclid.result (record { sfits = c.rem_euclid.type_inv }) ∙ c.rem_euclid.ensures.value
    ∙ ap (λ z. int_rem_euclid z full_turn) (turned c.args.self.now.ra c.moved-moved.result _ is c.requires.motion.ra c.moved-moved.ensures.range)
