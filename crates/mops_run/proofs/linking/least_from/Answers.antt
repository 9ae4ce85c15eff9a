use Rattle.std.proofs.Common.{◌≡◌, ◌+◌, ◌∷◌, take, w64, to_z, rules, subst, arith}
use Rattle.std.proofs.lemmas.List.{take_all}
use Rattle.std.specs.Int.{int_min}
use mir.Facts.{to_z-of_z}
use mir.Val.{SFits}
use Rattle.mops_run.specs.Linking.{IsLeastNight, IsNearNight}
use Rattle.mops_run.proofs.LeastNights.{least_is_near, least_with}
use Rattle.mops_run.proofs.linking.least_from.Goals as goal

pub loop-detection-preserved : goal.loop-detection-preserved
loop-detection-preserved c =
    let night_fits : SFits w64 c.night.result = search rules in
    let lesser : c.min-least.result ≡ int_min (to_z w64 c.loop-detection.least-bits) c.night.result = simp to_z-of_z at c.min-least.ensures.value in
    let near : IsNearNight c.min-least.result = least_is_near _ _ _ c.loop-detection.invariant.1 c.night.ensures.near lesser in
    let fits : SFits w64 c.min-least.result = search rules in
    let least : IsLeastNight c.args.settings.now.night_shift (c.args.first.now ∷ take (c.loop-detection.detection-index + 1) c.args.rest.now) c.min-least.result =
    least_with _ _ _ _ _ _ _ _ (search rules) c.detection-item.is c.loop-detection.invariant.0 c.night.ensures.value lesser in
    simp to_z-of_z (least, near)

pub returns-clause-least : goal.returns-clause-least
returns-clause-least c =
    let whole : take c.loop-detection.detection-index c.args.rest.now ≡ c.args.rest.now = take_all c.loop-detection.detection-index c.args.rest.now (omega (arith, c.loop-detection-test.false)) in
    subst (λ xs. IsLeastNight c.args.settings.now.night_shift (c.args.first.now ∷ xs) (to_z w64 c.loop-detection.least-bits)) whole c.loop-detection.invariant.0
