use Rattle.std.proofs.Common.{◌≡◌, ◌∙◌, Vec, Global, List, ap, length, arith}
use Rattle.std.specs.List.{sum_by}
use Rattle.exposure_log.specs.declared.numbered.NumberedExposure.{NumberedExposure}
use Rattle.exposure_log.specs.Nights.{all_listed}
use Rattle.exposure_log.proofs.NightEdits.{length_all}
use Rattle.exposure_log.proofs.nights.HeldNights.len.Goals as goal

pub loop-listed-init : goal.loop-listed-init
loop-listed-init c =
    let all : sum_by (λ listed. length listed.items) c.into_iter-listed-iterator.result ≡ length (all_listed c.self.inside.by_night.entries) =
    ap (λ (lists : List (Vec NumberedExposure Global)). sum_by (λ listed. length listed.items) lists) (c.into_iter-listed-iterator.ensures.into_iter_gives ∙ c.values-listed-items.ensures.rest) ∙ length_all c.self.inside.by_night.entries in
    rw (← c.self.view_is) (omega (arith, all))
