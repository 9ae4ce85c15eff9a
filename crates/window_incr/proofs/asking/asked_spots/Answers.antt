use Rattle.std.proofs.Common.{◌≡◌, ◌∙◌, ap, rules, w64}
use Rattle.std.specs.List.{filter}
use Rattle.std.proofs.lemmas.Fn.{filter_same}
use mir.Facts.{to_z-of_z}
use mir.Val.{SFits}
use Rattle.exposure_log.specs.Held.{spots_of_night}
use Rattle.sky_units.specs.SpotData.{SpotData}
use Rattle.window_incr.specs.Asked.{has_number}
use Rattle.window_incr.proofs.asking.asked_spots.Goals as goal

pub returns : goal.returns
returns c =
    let fits : SFits w64 c.args.night = search rules in
    let here : c.in_ok-spots.spots.items ≡ spots_of_night c.args.log.now c.args.night = simp to_z-of_z at c.in_ok-spots.ensures in
    let kept = filter_same _ (λ (spot : SpotData). has_number c.args.numbers.now spot.num) _ (λ x b f k. search rules) _ _ c.retain.ensures.filtered in
    kept ∙ ap (filter (λ (spot : SpotData). has_number c.args.numbers.now spot.num)) here
