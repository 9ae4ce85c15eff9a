use Rattle.std.proofs.Common.{◌≡◌, ℕ, ◌+◌, ◌++◌, ℤ, List, not, ap, ap₂, ◌∙◌, rules, w64, arith}
use Rattle.std.specs.List.{filter}
use mir.Facts.{to_z-of_z}
use mir.Val.{SFits, to_z, of_z}
use Rattle.exposure_log.specs.Held.{spots_of_night}
use Rattle.sky_units.specs.SpotData.{SpotData}
use Rattle.sky_units.specs.TrackletData.{NightTracklets}
use Rattle.window_incr.specs.Asked.{are_untracked, has_number}
use Rattle.window_incr.specs.Asking.{one_if_some}
use Rattle.window_incr.proofs.AskedNights.{all_seen, at_most_one, night_seen, night_untracked}
use Rattle.window_incr.proofs.asking.by_night.Goals as goal

pub returns-then-not-is_tracked : goal.returns-then-not-is_tracked
returns-then-not-is_tracked c = λ s ids a.
    let fits : SFits w64 c.number.result = search rules in
    let fits' : SFits w64 c.number-then-not-is_tracked.result = search rules in
    let plain : to_z w64 (of_z w64 c.number-then-not-is_tracked.result) ≡ c.number-then-not-is_tracked.result = simp to_z-of_z in
    let mine : c.in_ok-spots.spots.items ≡ filter (λ (spot : SpotData). has_number c.args.numbers.now spot.num) (spots_of_night c.args.log.now c.night-item.result.number) =
    (simp to_z-of_z at c.in_ok-spots.ensures) ∙ ap (λ (k : ℤ). filter (λ (spot : SpotData). has_number c.args.numbers.now spot.num) (spots_of_night c.args.log.now k)) c.number.ensures in
    let tracked = c.is_tracked.ensures ∙ ap₂ (λ (spots : List SpotData) (list : NightTracklets). not (are_untracked spots list)) c.as_slice.ensures.value c.tracklets.ensures in
    rw (plain, c.number-then-not-is_tracked.ensures)
    (night_untracked c.args.log.now c.args.nights.now c.args.numbers.now s ids c.loop-night.night-index c.loop-night.found.nights c.night-item.result c.loop-night.found.spots.items c.in_ok-spots.spots.items c.is_tracked.result
    a c.loop-night-test.true c.night-item.is mine tracked c.if-not-is_tracked.true (c.loop-night.invariant.so_far s ids a))

pub loop-night-preserved : goal.loop-night-preserved
loop-night-preserved c =
    let fits : SFits w64 c.number.result = search rules in
    let mine : c.in_ok-spots.spots.items ≡ filter (λ (spot : SpotData). has_number c.args.numbers.now spot.num) (spots_of_night c.args.log.now c.night-item.result.number) =
    (simp to_z-of_z at c.in_ok-spots.ensures) ∙ ap (λ (k : ℤ). filter (λ (spot : SpotData). has_number c.args.numbers.now spot.num) (spots_of_night c.args.log.now k)) c.number.ensures in
    let tracked = c.is_tracked.ensures ∙ ap₂ (λ (spots : List SpotData) (list : NightTracklets). not (are_untracked spots list)) c.as_slice.ensures.value c.tracklets.ensures in
    let count = c.in_ok-add_night.ensures.nights ∙ ap (λ (xs : List SpotData). c.loop-night.found.nights + one_if_some xs) c.as_slice-in-loop-night.ensures.value in
    let spots = c.in_ok-add_night.ensures.spots ∙ ap (λ (xs : List SpotData). c.loop-night.found.spots.items ++ xs) c.as_slice-in-loop-night.ensures.value in
    record {
      few = omega (arith, c.loop-night.invariant.few, count, at_most_one c.in_ok-spots.spots.items);
      so_far = λ s ids a.
          night_seen c.args.log.now c.args.nights.now c.args.numbers.now s ids c.loop-night.night-index c.loop-night.found.nights c.add_night.new.found.nights c.night-item.result c.loop-night.found.spots.items
          c.add_night.new.found.spots.items c.in_ok-spots.spots.items c.is_tracked.result a c.loop-night-test.true c.night-item.is mine tracked c.if-not-is_tracked.false count spots (c.loop-night.invariant.so_far s ids a);
    }

pub returns : goal.returns
returns c = λ s ids a. all_seen s ids c.args.nights.now c.loop-night.night-index c.loop-night.found.nights c.loop-night.found.spots.items a.kept c.loop-night-test.false (c.loop-night.invariant.so_far s ids a)
