use Rattle.std.proofs.Common.{◌≡◌, ◌∷◌, [], ◌+◌, ◌*◌, ◌≤◌, pos, length, ap, sym, subst, ◌∙◌, arith, rules, w64}
use Rattle.std.proofs.lemmas.Int.{ints}
use mir.Facts.{to_z-of_z}
use mir.Val.{SFits}
use Rattle.night_tree.specs.Nights.{NightData, tracklets_of}
use Rattle.sky_units.specs.TrackletData.{NightTracklets}
use Rattle.closed_tracks.proofs.NextNights.{IsNext, IsWithin, day_of_two, night_of_two, no_nights, one_more_made}
use Rattle.closed_tracks.proofs.tests.nights_of.Goals as goal

pub loop-day-init : goal.loop-day-init
loop-day-init c = rw c.new-nights.ensures.items (no_nights _ _ _ _ (omega (arith, ints)))

pub build-requires-clause-day : goal.build-requires-clause-day
build-requires-clause-day c = rw c.in_ok-spots.ensures.items (day_of_two c.spot.result c.spot-in-loop-day.result (omega (arith, ints, c.spot.ensures, c.spot-in-loop-day.ensures)))

pub loop-day-preserved : goal.loop-day-preserved
loop-day-preserved c =
    let first : IsWithin (pos (59000250000 + 1000000 * c.loop-day.day)) (pos (59000250000 + 1000000 * (c.loop-day.day + 1))) (2 * c.loop-day.day) (2 * (c.loop-day.day + 1)) c.spot.result = record {
      from = omega (arith, ints, c.spot.ensures);
      to = omega (arith, ints, c.spot.ensures);
      num_from = omega (arith, c.spot.ensures);
      num_to = omega (arith, c.spot.ensures);
    } in
    let second : IsWithin (pos (59000250000 + 1000000 * c.loop-day.day)) (pos (59000250000 + 1000000 * (c.loop-day.day + 1))) (2 * c.loop-day.day) (2 * (c.loop-day.day + 1)) c.spot-in-loop-day.result = record {
      from = omega (arith, ints, c.spot-in-loop-day.ensures);
      to = omega (arith, ints, c.spot-in-loop-day.ensures);
      num_from = omega (arith, c.spot-in-loop-day.ensures);
      num_to = omega (arith, c.spot-in-loop-day.ensures);
    } in
    let tracklets : c.in_ok-night.night.tracklets ≡ tracklets_of c.args.settings.now (c.spot.result ∷ c.spot-in-loop-day.result ∷ []) = ap (λ (n : NightData). n.tracklets) c.in_ok-night.ensures ∙ ap (tracklets_of c.args.settings.now) c.in_ok-spots.ensures.items in
    let fits : SFits w64 c.from.result = search rules in
    let number : c.in_ok-night.night.number ≡ pos (59000 + c.loop-day.day) = (simp to_z-of_z at (ap (λ (n : NightData). n.number) c.in_ok-night.ensures)) ∙ c.from.ensures in
    let few : length c.in_ok-night.night.tracklets ≤ 1 = subst (λ (t : NightTracklets). length t ≤ 1) c.tracklets.ensures c.if-tracklets-gt1.false in
    let next : IsNext (pos (59000250000 + 1000000 * c.loop-day.day)) (pos (59000250000 + 1000000 * (c.loop-day.day + 1))) (2 * c.loop-day.day) (2 * (c.loop-day.day + 1)) c.in_ok-night.night.tracklets = subst (IsNext _ _ _ _) (sym tracklets)
    (night_of_two _ _ _ _ c.args.settings.now c.spot.result c.spot-in-loop-day.result first second (omega (arith, c.spot.ensures, c.spot-in-loop-day.ensures))) in
    rw c.in_ok-push.ensures.items
    (one_more_made _ _ _ _ _ _ _ _ _ (omega (arith, ints)) (omega (arith, ints)) (omega (arith, ints)) (omega arith) c.loop-day.invariant (omega (arith, ints)) number next few)

pub returns-clause-follow : goal.returns-clause-follow
returns-clause-follow c = c.loop-day.invariant.up_to.are
