use Rattle.std.proofs.Common.{◌≡◌, ◌++◌, ◌∷◌, [], ◌+◌, ◌*◌, ◌≤◌, List, pos, length, ap, sym, subst, ◌∙◌, arith, rules, w64}
use Rattle.std.proofs.lemmas.Int.{ints}
use mir.Facts.{to_z-of_z}
use mir.Val.{SFits}
use Rattle.closed_tracks.proofs.NextNights.{AreMade, IsNext, IsWithin, day_of_two, few_distinct, night_of_two, no_nights, one_more_made}
use Rattle.kept_nights.specs.KeptNights.{with_night}
use Rattle.night_tree.specs.Nights.{NightData, tracklets_of, tracklets_of_each}
use Rattle.sky_units.specs.TrackletData.{NightTracklets}
use Rattle.sky_units.specs.Tracks.{AreNights}
use Rattle.kept_tracks.proofs.OneByOne.{put_behind}
use Rattle.kept_tracks.proofs.tests.tracks_after.Goals as goal

pub loop-day-init : goal.loop-day-init
loop-day-init c = rw c.new-nights.ensures.items (record { made = no_nights _ _ _ _ (omega (arith, ints)); kept = c.new-kept.ensures c.args.settings.now })

pub build-requires-clause-day : goal.build-requires-clause-day
build-requires-clause-day c = rw c.in_ok-spots.ensures.items (day_of_two c.spot.result c.spot-in-loop-day.result (omega (arith, ints, c.spot.ensures, c.spot-in-loop-day.ensures)))

pub renew-requires-clause-now : goal.renew-requires-clause-now
renew-requires-clause-now c =
    let first : IsWithin (pos (59000250000 + 1000000 * c.loop-day.day)) (pos (59000250000 + 1000000 * (c.loop-day.day + 1))) (2 * c.loop-day.day) (2 * (c.loop-day.day + 1)) c.spot.result = record {
      from = omega (arith, ints, c.spot.ensures);
      to = omega (arith, ints, c.spot.ensures);
      num_from = omega (arith, c.spot.ensures);
      num_to = omega (arith, c.spot.ensures);
    } in
    let second : IsWithin (pos (59000250000 + 1000000 * c.loop-day.day)) (pos (59000250000 + 1000000 * (c.loop-day.day + 1))) (2 * c.loop-day.day) (2 * (c.loop-day.day + 1)) c.spot-in-loop-day.result = record {
      from = omega (arith, ints, c.spot-in-loop-day.ensures);
      to = omega (arith, ints, c.spot-in-loop-day.ensures);
      num_from = omega (arith, c.spot-in-loop-day.ensures);
      num_to = omega (arith, c.spot-in-loop-day.ensures);
    } in
    let tracklets : c.in_ok-night.night.tracklets ≡ tracklets_of c.args.settings.now (c.spot.result ∷ c.spot-in-loop-day.result ∷ []) = ap (λ (n : NightData). n.tracklets) c.in_ok-night.ensures ∙ ap (tracklets_of c.args.settings.now) c.in_ok-spots.ensures.items in
    let fits : SFits w64 c.from.result = search rules in
    let number : c.in_ok-night.night.number ≡ pos (59000 + c.loop-day.day) = (simp to_z-of_z at (ap (λ (n : NightData). n.number) c.in_ok-night.ensures)) ∙ c.from.ensures in
    let few : length c.in_ok-night.night.tracklets ≤ 1 = subst (λ (t : NightTracklets). length t ≤ 1) c.tracklets.ensures c.if-tracklets-gt1.false in
    let next : IsNext (pos (59000250000 + 1000000 * c.loop-day.day)) (pos (59000250000 + 1000000 * (c.loop-day.day + 1))) (2 * c.loop-day.day) (2 * (c.loop-day.day + 1)) c.in_ok-night.night.tracklets = subst (IsNext _ _ _ _) (sym tracklets)
    (night_of_two _ _ _ _ c.args.settings.now c.spot.result c.spot-in-loop-day.result first second (omega (arith, c.spot.ensures, c.spot-in-loop-day.ensures))) in
    let made : AreMade (pos 59000250000) (pos (59000250000 + 1000000 * (c.loop-day.day + 1))) (2 * (c.loop-day.day + 1)) (pos (59000 + (c.loop-day.day + 1))) (c.loop-day.nights.items ++ c.in_ok-night.night ∷ []) =
    one_more_made _ _ _ _ _ (pos (59000 + c.loop-day.day)) _ _ _ (omega (arith, ints)) (omega (arith, ints)) (omega (arith, ints)) (omega arith) c.loop-day.invariant.made (omega (arith, ints)) number next few in
    let with : with_night c.in_ok-night.night c.loop-day.nights.items ≡ c.loop-day.nights.items ++ c.in_ok-night.night ∷ [] = put_behind c.loop-day.nights.items c.in_ok-night.night (pos (59000 + c.loop-day.day)) number c.loop-day.invariant.made.below in
    subst (λ (list : List NightData). AreNights (tracklets_of_each list)) (sym with) made.up_to.are

pub renew-requires-clause-different : goal.renew-requires-clause-different
renew-requires-clause-different c = few_distinct c.in_ok-night.night.tracklets (subst (λ (t : NightTracklets). length t ≤ 1) c.tracklets.ensures c.if-tracklets-gt1.false)

pub loop-day-preserved : goal.loop-day-preserved
loop-day-preserved c =
    let first : IsWithin (pos (59000250000 + 1000000 * c.loop-day.day)) (pos (59000250000 + 1000000 * (c.loop-day.day + 1))) (2 * c.loop-day.day) (2 * (c.loop-day.day + 1)) c.spot.result = record {
      from = omega (arith, ints, c.spot.ensures);
      to = omega (arith, ints, c.spot.ensures);
      num_from = omega (arith, c.spot.ensures);
      num_to = omega (arith, c.spot.ensures);
    } in
    let second : IsWithin (pos (59000250000 + 1000000 * c.loop-day.day)) (pos (59000250000 + 1000000 * (c.loop-day.day + 1))) (2 * c.loop-day.day) (2 * (c.loop-day.day + 1)) c.spot-in-loop-day.result = record {
      from = omega (arith, ints, c.spot-in-loop-day.ensures);
      to = omega (arith, ints, c.spot-in-loop-day.ensures);
      num_from = omega (arith, c.spot-in-loop-day.ensures);
      num_to = omega (arith, c.spot-in-loop-day.ensures);
    } in
    let tracklets : c.in_ok-night.night.tracklets ≡ tracklets_of c.args.settings.now (c.spot.result ∷ c.spot-in-loop-day.result ∷ []) = ap (λ (n : NightData). n.tracklets) c.in_ok-night.ensures ∙ ap (tracklets_of c.args.settings.now) c.in_ok-spots.ensures.items in
    let fits : SFits w64 c.from.result = search rules in
    let number : c.in_ok-night.night.number ≡ pos (59000 + c.loop-day.day) = (simp to_z-of_z at (ap (λ (n : NightData). n.number) c.in_ok-night.ensures)) ∙ c.from.ensures in
    let few : length c.in_ok-night.night.tracklets ≤ 1 = subst (λ (t : NightTracklets). length t ≤ 1) c.tracklets.ensures c.if-tracklets-gt1.false in
    let next : IsNext (pos (59000250000 + 1000000 * c.loop-day.day)) (pos (59000250000 + 1000000 * (c.loop-day.day + 1))) (2 * c.loop-day.day) (2 * (c.loop-day.day + 1)) c.in_ok-night.night.tracklets = subst (IsNext _ _ _ _) (sym tracklets)
    (night_of_two _ _ _ _ c.args.settings.now c.spot.result c.spot-in-loop-day.result first second (omega (arith, c.spot.ensures, c.spot-in-loop-day.ensures))) in
    let made : AreMade (pos 59000250000) (pos (59000250000 + 1000000 * (c.loop-day.day + 1))) (2 * (c.loop-day.day + 1)) (pos (59000 + (c.loop-day.day + 1))) (c.loop-day.nights.items ++ c.in_ok-night.night ∷ []) =
    one_more_made _ _ _ _ _ (pos (59000 + c.loop-day.day)) _ _ _ (omega (arith, ints)) (omega (arith, ints)) (omega (arith, ints)) (omega arith) c.loop-day.invariant.made (omega (arith, ints)) number next few in
    let with : with_night c.in_ok-night.night c.loop-day.nights.items ≡ c.loop-day.nights.items ++ c.in_ok-night.night ∷ [] = put_behind c.loop-day.nights.items c.in_ok-night.night (pos (59000 + c.loop-day.day)) number c.loop-day.invariant.made.below in
    record {
      made = subst (AreMade (pos 59000250000) (pos (59000250000 + 1000000 * (c.loop-day.day + 1))) (2 * (c.loop-day.day + 1)) (pos (59000 + (c.loop-day.day + 1)))) (sym (c.in_ok-renew.ensures.nights ∙ with)) made;
      kept = c.in_ok-renew.ensures.ok;
    }
