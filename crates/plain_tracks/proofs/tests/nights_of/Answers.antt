use Rattle.std.proofs.Common.{◌≡◌, ◌∷◌, [], ◌++◌, ◌+◌, ◌*◌, pos, ap, ◌∙◌, arith}
use Rattle.std.proofs.lemmas.Int.{ints}
use Rattle.std.proofs.lemmas.List.{map-append}
use Rattle.night_tree.specs.Nights.{NightData, tracklets_of, tracklets_of_each}
use Rattle.plain_tracks.proofs.MoreNights.{IsWithin, day_of_two, night_of_two, one_more_night}
use Rattle.plain_tracks.proofs.tests.nights_of.Goals as goal

pub build-requires-clause-day : goal.build-requires-clause-day
build-requires-clause-day c = rw c.in_ok-spots.ensures.items (day_of_two c.spot.result c.spot-in-loop-day.result (omega (arith, ints, c.spot.ensures, c.spot-in-loop-day.ensures)))

pub loop-day-preserved : goal.loop-day-preserved
loop-day-preserved c =
    let first : IsWithin (pos (59000250000 + 1000000 * c.loop-day.day)) (pos (59000250000 + 1000000 * (c.loop-day.day + 1))) (2 * c.loop-day.day) (2 * (c.loop-day.day + 1)) c.spot.result = record {
      from = omega (arith, ints, c.spot.ensures);
      to = omega (arith, ints, c.spot.ensures);
      num_from = omega (arith, c.spot.ensures);
      num_to = omega (arith, c.spot.ensures);
    } in
    let second : IsWithin (pos (59000250000 + 1000000 * c.loop-day.day)) (pos (59000250000 + 1000000 * (c.loop-day.day + 1))) (2 * c.loop-day.day) (2 * (c.loop-day.day + 1)) c.spot-in-loop-day.result = record {
      from = omega (arith, ints, c.spot-in-loop-day.ensures);
      to = omega (arith, ints, c.spot-in-loop-day.ensures);
      num_from = omega (arith, c.spot-in-loop-day.ensures);
      num_to = omega (arith, c.spot-in-loop-day.ensures);
    } in
    let night : c.in_ok-build.field-0.tracklets ≡ tracklets_of c.args.settings.now (c.spot.result ∷ c.spot-in-loop-day.result ∷ []) =
    ap (λ (n : NightData). n.tracklets) c.in_ok-build.ensures ∙ ap (tracklets_of c.args.settings.now) c.in_ok-spots.ensures.items in
    let each : tracklets_of_each c.push.new.self.items ≡ tracklets_of_each c.loop-day.nights.items ++ tracklets_of c.args.settings.now (c.spot.result ∷ c.spot-in-loop-day.result ∷ []) ∷ [] =
    ap tracklets_of_each c.in_ok-push.ensures.items ∙ (map-append (λ (n : NightData). n.tracklets) c.loop-day.nights.items (c.in_ok-build.field-0 ∷ []) ∙ ap (λ t. tracklets_of_each c.loop-day.nights.items ++ t ∷ []) night) in
    rw each
    (one_more_night _ _ _ _ _ _ _ (omega (arith, ints)) (omega (arith, ints)) (omega (arith, ints)) (omega arith) c.loop-day.invariant
    (night_of_two _ _ _ _ c.args.settings.now c.spot.result c.spot-in-loop-day.result first second (omega (arith, c.spot.ensures, c.spot-in-loop-day.ensures))))
