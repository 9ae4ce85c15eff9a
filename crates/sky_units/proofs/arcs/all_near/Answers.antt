use Rattle.std.proofs.Common.{◌≡◌, ◌++◌, ◌+◌, ◌-ℤ◌, ◌≤ℤ◌, ◌<ℤ◌, to_z, of_z, w64, refl, arith}
use Rattle.std.specs.Int.{int_min, int_max}
use Rattle.std.proofs.lemmas.Bool.{false≢true}
use Rattle.std.proofs.lemmas.Int.{ints}
use Rattle.sky_units.proofs.Reaches.{IsReach, reach_start, reach_more, near_of_reach, apart_of_reach, widened_ends, span_fits, span_read}
use Rattle.sky_units.specs.Arcs.{quarter_turn}
use Rattle.sky_units.proofs.arcs.all_near.Goals as goal

pub loop-i-init : goal.loop-i-init
loop-i-init c = (reach_start c.args.axis c.joined_spot-first.result.now (c.args.a.now ++ c.args.b.now ++ c.args.c.now) (omega arith) c.joined_spot-first.ensures, omega (arith, ints))

pub overflow_sub-reach : goal.overflow_sub-reach
overflow_sub-reach c =
    let spots = c.args.a.now ++ c.args.b.now ++ c.args.c.now in
    let r = c.loop-i.invariant in
    let w = c.widened-reach in
    let place : to_z w64 (of_z w64 c.offset-place.result) ≡ c.offset-place.result = omega (arith, ints) in
    let low : w.result.low ≡ int_min c.loop-i.reach.low c.offset-place.result = rw place at w.ensures.low in
    let high : w.result.high ≡ int_max c.loop-i.reach.high c.offset-place.result = rw place at w.ensures.high in
    let ends = widened_ends c.loop-i.reach.low c.loop-i.reach.high c.offset-place.result w.result.low w.result.high r.0.around.0 r.0.around.1 r.1 c.offset-place.ensures.range low high in
    span_fits w.result.low w.result.high ends.0 ends.1

pub returns-then-reach-ge-QUARTER_TURN : goal.returns-then-reach-ge-QUARTER_TURN
returns-then-reach-ge-QUARTER_TURN c =
    let spots = c.args.a.now ++ c.args.b.now ++ c.args.c.now in
    let r = c.loop-i.invariant in
    let w = c.widened-reach in
    let place : to_z w64 (of_z w64 c.offset-place.result) ≡ c.offset-place.result = omega (arith, ints) in
    let low : w.result.low ≡ int_min c.loop-i.reach.low c.offset-place.result = rw place at w.ensures.low in
    let high : w.result.high ≡ int_max c.loop-i.reach.high c.offset-place.result = rw place at w.ensures.high in
    let ends = widened_ends c.loop-i.reach.low c.loop-i.reach.high c.offset-place.result w.result.low w.result.high r.0.around.0 r.0.around.1 r.1 c.offset-place.ensures.range low high in
    let span = span_read w.result.low w.result.high ends.0 ends.1 in
    let more = reach_more c.args.axis c.joined_spot-first.result.now spots c.loop-i.i c.loop-i.reach.low c.loop-i.reach.high c.offset-place.result c.joined_spot.result.now (omega arith) c.joined_spot.ensures c.offset-place.ensures.value r.0 in
    let reach : IsReach c.args.axis c.joined_spot-first.result.now spots (c.loop-i.i + 1) w.result.low w.result.high = rw (low, high) more in
    let wide : quarter_turn ≤ℤ (w.result.high -ℤ w.result.low) = omega (arith, ints, span, c.if-reach-ge-QUARTER_TURN.true) in
    (λ h. absurd (false≢true h), λ h. absurd (apart_of_reach c.args.axis c.joined_spot-first.result.now spots (c.loop-i.i + 1) w.result.low w.result.high c.joined_spot-first.ensures reach wide h))

pub loop-i-preserved : goal.loop-i-preserved
loop-i-preserved c =
    let spots = c.args.a.now ++ c.args.b.now ++ c.args.c.now in
    let r = c.loop-i.invariant in
    let w = c.widened-reach in
    let place : to_z w64 (of_z w64 c.offset-place.result) ≡ c.offset-place.result = omega (arith, ints) in
    let low : w.result.low ≡ int_min c.loop-i.reach.low c.offset-place.result = rw place at w.ensures.low in
    let high : w.result.high ≡ int_max c.loop-i.reach.high c.offset-place.result = rw place at w.ensures.high in
    let ends = widened_ends c.loop-i.reach.low c.loop-i.reach.high c.offset-place.result w.result.low w.result.high r.0.around.0 r.0.around.1 r.1 c.offset-place.ensures.range low high in
    let span = span_read w.result.low w.result.high ends.0 ends.1 in
    let more = reach_more c.args.axis c.joined_spot-first.result.now spots c.loop-i.i c.loop-i.reach.low c.loop-i.reach.high c.offset-place.result c.joined_spot.result.now (omega arith) c.joined_spot.ensures c.offset-place.ensures.value r.0 in
    let reach : IsReach c.args.axis c.joined_spot-first.result.now spots (c.loop-i.i + 1) w.result.low w.result.high = rw (low, high) more in
    let narrow : (w.result.high -ℤ w.result.low) <ℤ quarter_turn = omega (arith, ints, span, c.if-reach-ge-QUARTER_TURN.false) in
    (reach, narrow)

pub returns : goal.returns
returns c =
    let spots = c.args.a.now ++ c.args.b.now ++ c.args.c.now in
    let near = near_of_reach c.args.axis c.joined_spot-first.result.now spots c.loop-i.i c.loop-i.reach.low c.loop-i.reach.high (omega arith) c.loop-i.invariant.0 c.loop-i.invariant.1 in
    (λ h. near, λ h. refl)
