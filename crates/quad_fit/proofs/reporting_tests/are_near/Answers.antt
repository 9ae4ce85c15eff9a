use Rattle.std.proofs.Common.{◌≡◌, take, to_z, of_z, w64, subst, arith}
use Rattle.std.proofs.lemmas.Int.{to_z-of_z}
use Rattle.std.proofs.lemmas.List.{take_all}
use Rattle.std.proofs.lemmas.List.Elements.{All-more}
use Rattle.quad_fit.specs.NearStart.{AreNearInTime, IsNearInTime}
use Rattle.quad_fit.proofs.reporting_tests.are_near.Goals as goal

pub loop-place-preserved : goal.loop-place-preserved
loop-place-preserved c =
    let near : IsNearInTime (to_z w64 (of_z w64 c.args.epoch)) c.index-spots-place.result = c.is_near.ensures c.if-not-is_near.false in
    All-more (IsNearInTime (to_z w64 (of_z w64 c.args.epoch))) c.args.spots.now c.loop-place.place c.index-spots-place.result c.loop-place-test.true c.loop-place.invariant
    (subst (IsNearInTime (to_z w64 (of_z w64 c.args.epoch))) c.index-spots-place.is near)

pub returns : goal.returns
returns c =
    let epoch : to_z w64 (of_z w64 c.args.epoch) ≡ c.args.epoch = to_z-of_z w64 c.args.epoch c.ranges.epoch in
    let all : AreNearInTime c.args.epoch (take c.loop-place.place c.args.spots.now) = rw epoch at c.loop-place.invariant in
    λ h. subst (AreNearInTime c.args.epoch) (take_all c.loop-place.place c.args.spots.now (omega (arith, c.loop-place-test.false))) all
