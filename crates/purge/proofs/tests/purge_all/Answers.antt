use Rattle.std.proofs.Common.{◌≡◌, ◌<◌, ◌++◌, ◌∷◌, [], ℕ, List, length, subst, sym, ap, ◌∙◌, arith}
use Rattle.line_fit.specs.Slopes.{AreOfOneDay}
use Rattle.sky_units.specs.Arcs.{IsArc}
use Rattle.sky_units.specs.AtPlaces.{spots_at}
use Rattle.purge.proofs.Totals.{few_of_day}
use Rattle.purge.proofs.AllPlaces.{below_all, below_more, spots_all}
use Rattle.purge.proofs.tests.purge_all.Goals as goal

pub loop-at-preserved : goal.loop-at-preserved
loop-at-preserved c = c.in_ok-push.ensures.ok ∙ ap (λ (g : List ℕ). g ++ c.loop-at.at ∷ []) c.loop-at.invariant ∙ below_more c.loop-at.at

pub purge-requires-clause-within : goal.purge-requires-clause-within
purge-requires-clause-within c = rw c.loop-at.invariant (below_all c.loop-at.at (length c.args.spots.now) c.loop-at.auto.at-end)

pub purge-requires-clause-arc : goal.purge-requires-clause-arc
purge-requires-clause-arc c =
    let same : spots_at c.args.spots.now c.loop-at.group ≡ c.args.spots.now = ap (spots_at c.args.spots.now) c.loop-at.invariant ∙ spots_all c.args.spots.now c.loop-at.at (omega (arith, c.loop-at.auto.at-end, c.loop-at-test.false)) in
    subst IsArc (sym same) c.requires.arc

pub purge-requires-clause-day : goal.purge-requires-clause-day
purge-requires-clause-day c =
    let same : spots_at c.args.spots.now c.loop-at.group ≡ c.args.spots.now = ap (spots_at c.args.spots.now) c.loop-at.invariant ∙ spots_all c.args.spots.now c.loop-at.at (omega (arith, c.loop-at.auto.at-end, c.loop-at-test.false)) in
    subst AreOfOneDay (sym same) c.requires.day

pub overflow_cast-at : goal.overflow_cast-at
overflow_cast-at c =
    let few = few_of_day c.args.spots.now c.requires.arc.rising c.requires.day in
    let inside : c.loop-at.at < length c.args.spots.now = c.loop-at-test.true in
    let small : c.loop-at.at < 4294967296 = omega (arith, few, inside) in
    omega (arith, small)
