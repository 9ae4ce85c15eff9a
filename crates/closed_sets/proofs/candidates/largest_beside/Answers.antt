use Rattle.std.proofs.Common.{ℕ, List, subst}
use Rattle.closed_sets.specs.Search.{IsUnion}
use Rattle.closed_sets.proofs.Largest.{largest_whole}
use Rattle.closed_sets.proofs.candidates.largest_beside.Goals as goal

pub returns-then-branch-clause-largest : goal.returns-then-branch-clause-largest
returns-then-branch-clause-largest g c =
    let fits = g.F.Family.Fits c.args.family.now in
    let union : IsUnion c.args.set.items c.args.candidates.now c.in_ok-whole.whole.items = subst (λ (o : List ℕ). IsUnion o c.args.candidates.now c.in_ok-whole.whole.items) c.as_slice.ensures.value c.in_ok-whole.ensures in
    largest_whole fits (g.met.F.Family.hereditary c.args.family.now) c.args.set.items c.args.candidates.now c.in_ok-whole.whole.items union (subst fits c.as_slice-2.ensures.value (c.in_ok-fits.ensures.fits.0 c.if-branch.true))
