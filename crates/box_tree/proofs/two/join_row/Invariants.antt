use Rattle.std.specs.Prelude.{[], ◌∷◌, take}
use Rattle.box_tree.specs.Counts.{Rises}
use Rattle.box_tree.specs.Joins.{Adds, InPairs, allows_own, at_two, count_pairs}
use Rattle.box_tree.proofs.two.join_row.Given as goal

-- the pairs with the items so far
abbrev pub invariant-loop-other : goal.invariant-loop-other
invariant-loop-other g l =
    let a = g.A.Located in
    let b = g.B.Located in
    record {
      adds : Adds (at_two (g.P.Prune2.wanted l.prune) l.a.items.items l.b.items.items) (InPairs (l.place ∷ []) (take l.other-index l.others)) l.fn.found.items l.found.items;
      tests : Rises (count_pairs (at_two (allows_own (g.P.Prune2.allows l.prune) a.AXES a.lows a.highs b.AXES b.lows b.highs) l.a.items.items l.b.items.items) (l.place ∷ []) (take l.other-index l.others)) l.fn.tally.tests l.tally.tests;
    }
