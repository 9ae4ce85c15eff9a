use Rattle.std.specs.Prelude.{[], ◌∷◌, take}
use Rattle.box_tree.specs.Counts.{Rises}
use Rattle.box_tree.specs.Joins.{Adds, InTriples, allow_own, at_three, count_triples}
use Rattle.box_tree.proofs.three.join_thirds.Given as goal

-- the triples with the items so far
abbrev pub invariant-loop-third : goal.invariant-loop-third
invariant-loop-third g l =
    let a = g.A.Located in
    let b = g.B.Located in
    let c = g.C.Located in
    record {
      adds : Adds (at_three (g.P.Prune3.wanted l.prune) l.a.items.items l.b.items.items l.c.items.items) (InTriples (l.place ∷ []) (l.other ∷ []) (take l.third-index l.thirds)) l.fn.found.items l.found.items;
      tests : Rises (count_triples (at_three (allow_own (g.P.Prune3.allows l.prune) a.AXES a.lows a.highs b.AXES b.lows b.highs c.AXES c.lows c.highs) l.a.items.items l.b.items.items l.c.items.items) (l.place ∷ []) (l.other ∷ []) (take l.third-index l.thirds)) l.fn.tally.tests l.tally.tests;
    }
