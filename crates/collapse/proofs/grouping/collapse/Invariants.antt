use Rattle.std.specs.Prelude.{map}
use Rattle.collapse.proofs.Filing.{AreJoined}
use Rattle.collapse.proofs.grouping.collapse.Given as goal

-- the pairs seen have joined groups, and the groups are filed
abbrev pub invariant-loop-at : goal.invariant-loop-at
invariant-loop-at l = AreJoined l.settings l.spots l.pairs l.at l.groups.items l.grid.width (map (λ list. list.items) l.strips.items)
