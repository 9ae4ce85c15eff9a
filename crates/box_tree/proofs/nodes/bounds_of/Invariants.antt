use Rattle.std.specs.Prelude.{take}
use Rattle.std.specs.List.{All}
use Rattle.box_tree.specs.Nodes.{Lies}
use Rattle.box_tree.proofs.nodes.bounds_of.Given as goal

-- the box holds the items so far
abbrev pub invariant-loop-place : goal.invariant-loop-place
invariant-loop-place g l = All (λ place. Lies g.T.Located.AXES g.T.Located.lows g.T.Located.highs l.items place l.bounds) (take l.place-index l.places)
