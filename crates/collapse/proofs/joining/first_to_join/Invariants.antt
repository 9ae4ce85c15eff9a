use Rattle.std.specs.Prelude.{map}
use Rattle.collapse.proofs.Searching.{AreSearched}
use Rattle.collapse.proofs.joining.first_to_join.Given as goal

-- the first of the strips seen
abbrev pub invariant-loop-strip : goal.invariant-loop-strip
invariant-loop-strip l = AreSearched l.settings l.spots l.pair l.groups (map (λ list. list.items) l.strips) l.low l.strip l.first
