use Rattle.std.specs.Prelude.{◌≡◌, [], length}
use Rattle.std.specs.List.{All}
use Rattle.collapse.proofs.strips.empty_strips.Given as goal

-- as many strips as were counted, with no entry
abbrev pub invariant-loop : goal.invariant-loop
invariant-loop l = (length l.strips.items ≡ l.counter) × All (λ list. list.items ≡ []) l.strips.items
