use Rattle.std.proofs.Common.{ℕ, List, map, take}
use Rattle.std.specs.List.{Contains}
use Rattle.sky_units.specs.Tracks.{AreAmong}
use Rattle.closed_sets.proofs.tests.is_of_one.Given as goal

-- none of the objects so far
abbrev pub invariant-loop-object : goal.invariant-loop-object
invariant-loop-object l = (x : List ℕ) → Contains (take l.object-index (map (λ object. object.items) l.objects)) x → ¬ AreAmong l.numbers x
