use Rattle.std.proofs.Common.{ℕ, ◌∷◌, take}
use Rattle.std.specs.List.{Contains}
use Rattle.closed_sets.specs.Around.{FitTogether}
use Rattle.closed_sets.specs.Counting.{Rises}
use Rattle.closed_sets.proofs.candidates.fits_with_none.Given as goal

-- none of the numbers so far
abbrev pub invariant-loop-number : goal.invariant-loop-number
invariant-loop-number g l = record {
  none : (x : ℕ) → Contains (take l.number-index l.numbers) x → ¬ FitTogether (g.F.Family.Fits l.family) (x ∷ l.set);
  tests : Rises l.number-index l.fn.tally.tests l.tally.tests;
}
