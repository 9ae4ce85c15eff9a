use Rattle.std.specs.Prelude.{take}
use Rattle.sky_units.specs.Motion.{points}
use Rattle.purge.proofs.Totals.{AreSumsOf}
use Rattle.purge.proofs.farthest.least_squares.Given as goal

-- the sums are those of the points seen
abbrev pub invariant-loop-at : goal.invariant-loop-at
invariant-loop-at l = AreSumsOf l.sums.count l.sums.times l.sums.squares l.sums.positions l.sums.products (take l.at (points l.fn.axis l.spots))
