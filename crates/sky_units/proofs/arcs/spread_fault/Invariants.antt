use Rattle.sky_units.proofs.Spread.{NearBefore}
use Rattle.sky_units.proofs.arcs.spread_fault.Given as goal

abbrev pub invariant-loop-i : goal.invariant-loop-i
invariant-loop-i l = NearBefore l.spots l.i 0

abbrev pub invariant-loop-j : goal.invariant-loop-j
invariant-loop-j l = NearBefore l.spots l.i l.j
