use Rattle.std.proofs.Common.{◌++◌}
use Rattle.sky_units.proofs.EpochOrder.{RiseBelow}
use Rattle.sky_units.proofs.arcs.rise.Given as goal

abbrev pub invariant-loop-i : goal.invariant-loop-i
invariant-loop-i l = RiseBelow (l.a ++ l.b ++ l.c) l.i
