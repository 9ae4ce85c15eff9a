use Rattle.std.proofs.Common.{◌++◌, ◌-ℤ◌, ◌<ℤ◌}
use Rattle.sky_units.proofs.Reaches.{IsReach}
use Rattle.sky_units.specs.Arcs.{quarter_turn}
use Rattle.sky_units.proofs.arcs.all_near.Given as goal

abbrev pub invariant-loop-i : goal.invariant-loop-i
invariant-loop-i l = IsReach l.axis l.first (l.a ++ l.b ++ l.c) l.i l.reach.low l.reach.high × ((l.reach.high -ℤ l.reach.low) <ℤ quarter_turn)
