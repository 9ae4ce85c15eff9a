use Rattle.std.specs.Prelude.{◌≡◌}
use Rattle.sky_units.specs.Pairs.{below}
use Rattle.purge.proofs.tests.purge_all.Given as goal

abbrev pub invariant-loop-at : goal.invariant-loop-at
invariant-loop-at l = l.group ≡ below l.at
