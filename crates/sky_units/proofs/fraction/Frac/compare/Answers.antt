use Rattle.sky_units.proofs.Fractions.{compared}
use Rattle.sky_units.proofs.fraction.Frac.compare.Goals as goal

pub returns : goal.returns
returns c = rw (← c.self.view_is, ← c.other.view_is) (compared c.self.inside.num c.self.inside.den c.other.inside.num c.other.inside.den c.cmp.result c.self.invariant c.other.invariant c.cmp.ensures)
