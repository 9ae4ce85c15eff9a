use Rattle.line_fit.proofs.Bounds.{compared}
use Rattle.line_fit.proofs.quotients.Slope.is_at_most.Goals as goal

pub returns : goal.returns
returns c = rw (← c.self.view_is, ← c.other.view_is) (compared c.self.inside.num c.self.inside.den c.other.inside.num c.other.inside.den c.self.invariant c.other.invariant)
