use Rattle.sky_units.proofs.Fractions.{quotient_exact}
use Rattle.sky_units.proofs.euclid.quotient.Goals as goal

pub returns : goal.returns
returns c = quotient_exact c.args.number c.args.divisor c.ranges.number c.ranges.divisor c.requires.positive c.requires.divides
