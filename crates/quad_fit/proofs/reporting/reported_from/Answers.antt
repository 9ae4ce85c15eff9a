use Rattle.std.proofs.Common.{subst, sym}
use Rattle.sky_units.specs.declared.axis.Axis.{Axis}
use Rattle.quad_fit.specs.Bases.{IsLevelOn}
use Rattle.quad_fit.proofs.reporting.reported_from.Goals as goal

pub returns-in-Ra : goal.returns-in-Ra
returns-in-Ra c = λ settings is. c.told.ensures settings (subst (λ (axis : Axis). IsLevelOn axis settings c.args.basis.now.base c.args.spots.now c.args.basis.now.ra) (sym c.in-Ra.is) is.on_ra)

pub returns-in-Dec : goal.returns-in-Dec
returns-in-Dec c = λ settings is. c.told-in-Dec.ensures settings (subst (λ (axis : Axis). IsLevelOn axis settings c.args.basis.now.base c.args.spots.now c.args.basis.now.dec) (sym c.in-Dec.is) is.on_dec)
