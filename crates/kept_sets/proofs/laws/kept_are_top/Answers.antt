use Rattle.kept_sets.proofs.Families.{kept_is_top}
use Rattle.kept_sets.proofs.laws.kept_are_top.Goals as goal

pub returns : goal.returns
returns g c = λ before after went came old grown step set. kept_is_top (g.Old.SetFamily.fits before) (g.New.SetFamily.fits after) went came old grown step set
