use Rattle.kept_sets.proofs.Families.{kept_are_after}
use Rattle.kept_sets.proofs.laws.kept_are_after.Goals as goal

pub returns : goal.returns
returns g c = λ before after went came old grown step set. kept_are_after (g.Old.SetFamily.fits before) (g.New.SetFamily.fits after) went came old grown step set
