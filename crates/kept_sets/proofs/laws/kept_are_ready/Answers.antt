use Rattle.kept_sets.proofs.Families.{ready}
use Rattle.kept_sets.proofs.laws.kept_are_ready.Goals as goal

pub returns : goal.returns
returns g c = λ before after went came old grown step. ready (g.Old.SetFamily.fits before) (g.New.SetFamily.fits after) went came old grown step
