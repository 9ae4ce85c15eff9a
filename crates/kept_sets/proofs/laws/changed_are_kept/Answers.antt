use Rattle.kept_sets.proofs.Families.{kept_now}
use Rattle.kept_sets.proofs.laws.changed_are_kept.Goals as goal

pub returns : goal.returns
returns g c = λ before after went came old grown now step once exactly. kept_now (g.Old.SetFamily.fits before) (g.New.SetFamily.fits after) went came old grown step now once exactly
