use Rattle.multi_tree.proofs.FittingSets.{triples_are_sets}
use Rattle.multi_tree.proofs.laws.fitting_triples_are_fitting_sets.Goals as goal

pub returns : goal.returns
returns c = triples_are_sets
