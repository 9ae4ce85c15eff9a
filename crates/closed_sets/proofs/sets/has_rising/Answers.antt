use Rattle.std.proofs.Common.{◌∙◌}
use Rattle.closed_sets.proofs.Sorted.{search_is}
use Rattle.closed_sets.proofs.sets.has_rising.Goals as goal

pub returns : goal.returns
returns c = c.is_ok.ensures.value ∙ search_is c.args.set.now c.args.number c.binary_search.result c.requires c.binary_search.ensures.position
