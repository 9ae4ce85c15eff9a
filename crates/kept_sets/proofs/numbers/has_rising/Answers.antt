use Rattle.std.proofs.Common.{◌∙◌}
use Rattle.kept_sets.proofs.Basics.{search_is}
use Rattle.kept_sets.proofs.numbers.has_rising.Goals as goal

pub returns : goal.returns
returns c = c.is_ok.ensures.value ∙ search_is c.args.items.now c.args.item c.binary_search.result c.requires c.binary_search.ensures.position
