use Rattle.std.proofs.Common.{◌∙◌}
use Rattle.kept_sets.proofs.Basics.{search_is}
use Rattle.tracklet_register.proofs.renewing.has_rising.Goals as goal

pub returns : goal.returns
returns c = c.is_ok.ensures.value ∙ search_is c.args.numbers.now c.args.number c.binary_search.result c.requires c.binary_search.ensures.position
