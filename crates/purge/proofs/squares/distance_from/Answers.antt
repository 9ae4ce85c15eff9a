use Rattle.std.proofs.Common.{ap, ◌∙◌}
use Rattle.std.specs.Int.RustNames.{unsigned_abs}
use Rattle.purge.proofs.Terms.{distance_terms}
use Rattle.purge.proofs.squares.distance_from.Goals as goal

pub overflow_sub-position : goal.overflow_sub-position
overflow_sub-position c = (distance_terms c.args.line.level c.args.line.slope c.args.line.scale c.args.time c.args.position c.requires.line c.requires.point).fits

pub returns : goal.returns
returns c = c.unsigned_abs.ensures.value ∙ ap unsigned_abs (distance_terms c.args.line.level c.args.line.slope c.args.line.scale c.args.time c.args.position c.requires.line c.requires.point).is
