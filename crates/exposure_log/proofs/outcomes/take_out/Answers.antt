use Rattle.std.proofs.Common.{◌∙◌}
use Rattle.exposure_log.proofs.Delivered.{none_goes}
use Rattle.exposure_log.proofs.outcomes.take_out.Goals as goal

pub returns-in-Refused : goal.returns-in-Refused
returns-in-Refused c = rw c.in-Refused.is (none_goes c.args.log.now c.in-Refused.field-0 c.in-Refused.field-1)
