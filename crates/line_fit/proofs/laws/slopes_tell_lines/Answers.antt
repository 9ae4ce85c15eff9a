use Rattle.line_fit.proofs.Tells.{tells}
use Rattle.line_fit.proofs.laws.slopes_tell_lines.Goals as goal

pub returns : goal.returns
returns c = tells
