use Rattle.std.proofs.Common.{rules}
use Rattle.miti_text.specs.Numerals.{number_of}
use Rattle.miti_text.proofs.numerals.read_number.Goals as goal

pub returns-in_err-read_size : goal.returns-in_err-read_size
unfolding number_of
returns-in_err-read_size c = search rules

pub returns : goal.returns
unfolding number_of
returns c = search rules
