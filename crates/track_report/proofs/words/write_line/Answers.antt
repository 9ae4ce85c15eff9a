use Rattle.std.proofs.Common.{append_assoc}
use Rattle.track_report.proofs.Joined.{join_spaced}
use Rattle.track_report.proofs.words.write_line.Goals as goal

pub returns : goal.returns
returns c = rw (c.in_ok-write_rest.ensures, c.in_ok-extend_from_slice.ensures.items, join_spaced c.args.first.now c.args.words.now) (simp append_assoc)
