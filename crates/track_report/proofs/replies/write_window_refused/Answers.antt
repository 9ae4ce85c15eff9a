use Rattle.std.proofs.Common.{append_assoc}
use Rattle.track_report.proofs.replies.write_window_refused.Goals as goal

pub returns : goal.returns
returns c = rw (c.in_ok-push.ensures.items, c.in_ok-write_word.ensures, c.window_error_name.ensures, c.in_ok-extend_from_slice.ensures.items) (simp append_assoc)
