use Rattle.std.proofs.Common.{append_assoc, codes}
use Rattle.track_report.specs.AskedText.{asked_words}
use Rattle.track_report.proofs.Joined.{join_spaced}
use Rattle.track_report.proofs.asking.write_asked.Goals as goal

pub returns : goal.returns
returns c =
    rw (c.in_ok-push.ensures.items, c.in_ok-write_answer.ensures, c.in_ok-extend_from_slice.ensures.items, join_spaced (codes "ask") (asked_words c.args.ids.now c.args.asked))
    (simp append_assoc)
