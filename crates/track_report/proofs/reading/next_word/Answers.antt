use Rattle.std.proofs.Common.{◌∙◌}
use Rattle.track_report.proofs.Parting.{parted}
use Rattle.track_report.proofs.reading.next_word.Goals as goal

pub returns : goal.returns
returns c word words more plain is =
    let both = parted c.args.text.now word words more plain is in
    (c.part_word.ensures.before ∙ both.0, c.part_word.ensures.after ∙ both.1)
