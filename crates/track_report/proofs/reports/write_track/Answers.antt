use Rattle.std.proofs.Common.{◌∷◌, codes}
use Rattle.track_report.specs.ReportText.{counts_line, quad_line}
use Rattle.track_report.specs.Words.{line}
use Rattle.track_report.proofs.Joined.{four_added}
use Rattle.track_report.proofs.reports.write_track.Goals as goal

pub returns : goal.returns
returns c =
    let track = c.args.track.now in
    rw (c.in_ok-write_line.ensures, c.in_ok-write_quad-2.ensures, c.in_ok-write_quad.ensures, c.in_ok-write_counts.ensures)
    (four_added c.args.text.now.items (counts_line c.args.number track) (quad_line (codes "ra") track.ra) (quad_line (codes "dec") track.dec)
    (line (codes "ids" ∷ track.ids)))
