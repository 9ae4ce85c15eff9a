use Rattle.std.proofs.Common.{◌≡◌, sym, ◌∙◌, to_z, of_z, w64}
use Rattle.std.proofs.lemmas.Bool.{false≢true}
use Rattle.std.proofs.lemmas.Int.{to_z-of_z}
use Rattle.sky_units.specs.Arcs.{IsArc}
use Rattle.sky_units.specs.declared.axis.Axis.TheVariants.{Ra, Dec}
use Rattle.line_fit.specs.Lines.{slopes_meet}
use Rattle.line_fit.proofs.Whole.{arc_lies, no_arc_lies, after_yes, after_no, meets_same}
use Rattle.line_fit.proofs.lines.fits_line.Goals as goal
use Rattle.line_fit.proofs.lines.fits_line.Goals.{then-is_arc, else-is_arc}

pub returns-then-axis_fits : goal.returns-then-axis_fits
returns-then-axis_fits c = elim c.if-is_arc.branch [
  | then-is_arc w ↦
      let tol : to_z w64 (of_z w64 c.args.tol) ≡ c.args.tol = to_z-of_z w64 c.args.tol c.ranges.tol in
      let rate_ra : to_z w64 (of_z w64 c.args.rate_ra) ≡ c.args.rate_ra = to_z-of_z w64 c.args.rate_ra c.ranges.rate_ra in
      let rate_dec : to_z w64 (of_z w64 c.args.rate_dec) ≡ c.args.rate_dec = to_z-of_z w64 c.args.rate_dec c.ranges.rate_dec in
      let arc : IsArc c.args.spots.now = c.is_arc.ensures.0 w.if-is_arc.true in
      let ra : w.axis_fits.result ≡ slopes_meet Ra c.args.tol c.args.rate_ra c.args.spots.now =
      meets_same Ra _ _ _ _ _ _ tol rate_ra w.axis_fits.ensures in
      let dec : c.axis_fits-then-axis_fits.result ≡ slopes_meet Dec c.args.tol c.args.rate_dec c.args.spots.now =
      meets_same Dec _ _ _ _ _ _ tol rate_dec c.axis_fits-then-axis_fits.ensures in
      after_yes _ _ _ _ (sym ra ∙ sym w.value-is ∙ c.if-axis_fits.true) dec (arc_lies c.args.tol c.args.rate_ra c.args.rate_dec c.args.spots.now arc)
  | else-is_arc w ↦ absurd (false≢true (sym w.if-is_arc.false ∙ sym w.value-is ∙ c.if-axis_fits.true))
]

pub returns-else-axis_fits : goal.returns-else-axis_fits
returns-else-axis_fits c = elim c.if-is_arc.branch [
  | then-is_arc w ↦
      let tol : to_z w64 (of_z w64 c.args.tol) ≡ c.args.tol = to_z-of_z w64 c.args.tol c.ranges.tol in
      let rate_ra : to_z w64 (of_z w64 c.args.rate_ra) ≡ c.args.rate_ra = to_z-of_z w64 c.args.rate_ra c.ranges.rate_ra in
      let arc : IsArc c.args.spots.now = c.is_arc.ensures.0 w.if-is_arc.true in
      let ra : w.axis_fits.result ≡ slopes_meet Ra c.args.tol c.args.rate_ra c.args.spots.now =
      meets_same Ra _ _ _ _ _ _ tol rate_ra w.axis_fits.ensures in
      after_no _ _ _ _ (w.value-is ∙ ra) c.if-axis_fits.false (arc_lies c.args.tol c.args.rate_ra c.args.rate_dec c.args.spots.now arc)
  | else-is_arc w ↦ c.if-axis_fits.false ∙ no_arc_lies c.args.tol c.args.rate_ra c.args.rate_dec c.args.spots.now (λ arc. false≢true (sym w.if-is_arc.false ∙ c.is_arc.ensures.1 arc)) c.requires.day
]
