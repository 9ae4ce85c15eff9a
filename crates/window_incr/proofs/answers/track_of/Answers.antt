use Rattle.std.proofs.Common.{◌∙◌, ap, subst, sym}
use Rattle.sky_units.specs.Motion.{AxisAdmits}
use Rattle.sky_units.specs.TrackletData.{spots_of}
use Rattle.sky_units.specs.declared.axis.Axis.TheVariants.{Dec}
use Rattle.window_incr.proofs.answers.track_of.Goals as goal

pub quad_of-requires-2-clause-admitted : goal.quad_of-requires-2-clause-admitted
quad_of-requires-2-clause-admitted c =
    subst (AxisAdmits Dec c.args.settings.now) (sym (c.as_slice-3.ensures.value ∙ c.in_ok-spots.ensures ∙ ap spots_of c.tracklets.ensures.value)) c.requires.told.fits.1
