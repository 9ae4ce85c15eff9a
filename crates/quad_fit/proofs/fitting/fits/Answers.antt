use Rattle.std.proofs.Common.{◌≡◌, ◌++◌, [], ◌↔◌, IsTrue, ◌∙◌}
use Rattle.std.proofs.lemmas.List.{append-nil}
use Rattle.sky_units.specs.Motion.{Fits}
use Rattle.quad_fit.proofs.fitting.fits.Goals as goal

pub returns-clause-fits : goal.returns-clause-fits
returns-clause-fits c =
    let same : c.args.spots.now ++ [] ++ [] ≡ c.args.spots.now = append-nil (c.args.spots.now ++ []) ∙ append-nil c.args.spots.now in
    let fits : IsTrue c.fits_joined.result ↔ Fits c.args.settings.now (c.args.spots.now ++ [] ++ []) = c.fits_joined.ensures.fits in
    rw same at fits
