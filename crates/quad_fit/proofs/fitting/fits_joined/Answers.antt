use Rattle.std.proofs.Common.{◌++◌, List, subst, refl, arith}
use Rattle.sky_units.specs.SettingsData.{AreSettings}
use Rattle.sky_units.specs.SpotData.{SpotData}
use Rattle.quad_fit.proofs.Grown.{few_fit, fit_told}
use Rattle.quad_fit.proofs.fitting.fits_joined.Goals as goal

pub returns-then-joined_len-lt2-clause-fits : goal.returns-then-joined_len-lt2-clause-fits
returns-then-joined_len-lt2-clause-fits c =
    let spots : List SpotData = c.args.a.now ++ c.args.b.now ++ c.args.c.now in
    let settings : AreSettings c.args.settings.now = subst AreSettings c.settings.view_is c.settings.invariant in
    (λ h. few_fit c.args.settings.now spots settings (omega arith), λ w. refl)

pub returns-clause-fits : goal.returns-clause-fits
returns-clause-fits c =
    let spots : List SpotData = c.args.a.now ++ c.args.b.now ++ c.args.c.now in
    rw c.is_some.ensures (fit_told c.args.settings.now spots c.basis_of.result c.basis_of.ensures)
