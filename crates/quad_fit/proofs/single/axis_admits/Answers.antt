use Rattle.std.proofs.Common.{◌<◌, length, subst, refl, arith}
use Rattle.sky_units.specs.SettingsData.{AreSettings}
use Rattle.quad_fit.proofs.AxisTold.{axis_told_alone, few_axis_admits}
use Rattle.quad_fit.proofs.single.axis_admits.Goals as goal

pub returns-then-spots-lt2 : goal.returns-then-spots-lt2
returns-then-spots-lt2 c =
    let settings : AreSettings c.args.settings.now = subst AreSettings c.settings.view_is c.settings.invariant in
    (λ h. few_axis_admits c.args.axis c.args.settings.now c.args.spots.now settings (omega arith), λ w. refl)

pub returns : goal.returns
returns c =
    let some : 0 < length c.args.spots.now = omega arith in
    rw c.is_some.ensures (axis_told_alone c.args.axis c.args.settings.now c.index-spots-0.result c.args.spots.now c.axis_level.result c.requires some c.index-spots-0.is c.axis_level.ensures)
