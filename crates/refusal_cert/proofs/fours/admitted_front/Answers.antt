use Rattle.std.proofs.Common.{◌≡◌, ℕ, ◌+◌, length, take, subst, arith}
use Rattle.sky_units.specs.Motion.{AxisAdmits, acceleration, tolerance}
use Rattle.sky_units.specs.SettingsData.{AreSettings}
use Rattle.quad_fit.proofs.Admitted.{none_admitted}
use Rattle.refusal_cert.proofs.FoursAt.{front_arc}
use Rattle.refusal_cert.proofs.Suffices.{limits_are}
use Rattle.refusal_cert.proofs.fours.admitted_front.Goals as goal

pub loop-len-init : goal.loop-len-init
loop-len-init c =
    let settings : AreSettings c.args.settings.now = subst AreSettings c.settings.view_is c.settings.invariant in
    none_admitted (acceleration c.args.axis c.args.settings.now) (tolerance c.args.axis c.args.settings.now) (limits_are c.args.axis c.args.settings.now settings).acc

pub axis_admits-requires : goal.axis_admits-requires
axis_admits-requires c = front_arc c.args.spots.now (c.loop-len.len + 1) c.requires

pub returns-then-not-axis_admits : goal.returns-then-not-axis_admits
returns-then-not-axis_admits c = c.loop-len.invariant

pub loop-len-preserved : goal.loop-len-preserved
loop-len-preserved c = c.axis_admits.ensures.0 c.if-not-axis_admits.false

pub returns : goal.returns
returns c =
    let e : c.loop-len.len ≡ length c.args.spots.now = omega arith in
    subst (λ (n : ℕ). AxisAdmits c.args.axis c.args.settings.now (take n c.args.spots.now)) e c.loop-len.invariant
