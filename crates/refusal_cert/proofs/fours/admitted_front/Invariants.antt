use Rattle.std.proofs.Common.{take}
use Rattle.sky_units.specs.Motion.{AxisAdmits}
use Rattle.refusal_cert.proofs.fours.admitted_front.Given as goal

-- the axis admits the spots that were seen
abbrev pub invariant-loop-len : goal.invariant-loop-len
invariant-loop-len l = AxisAdmits l.axis l.settings (take l.len l.spots)
