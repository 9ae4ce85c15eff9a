-- Four detections suffice to show that an axis doesn't admit an arc.
use Rattle.std.specs.Prelude.{◌↔◌, List}
use Rattle.sky_units.specs.Arcs.{IsArc}
use Rattle.sky_units.specs.Motion.{AxisAdmits}
use Rattle.sky_units.specs.SettingsData.{AreSettings, SettingsData}
use Rattle.sky_units.specs.SpotData.{SpotData}
use Rattle.sky_units.specs.declared.axis.Axis.{Axis}
use Rattle.refusal_cert.specs.Certificates.{AdmitsEach}

-- an axis admits an arc exactly where it admits each three and each four of its spots
abbrev pub FourSuffice : Type 0
FourSuffice = (axis : Axis) (settings : SettingsData) (spots : List SpotData) → AreSettings settings → IsArc spots → AxisAdmits axis settings spots ↔ (AdmitsEach 3 axis settings spots × AdmitsEach 4 axis settings spots)
