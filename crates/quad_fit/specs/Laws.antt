-- What holds of every quadratic test, for the crates that stand on it.
use Rattle.std.specs.Prelude.{◌≤◌, ℤ, pos, ◌≤ℤ◌, ◌<ℤ◌, ◌⊎◌, List, [], ◌∷◌, length}
use Rattle.std.specs.List.{All, Contains}
use Rattle.sky_math.specs.Lists.{EachThree}
use Rattle.sky_units.specs.Arcs.{IsArc}
use Rattle.sky_units.specs.Coefficients.{HasCoefficient}
use Rattle.sky_units.specs.Motion.{AxisAdmits, Fits}
use Rattle.sky_units.specs.QuadData.{IsQuad, QuadData}
use Rattle.sky_units.specs.Reported.{IsReported}
use Rattle.sky_units.specs.SettingsData.{AreSettings, SettingsData}
use Rattle.sky_units.specs.SpotData.{SpotData}
use Rattle.sky_units.specs.declared.axis.Axis.{Axis}

-- what an axis admits of an arc, it admits of each part of it
abbrev pub PartsAreAdmitted : Type 0
PartsAreAdmitted = (axis : Axis) (settings : SettingsData) (spots part : List SpotData) → IsArc spots → All (Contains spots) part → AxisAdmits axis settings spots → AxisAdmits axis settings part

-- at one leading coefficient each three spots of an arc suffice
abbrev pub ThreeSuffice : Type 0
ThreeSuffice = (axis : Axis) (tol a b : ℤ) (spots : List SpotData) → IsArc spots → pos 0 ≤ℤ tol → pos 0 <ℤ b → EachThree (λ x y z. HasCoefficient axis tol (x ∷ y ∷ z ∷ []) a b) spots → HasCoefficient axis tol spots a b

-- each arc fits or doesn't: whole numbers alone decide it
abbrev pub FitIsDecided : Type 0
FitIsDecided = (settings : SettingsData) (spots : List SpotData) → IsArc spots → Fits settings spots ⊎ (¬ Fits settings spots)

-- spots of an arc, two or more, that an axis admits have a reported quadratic, whose numbers keep their ranges
abbrev pub ReportedExists : Type 0
ReportedExists = (axis : Axis) (settings : SettingsData) (spots : List SpotData) → AreSettings settings → IsArc spots → 2 ≤ length spots → AxisAdmits axis settings spots →
    (quad : QuadData) × IsReported axis settings spots quad × IsQuad quad.den quad.p quad.v quad.q
