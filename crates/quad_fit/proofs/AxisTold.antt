-- What the test of one axis tells.
use Rattle.std.proofs.Common.{◌≡◌, ◌<◌, ◌↔◌, List, [], ◌++◌, length, refl, subst, get_or, arith}
use Rattle.std.proofs.lemmas.Bool.{false≢true}
use Rattle.std.specs.List.{Contains}
use Rattle.std.specs.Prelude.{Option, Some, None, IsTrue, is_some}
use Rattle.sky_units.specs.Arcs.{IsArc}
use Rattle.sky_units.specs.Motion.{points, AxisAdmits}
use Rattle.sky_units.specs.SettingsData.{AreSettings, SettingsData}
use Rattle.sky_units.specs.SpotData.{SpotData}
use Rattle.sky_units.specs.declared.axis.Axis.{Axis}
use Rattle.sky_units.specs.declared.axis.Axis.TheVariants.{Ra, Dec}
use Rattle.quad_fit.proofs.Admitted.{few_admitted}
use Rattle.quad_fit.proofs.Grown.{axis_fits}
use Rattle.quad_fit.proofs.MarkLists.{first_among, points_length}
use Rattle.quad_fit.proofs.Parts.{alone}
use Rattle.quad_fit.specs.Bases.{GivesLevel}
use Rattle.quad_fit.specs.declared.levelling.Levelled.{Levelled}

told : (axis : Axis) (settings : SettingsData) (base : SpotData) (spots : List SpotData) (result : Option Levelled) → IsArc spots → Contains spots base → GivesLevel axis settings base spots result → IsTrue (is_some result) ↔ AxisAdmits axis settings spots
told axis settings base spots None arc has not = (λ h. absurd (false≢true h), λ w. absurd (not w))
told axis settings base spots (Some l) arc has is = (λ h. axis_fits axis settings base spots l arc has is, λ w. refl)

pub axis_told_alone : (axis : Axis) (settings : SettingsData) (base : SpotData) (spots : List SpotData) (result : Option Levelled) → IsArc spots → 0 < length spots → base ≡ get_or spots 0 base → GivesLevel axis settings base (spots ++ [] ++ []) result → IsTrue (is_some result) ↔ AxisAdmits axis settings spots
axis_told_alone axis settings base spots result arc some is gives =
    told axis settings base spots result arc (first_among base spots some is) (subst (λ (l : List SpotData). GivesLevel axis settings base l result) (alone spots) gives)

pub few_axis_admits : (axis : Axis) (settings : SettingsData) (spots : List SpotData) → AreSettings settings → length spots < 2 → AxisAdmits axis settings spots
few_axis_admits Ra settings spots s few = few_admitted settings.acc_ra settings.tol_ra (points Ra spots) s.acc_ra_in_range.from s.tol_ra_in_range.from (omega (arith, points_length Ra spots))
few_axis_admits Dec settings spots s few = few_admitted settings.acc_dec settings.tol_dec (points Dec spots) s.acc_dec_in_range.from s.tol_dec_in_range.from (omega (arith, points_length Dec spots))
