-- The reported quadratic of spots is valid.
use Rattle.std.proofs.Common.{◌≡◌, ◌<◌, ◌-◌, List, [], ◌∷◌, length, get_or, subst, arith}
use Rattle.miti_text.specs.ValidReports.{IsValidQuad}
use Rattle.sky_units.specs.QuadData.{IsQuad, QuadData}
use Rattle.sky_units.specs.Ranges.{IsDeclination, IsEpoch, IsRightAscension, IsSpot}
use Rattle.sky_units.specs.Reported.{IsReported, first_position, middle_epoch}
use Rattle.sky_units.specs.SettingsData.{SettingsData}
use Rattle.sky_units.specs.SpotData.{SpotData}
use Rattle.sky_units.specs.declared.axis.Axis.{Axis}
use Rattle.sky_units.specs.declared.axis.Axis.TheVariants.{Ra, Dec}
use Rattle.quad_fit.proofs.MiddleEpochs.{middle_is, middle_terms}
use Rattle.window_incr.specs.Answers.{IsPosition}

abbrev HasRanges : SpotData → Type 0
HasRanges spot = IsSpot spot.epoch spot.ra spot.dec

first_in_range : (axis : Axis) (spots : List SpotData) (first : SpotData) → 0 < length spots → first ≡ get_or spots 0 first → HasRanges first → IsPosition axis (first_position axis spots)
first_in_range axis [] first some is ranges = absurd (omega arith)
first_in_range Ra (x ∷ spots) first some is ranges = subst (λ (spot : SpotData). IsRightAscension spot.ra) is ranges.ra_in_range
first_in_range Dec (x ∷ spots) first some is ranges = subst (λ (spot : SpotData). IsDeclination spot.dec) is ranges.dec_in_range

middle_in_range : (spots : List SpotData) (first last : SpotData) → 0 < length spots → first ≡ get_or spots 0 first → last ≡ get_or spots (length spots - 1) last → HasRanges first → HasRanges last → IsEpoch (middle_epoch spots)
middle_in_range spots first last some is last_is ranges last_ranges =
    rw (middle_is spots first last some is last_is) (middle_terms first.epoch last.epoch ranges.epoch_in_range last_ranges.epoch_in_range).range

pub valid_quad : (axis : Axis) (settings : SettingsData) (spots : List SpotData) (first last : SpotData) (quad : QuadData) → 0 < length spots → first ≡ get_or spots 0 first → last ≡ get_or spots (length spots - 1) last → HasRanges first → HasRanges last
    → IsReported axis settings spots quad → IsQuad quad.den quad.p quad.v quad.q → IsValidQuad (IsPosition axis) quad
valid_quad axis settings spots first last quad some is last_is ranges last_ranges reported numbers = record {
  base = rw reported.base_is (first_in_range axis spots first some is ranges);
  start = rw reported.start_is (middle_in_range spots first last some is last_is ranges last_ranges);
  numbers = numbers;
}
