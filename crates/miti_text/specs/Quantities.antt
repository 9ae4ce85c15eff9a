-- The four numbers of a detection line, with their units and ranges.
use Rattle.std.specs.Prelude.{ℕ, Bool, List, Option, ℤ, pos, neg_ℤ, if◌then◌else◌}
use Rattle.std.specs.Option.{option_map}
use Rattle.std.specs.Str.Parse.{starts_with_minus}
use Rattle.std.specs.Ordering.{int_eq}
use Rattle.sky_units.specs.Ranges.{IsBetween, IsEpoch, IsRightAscension, IsDeclination}
use Rattle.miti_text.specs.Numerals.{whole, fraction, with_sign, units_of}
use Rattle.miti_text.specs.declared.quantities.Quantity.{Quantity}
use Rattle.miti_text.specs.declared.quantities.Quantity.TheVariants.{Epoch, RightAscension, Declination, Magnitude}

-- units of 10^-6 day and degree, and magnitudes of 10^-3
abbrev pub places : Quantity → ℕ
places Epoch = 6
places RightAscension = 6
places Declination = 6
places Magnitude = 3

-- how far below zero and above it a written value may lie, in days, degrees and magnitudes
abbrev pub below : Quantity → ℕ
below Epoch = 0
below RightAscension = 0
below Declination = 90
below Magnitude = 1000

abbrev pub above : Quantity → ℕ
above Epoch = 200000
above RightAscension = 360
above Declination = 90
above Magnitude = 1000

-- a whole turn of right ascension is kept as 0
abbrev pub kept : Quantity → ℤ → ℤ
kept Epoch z = z
kept RightAscension z = if int_eq z (pos 360000000) then pos 0 else z
kept Declination z = z
kept Magnitude z = z

abbrev pub limit : Quantity → Bool → ℕ
limit quantity is_negative = if is_negative then below quantity else above quantity

-- the quantity that a word writes: a decimal in its range as written, rounded to the nearest unit, a tie away from zero
unfoldable pub quantity_of : Quantity → List ℕ → Option ℤ
quantity_of quantity text =
    let is_negative = starts_with_minus text in
    option_map (kept quantity)
    (with_sign is_negative (units_of (limit quantity is_negative) (places quantity) (whole text) (fraction text)))

-- a magnitude, in 10^-3: -1,000 to 1,000 magnitudes
abbrev pub IsMagnitude : ℤ → Type 0
IsMagnitude = IsBetween (neg_ℤ (pos 1000000)) (pos 1000000)

-- the range that a quantity keeps
abbrev pub IsKept : Quantity → ℤ → Type 0
IsKept Epoch = IsEpoch
IsKept RightAscension = IsRightAscension
IsKept Declination = IsDeclination
IsKept Magnitude = IsMagnitude
