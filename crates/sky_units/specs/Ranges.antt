-- The ranges that values of the sky keep: times in ticks (10^-6 day), angles in 10^-6 degree.
use Rattle.std.specs.Prelude.{ℤ, pos, negsuc, ◌≤ℤ◌}

-- low ≤ z ≤ high
pub record IsBetween (low high z : ℤ) : Type 0 where
  pub from : low ≤ℤ z
  pub to : z ≤ℤ high

-- an epoch: day 0 to day 200,000 of the modified Julian date
abbrev pub IsEpoch : ℤ → Type 0
IsEpoch = IsBetween (pos 0) (pos 200000000000)

-- a right ascension: 0 to just under 360 degrees
abbrev pub IsRightAscension : ℤ → Type 0
IsRightAscension = IsBetween (pos 0) (pos 359999999)

-- a declination: -90 to 90 degrees
abbrev pub IsDeclination : ℤ → Type 0
IsDeclination = IsBetween (negsuc 89999999) (pos 90000000)

-- a time and a position of the sky
pub record IsSpot (epoch ra dec : ℤ) : Type 0 where
  pub epoch_in_range : IsEpoch epoch
  pub ra_in_range : IsRightAscension ra
  pub dec_in_range : IsDeclination dec
