-- Where a tracklet begins and ends, in the form of a value, and the box that these ends make.
use Rattle.std.specs.Prelude.{ℤ, pos, neg_ℤ, [], ◌∷◌}
use Rattle.sky_units.specs.Ranges.{IsBetween, IsDeclination, IsEpoch, IsRightAscension}
use Rattle.box_tree.specs.declared.bounds.Bounds.{Bounds}
use Rattle.bound_prune.specs.declared.rates.Rates.{Rates}

-- the place of its first spot, the epochs of its first and its last one, and the rates that its tolerances leave
pub record EndsData : Type 0 where
  pub ra : ℤ
  pub dec : ℤ
  pub first_epoch : ℤ
  pub last_epoch : ℤ
  pub ra_rates : Rates
  pub dec_rates : Rates

-- no mean rate of a tracklet is greater, in 10^-6 degree per day
abbrev pub IsUsualRate : ℤ → Type 0
IsUsualRate = IsBetween (neg_ℤ (pos 1000000000000000)) (pos 1000000000000000)

pub record AreUsual (rates : Rates) : Type 0 where
  pub least : IsUsualRate rates.least
  pub greatest : IsUsualRate rates.greatest

-- the ends are those of spots
pub record AreInRange (ends : EndsData) : Type 0 where
  pub ra : IsRightAscension ends.ra
  pub dec : IsDeclination ends.dec
  pub first_epoch : IsEpoch ends.first_epoch
  pub last_epoch : IsEpoch ends.last_epoch
  pub ra_rates : AreUsual ends.ra_rates
  pub dec_rates : AreUsual ends.dec_rates

-- the box from the one end to the other on each axis
abbrev pub bounds_of : EndsData → Bounds
bounds_of ends = record {
  low = ends.ra ∷ ends.dec ∷ ends.first_epoch ∷ ends.ra_rates.least ∷ ends.dec_rates.least ∷ pos 0 ∷ pos 0 ∷ pos 0 ∷ [];
  high = ends.ra ∷ ends.dec ∷ ends.last_epoch ∷ ends.ra_rates.greatest ∷ ends.dec_rates.greatest ∷ pos 0 ∷ pos 0 ∷ pos 0 ∷ [];
}
