-- What a tracklet's box keeps of its ends.
use Rattle.std.specs.Prelude.{◌≡◌, ℕ, ◌<◌, ℤ, pos, ◌-ℤ◌, ◌*ℤ◌, ◌≤ℤ◌}
use Rattle.sky_units.specs.Motion.{acceleration}
use Rattle.sky_units.specs.SettingsData.{SettingsData}
use Rattle.sky_units.specs.SpotData.{SpotData}
use Rattle.sky_units.specs.TrackletData.{TrackletData, IsTracklet}
use Rattle.sky_units.specs.declared.axis.Axis.{Axis}
use Rattle.box_tree.specs.Boxes.{end_on}
use Rattle.box_tree.specs.declared.bounds.Bounds.{Bounds}
use Rattle.bound_prune.specs.Bounds.{rate_axis}
use Rattle.bound_prune.specs.Boxes.{BoxedTracklet, box_low, box_high, least_rate, greatest_rate}
use Rattle.bound_prune.specs.EndsData.{EndsData}
use Rattle.bound_prune.specs.declared.rates.Rates.{Rates}

-- a tracklet with these tolerances
abbrev pub boxed : TrackletData → ℤ → ℤ → BoxedTracklet
boxed spots tol_ra tol_dec = record { spots = spots; tol_ra = tol_ra; tol_dec = tol_dec }

-- the rates are those of two spots, and in order
pub record AreRates (axis : Axis) (tol : ℤ) (first last : SpotData) (rates : Rates) : Type 0 where
  pub least : rates.least ≡ least_rate axis tol first last
  pub greatest : rates.greatest ≡ greatest_rate axis tol first last
  pub order : rates.least ≤ℤ rates.greatest

-- the rates of a box on an axis of the sky
abbrev pub rates_in : Axis → Bounds → Rates
rates_in axis box = record { least = end_on box.low (rate_axis axis); greatest = end_on box.high (rate_axis axis) }

-- rates differ by no more than the acceleration allows over some time
pub record DifferLittle (axis : Axis) (settings : SettingsData) (a b : Rates) (longest : ℤ) : Type 0 where
  pub slower : (pos 1000000 *ℤ (a.least -ℤ b.greatest)) ≤ℤ (acceleration axis settings *ℤ longest)
  pub faster : (pos 1000000 *ℤ (b.least -ℤ a.greatest)) ≤ℤ (acceleration axis settings *ℤ longest)

-- the ends are those of the box of a tracklet
pub record AreEnds (box : BoxedTracklet) (ends : EndsData) : Type 0 where
  pub tracklet : IsTracklet box.spots
  pub ra : ends.ra ≡ box_low box 0
  pub dec : ends.dec ≡ box_low box 1
  pub first_epoch : ends.first_epoch ≡ box_low box 2
  pub last_epoch : ends.last_epoch ≡ box_high box 2
  pub ra_least : ends.ra_rates.least ≡ box_low box 3
  pub ra_greatest : ends.ra_rates.greatest ≡ box_high box 3
  pub dec_least : ends.dec_rates.least ≡ box_low box 4
  pub dec_greatest : ends.dec_rates.greatest ≡ box_high box 4
  pub order : (axis : ℕ) → axis < 5 → box_low box axis ≤ℤ box_high box axis

-- the ends of the box of a tracklet
abbrev pub ends_of : BoxedTracklet → EndsData
ends_of box = record {
  ra = box_low box 0;
  dec = box_low box 1;
  first_epoch = box_low box 2;
  last_epoch = box_high box 2;
  ra_rates = record { least = box_low box 3; greatest = box_high box 3 };
  dec_rates = record { least = box_low box 4; greatest = box_high box 4 };
}
