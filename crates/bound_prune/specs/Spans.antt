-- Where in declination the tracklets of a night lie that may be of one object with another tracklet.
use Rattle.std.specs.Prelude.{◌≡◌, ℤ, pos, neg_ℤ, ◌+ℤ◌, ◌-ℤ◌, ◌*ℤ◌, ◌≤ℤ◌}
use Rattle.sky_units.specs.Ranges.{IsBetween, IsDeclination}
use Rattle.sky_units.specs.SettingsData.{SettingsData}
use Rattle.sky_units.specs.declared.axis.Axis.TheVariants.{Dec}
use Rattle.bound_prune.specs.Bounds.{Reaches, gained_in, kept_within}
use Rattle.bound_prune.specs.EndsData.{AreUsual}
use Rattle.bound_prune.specs.SpanData.{SpanData}
use Rattle.bound_prune.specs.Times.{AreInOrder, IsTravel}
use Rattle.bound_prune.specs.declared.rates.Rates.{Rates}
use Rattle.bound_prune.specs.declared.spans.DecRange.{DecRange}
use Rattle.bound_prune.specs.declared.times.Times.{Times}
use Rattle.bound_prune.specs.declared.travel.Travel.{Travel}

-- a declination lies in a range, whose ends are in 1 / 2,000,000 of 10^-6 degree
pub record IsInRange (range : DecRange) (dec : ℤ) : Type 0 where
  pub from : range.least ≤ℤ (pos 2000000 *ℤ dec)
  pub to : (pos 2000000 *ℤ dec) ≤ℤ range.greatest

-- a range has every declination that ways lead to from within the tolerance of one
abbrev pub HasReached : ℤ → ℤ → ℤ → ℤ → DecRange → Type 0
HasReached tol dec ahead back range = (other : ℤ) → IsDeclination other → Reaches tol (other -ℤ dec) ahead → Reaches tol (neg_ℤ (other -ℤ dec)) back → IsInRange range other

-- the times from what lies in one span to what lies in a later one
pub record AreTimesAcross (from to : SpanData) (times : Times) : Type 0 where
  pub shortest : times.shortest ≡ kept_within (pos 0) (pos 29999999) (to.first_epoch -ℤ from.last_epoch)
  pub longest : times.longest ≡ kept_within (pos 0) (pos 29999999) (to.last_epoch -ℤ from.first_epoch)
  pub lasting : times.lasting ≡ from.lasting +ℤ to.lasting
  pub in_order : AreInOrder times
  pub lasts : IsBetween (pos 0) (pos 59999998) times.lasting

-- rates, no farther apart than so much, of what turned by no more than so much
pub record AreNear (rates : Rates) (apart turned : ℤ) (others : Rates) : Type 0 where
  pub faster : others.least ≤ℤ (rates.greatest +ℤ turned)
  pub slower : (rates.least -ℤ turned) ≤ℤ others.greatest
  pub apart_by : (others.greatest -ℤ others.least) ≤ℤ apart

-- rates between others
pub record HoldRates (wide rates : Rates) : Type 0 where
  pub least : wide.least ≤ℤ rates.least
  pub greatest : rates.greatest ≤ℤ wide.greatest

-- rates that hold all near ones
abbrev pub HoldNear : Rates → ℤ → ℤ → Rates → Type 0
HoldNear rates apart turned wide = (others : Rates) → AreUsual others → AreNear rates apart turned others → HoldRates wide others

-- the farthest ways that rates lead with others that an acceleration may have made of them
pub record IsWidest (settings : SettingsData) (rates : Rates) (apart : ℤ) (times : Times) (travel : Travel) : Type 0 where
  pub wide : Rates
  pub holds : HoldNear rates apart (gained_in Dec settings (times.longest +ℤ times.longest)) wide
  pub led : IsTravel Dec settings rates wide times travel
