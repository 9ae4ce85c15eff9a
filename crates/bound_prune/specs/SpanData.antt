-- What holds of the ends of all tracklets of a night, in the form of a value.
use Rattle.std.specs.Prelude.{ℤ, pos, ◌-ℤ◌, ◌≤ℤ◌}
use Rattle.sky_units.specs.Ranges.{IsBetween, IsEpoch}
use Rattle.bound_prune.specs.Bounds.{lasting}
use Rattle.bound_prune.specs.EndsData.{AreInRange, EndsData, bounds_of}

-- from when to when they last, how long the longest of them lasts, and how far apart the rates of declination lie that the
-- tolerances of one of them leave
pub record SpanData : Type 0 where
  pub first_epoch : ℤ
  pub last_epoch : ℤ
  pub lasting : ℤ
  pub rates_apart : ℤ

-- the span is one of tracklets
pub record IsSpan (span : SpanData) : Type 0 where
  pub first_epoch : IsEpoch span.first_epoch
  pub last_epoch : IsEpoch span.last_epoch
  pub order : span.first_epoch ≤ℤ span.last_epoch
  pub lasting : IsBetween (pos 0) (pos 29999999) span.lasting
  pub rates_apart : IsBetween (pos 0) (pos 2000000000000000) span.rates_apart

-- ends of spots that lie within a span
pub record LiesIn (span : SpanData) (ends : EndsData) : Type 0 where
  pub in_range : AreInRange ends
  pub begins_after : span.first_epoch ≤ℤ ends.first_epoch
  pub begins_before : ends.first_epoch ≤ℤ span.last_epoch
  pub ends_after : span.first_epoch ≤ℤ ends.last_epoch
  pub ends_before : ends.last_epoch ≤ℤ span.last_epoch
  pub lasts : lasting (bounds_of ends) ≤ℤ span.lasting
  pub apart : (ends.dec_rates.greatest -ℤ ends.dec_rates.least) ≤ℤ span.rates_apart
