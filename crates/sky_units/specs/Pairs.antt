-- The pairs of a night: two detections that one object of a bounded rate may have left.
use Rattle.std.specs.Prelude.{ℕ, ◌<◌, ℤ, pos, neg_ℤ, ◌-ℤ◌, ◌*ℤ◌, ◌≤ℤ◌, Bool, false, ◌&&◌, Option, Some, None, List, length, slice_get, slice_index_or, map}
use Rattle.std.specs.Int.Signed.{le_z, lt_z}
use Rattle.std.specs.List.{filter, flat_map, range_with_len}
use Rattle.sky_math.specs.Circle.{wrapped}
use Rattle.sky_units.specs.SpotData.{SpotData}
use Rattle.sky_units.specs.SettingsData.{SettingsData}

-- a difference of positions over so many ticks keeps the rate, which is per day of 1,000,000 ticks:
-- |difference| * 1,000,000 ≤ rate * ticks
abbrev pub keeps_rate : ℤ → ℤ → ℤ → Bool
keeps_rate rate ticks difference =
    le_z (neg_ℤ (rate *ℤ ticks)) (difference *ℤ pos 1000000) && le_z (difference *ℤ pos 1000000) (rate *ℤ ticks)

-- two spots of one night are a pair: the first is the earlier one, the second follows within the pair gap,
-- and on each axis they keep the rate
abbrev pub are_pair : SettingsData → SpotData → SpotData → Bool
are_pair settings first second =
    lt_z first.epoch second.epoch
    && le_z (second.epoch -ℤ first.epoch) settings.pair_gap
    && keeps_rate settings.rate_ra (second.epoch -ℤ first.epoch) (wrapped (second.ra -ℤ first.ra))
    && keeps_rate settings.rate_dec (second.epoch -ℤ first.epoch) (second.dec -ℤ first.dec)

-- the same of what stands at two places
abbrev pub are_some_pair : SettingsData → Option SpotData → Option SpotData → Bool
are_some_pair settings (Some first) (Some second) = are_pair settings first second
are_some_pair settings (Some first) None = false
are_some_pair settings None second = false

abbrev pub are_pair_at : SettingsData → List SpotData → ℕ × ℕ → Bool
are_pair_at settings spots places = are_some_pair settings (slice_get spots places.0) (slice_get spots places.1)

-- the numbers below n
abbrev pub below : ℕ → List ℕ
below n = range_with_len 0 n

-- all pairs of a number below m and one below n, in lexicographic order
abbrev pub all_pairs : ℕ → ℕ → List (ℕ × ℕ)
all_pairs m n = flat_map (λ i. map (λ j. (i, j)) (below n)) (below m)

-- the pairs of a night: the two places of each, in lexicographic order
abbrev pub pairs_of : SettingsData → List SpotData → List (ℕ × ℕ)
pairs_of settings spots = filter (are_pair_at settings spots) (all_pairs (length spots) (length spots))

-- epochs don't fall
abbrev pub EpochsDontFall : List SpotData → Type 0
EpochsDontFall spots = (i j : ℕ) (d : SpotData) → i < j → j < length spots → (slice_index_or spots i d).epoch ≤ℤ (slice_index_or spots j d).epoch
