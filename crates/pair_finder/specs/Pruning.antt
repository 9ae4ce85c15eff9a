-- Which boxes may hold a pair, the earlier spot in the one and the later spot in the other.
use Rattle.std.specs.Prelude.{ℕ, ℤ, pos, neg_ℤ, ◌-ℤ◌, ◌*ℤ◌, Bool, ◌&&◌, ◌||◌, ◌==◌, cond}
use Rattle.std.specs.Int.{int_min}
use Rattle.std.specs.Int.Signed.{le_z}
use Rattle.std.specs.Int.RustNames.{int_div}
use Rattle.sky_math.specs.Circle.{full_turn}
use Rattle.sky_units.specs.SpotData.{SpotData}
use Rattle.sky_units.specs.SettingsData.{SettingsData}
use Rattle.box_tree.specs.declared.bounds.Bounds.{Bounds}
use Rattle.box_tree.specs.Boxes.{end_on}

-- where a spot stands on the axes of a tree: 0 is time, 1 declination, 2 right ascension
abbrev pub place_on : SpotData → ℕ → ℤ
place_on spot axis = cond (axis == 0) spot.epoch (cond (axis == 1) spot.dec spot.ra)

-- from what lies in the one box to what lies in the other it is no less than this, and no more than the next
abbrev pub least_difference : Bounds → Bounds → ℕ → ℤ
least_difference a b axis = end_on b.low axis -ℤ end_on a.high axis

abbrev pub greatest_difference : Bounds → Bounds → ℕ → ℤ
greatest_difference a b axis = end_on b.high axis -ℤ end_on a.low axis

-- the most ticks that a pair in two boxes may take
abbrev pub most_ticks : SettingsData → Bounds → Bounds → ℤ
most_ticks settings a b = int_min (greatest_difference a b 0) settings.pair_gap

-- how far a rate, which is per day of 1,000,000 ticks, reaches in so many ticks, rounded down
abbrev pub reach : ℤ → ℤ → ℤ
reach rate ticks = int_div (rate *ℤ ticks) (pos 1000000)

-- some difference from `least` to `greatest` may be within the reach
abbrev pub comes_near : ℤ → ℤ → ℤ → Bool
comes_near reach least greatest = le_z least reach && le_z (neg_ℤ reach) greatest

-- the same less whole turns: the differences don't all lie past the reach and short of a turn less the reach,
-- neither ahead nor behind
abbrev pub comes_near_round : ℤ → ℤ → ℤ → Bool
comes_near_round reach least greatest =
    (le_z least reach || le_z (full_turn -ℤ reach) greatest) && (le_z (neg_ℤ reach) greatest || le_z least (reach -ℤ full_turn))

-- two boxes may hold a pair
abbrev pub may_hold_pair : SettingsData → Bounds → Bounds → Bool
may_hold_pair settings a b =
    le_z (pos 1) (greatest_difference a b 0)
    && le_z (least_difference a b 0) settings.pair_gap
    && comes_near (reach settings.rate_dec (most_ticks settings a b)) (least_difference a b 1) (greatest_difference a b 1)
    && comes_near_round (reach settings.rate_ra (most_ticks settings a b)) (least_difference a b 2) (greatest_difference a b 2)
