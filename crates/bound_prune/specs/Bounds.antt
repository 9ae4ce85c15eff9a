-- Of which boxes two tracklets, the one after the other, may be of one object: its epochs, its rates, and the way from the first
-- spot of the one to the first spot of the other, which is twice their mean rates together over the time between, but for
-- an acceleration that counts as long as the two tracklets last.
use Rattle.std.specs.Prelude.{ℕ, ℤ, pos, neg_ℤ, ◌+ℤ◌, ◌-ℤ◌, ◌*ℤ◌, ◌≤ℤ◌, ◌<ℤ◌, ◌⊎◌}
use Rattle.std.specs.Int.{int_min, int_max, int_div_euclid}
use Rattle.sky_math.specs.Circle.{full_turn}
use Rattle.sky_units.specs.Limits.{arc_ticks}
use Rattle.sky_units.specs.Motion.{acceleration}
use Rattle.sky_units.specs.SettingsData.{SettingsData}
use Rattle.sky_units.specs.declared.axis.Axis.{Axis}
use Rattle.sky_units.specs.declared.axis.Axis.TheVariants.{Ra, Dec}
use Rattle.box_tree.specs.declared.bounds.Bounds.{Bounds}
use Rattle.box_tree.specs.Boxes.{end_on}

-- the axes of a tracklet's box that hold the place and the rate on an axis of the sky
abbrev pub place_axis : Axis → ℕ
place_axis Ra = 0
place_axis Dec = 1

abbrev pub rate_axis : Axis → ℕ
rate_axis Ra = 3
rate_axis Dec = 4

-- a number, or the end of the range from `least` to `most` that it lies beyond
unfoldable pub kept_within : ℤ → ℤ → ℤ → ℤ
kept_within least most n = int_max least (int_min n most)

-- ---- times, in ticks; an arc lasts less than `arc_ticks`
-- the most and the fewest that may pass: from the begin of what lies in one box to the end of what lies in a later one
abbrev pub longest : Bounds → Bounds → ℤ
longest a b = kept_within (pos 0) (arc_ticks -ℤ pos 1) (end_on b.high 2 -ℤ end_on a.low 2)

-- and from the end of the one to the begin of the other
abbrev pub shortest : Bounds → Bounds → ℤ
shortest a b = kept_within (pos 0) (longest a b) (end_on b.low 2 -ℤ end_on a.high 2)

-- the most that a tracklet in a box may last
abbrev pub lasting : Bounds → ℤ
lasting a = kept_within (pos 0) (arc_ticks -ℤ pos 1) (end_on a.high 2 -ℤ end_on a.low 2)

-- ---- rates, in 10^-6 degree per day of 1,000,000 ticks
-- the mean rates of two tracklets differ by no more than the acceleration allows over the longest time
pub record RatesAgree (axis : Axis) (settings : SettingsData) (a b : Bounds) : Type 0 where
  pub slower : (pos 1000000 *ℤ (end_on a.low (rate_axis axis) -ℤ end_on b.high (rate_axis axis))) ≤ℤ (acceleration axis settings *ℤ longest a b)
  pub faster : (pos 1000000 *ℤ (end_on b.low (rate_axis axis) -ℤ end_on a.high (rate_axis axis))) ≤ℤ (acceleration axis settings *ℤ longest a b)

-- the most that the acceleration adds to two rates together over the ticks that the tracklets last
unfoldable pub gained_in : Axis → SettingsData → ℤ → ℤ
gained_in axis settings ticks = int_div_euclid (acceleration axis settings *ℤ ticks) (pos 2000000) +ℤ pos 1

-- the greatest two rates together, ahead and back, with what is gained
abbrev pub ahead_with : Axis → ℤ → Bounds → Bounds → ℤ
ahead_with axis gained a b = (end_on a.high (rate_axis axis) +ℤ end_on b.high (rate_axis axis)) +ℤ gained

abbrev pub back_with : Axis → ℤ → Bounds → Bounds → ℤ
back_with axis gained a b = neg_ℤ (end_on a.low (rate_axis axis) +ℤ end_on b.low (rate_axis axis)) +ℤ gained

-- ---- ways, in 10^-6 degree
-- the farthest that two rates together lead, in 1 / 2,000,000 of that, over some time from the shortest to the longest
unfoldable pub way : ℤ → Bounds → Bounds → ℤ
way rates a b = int_max (rates *ℤ shortest a b) (rates *ℤ longest a b)

-- a way leads from within the tolerance of one place to within that of another one this far from it
abbrev pub Reaches : ℤ → ℤ → ℤ → Type 0
Reaches tol distance led = (pos 2000000 *ℤ (distance -ℤ (tol +ℤ tol))) ≤ℤ led

-- no distance counts for more than two turns
abbrev pub two_turns : ℤ
two_turns = full_turn +ℤ full_turn

-- the least and the greatest distance from what lies in one box to what lies in another
abbrev pub least_distance : Axis → Bounds → Bounds → ℤ
least_distance axis a b = kept_within (neg_ℤ two_turns) two_turns (end_on b.low (place_axis axis) -ℤ end_on a.high (place_axis axis))

abbrev pub greatest_distance : Axis → Bounds → Bounds → ℤ
greatest_distance axis a b = kept_within (neg_ℤ two_turns) two_turns (end_on b.high (place_axis axis) -ℤ end_on a.low (place_axis axis))

-- some distance from the least to the greatest is reached: the least one ahead, and the greatest one back
pub record IsOpen (tol least greatest ahead back : ℤ) : Type 0 where
  pub from : Reaches tol least ahead
  pub to : Reaches tol (neg_ℤ greatest) back

-- the same on the circle: the distances don't all lie past what is reached ahead and short of a turn less what is reached back, nor
-- all past what is reached back and short of a turn less what is reached ahead
pub record IsOpenRound (tol least greatest ahead back : ℤ) : Type 0 where
  pub from : Reaches tol least ahead ⊎ Reaches tol (full_turn -ℤ greatest) back
  pub to : Reaches tol (neg_ℤ greatest) back ⊎ Reaches tol (full_turn +ℤ least) ahead

-- the farthest ways from one box to another, ahead and back
abbrev pub way_ahead : Axis → SettingsData → Bounds → Bounds → ℤ
way_ahead axis settings a b = way (ahead_with axis (gained_in axis settings (lasting a +ℤ lasting b)) a b) a b

abbrev pub way_back : Axis → SettingsData → Bounds → Bounds → ℤ
way_back axis settings a b = way (back_with axis (gained_in axis settings (lasting a +ℤ lasting b)) a b) a b

-- two tracklets in these boxes, the second one later, may be of one object
pub record May (settings : SettingsData) (a b : Bounds) : Type 0 where
  pub follows : end_on a.low 2 <ℤ end_on b.high 2
  pub dec_way : IsOpen settings.tol_dec (least_distance Dec a b) (greatest_distance Dec a b) (way_ahead Dec settings a b) (way_back Dec settings a b)
  pub ra_way : IsOpenRound settings.tol_ra (least_distance Ra a b) (greatest_distance Ra a b) (way_ahead Ra settings a b) (way_back Ra settings a b)
  pub dec_rates : RatesAgree Dec settings a b
  pub ra_rates : RatesAgree Ra settings a b

-- three tracklets in these boxes, each later than the one before, may be of one object: each two may
pub record MayThree (settings : SettingsData) (a b c : Bounds) : Type 0 where
  pub first_second : May settings a b
  pub first_third : May settings a c
  pub second_third : May settings b c
