-- What a join of trees of tracklets asks: whether boxes may hold tracklets that fit, and whether tracklets are wanted.
use Rattle.std.specs.Prelude.{◌≡◌, ℕ, ◌+◌, ◌-◌, ◌^◌, min, Bool, true}
use Rattle.sky_units.specs.SettingsData.{SettingsData}
use Rattle.box_tree.specs.declared.bounds.Bounds.{Bounds}
use Rattle.box_tree.specs.Boxes.{Covers}
use Rattle.bound_prune.specs.Boxes.{BoxedTracklet, box_low, box_high}
use Rattle.bound_prune.specs.Decided.{holds, holds-so, holds-true, may_or_not, three_may_or_not, wanted_or_not, three_wanted_or_not}
use Rattle.bound_prune.specs.Lossless.{two_may, three_may}

-- whether two, or three, boxes may hold tracklets of one object
abbrev pub may : SettingsData → Bounds → Bounds → Bool
may settings a b = holds (may_or_not settings a b)

abbrev pub may_three : SettingsData → Bounds → Bounds → Bounds → Bool
may_three settings a b c = holds (three_may_or_not settings a b c)

-- whether two, or three, tracklets are wanted
abbrev pub wanted : SettingsData → BoxedTracklet → BoxedTracklet → Bool
wanted settings a b = holds (wanted_or_not settings a b)

abbrev pub wanted_three : SettingsData → BoxedTracklet → BoxedTracklet → BoxedTracklet → Bool
wanted_three settings a b c = holds (three_wanted_or_not settings a b c)

-- one test was counted where P holds, and none elsewhere; the count stays at its greatest value
pub record CountsWhere (P : Type 0) (before after : ℕ) : Type 0 where
  pub one : P → after ≡ min (before + 1) (2 ^ 64 - 1)
  pub none : ¬ P → after ≡ before

-- boxes that hold wanted tracklets may hold them
pub two_lose_nothing : (settings : SettingsData) (a b : BoxedTracklet) (box_a box_b : Bounds) → wanted settings a b ≡ true → Covers 5 (box_low a) (box_high a) box_a → Covers 5 (box_low b) (box_high b) box_b → may settings box_a box_b ≡ true
two_lose_nothing settings a b box_a box_b w in_a in_b =
    holds-true (may_or_not settings box_a box_b) (two_may settings a b box_a box_b (holds-so (wanted_or_not settings a b) w) in_a in_b)

pub three_lose_nothing : (settings : SettingsData) (a b c : BoxedTracklet) (box_a box_b box_c : Bounds) → wanted_three settings a b c ≡ true → Covers 5 (box_low a) (box_high a) box_a → Covers 5 (box_low b) (box_high b) box_b → Covers 5 (box_low c) (box_high c) box_c → may_three settings box_a box_b box_c ≡ true
three_lose_nothing settings a b c box_a box_b box_c w in_a in_b in_c =
    holds-true (three_may_or_not settings box_a box_b box_c) (three_may settings a b c box_a box_b box_c (holds-so (three_wanted_or_not settings a b c) w) in_a in_b in_c)
