-- The first group that a pair may join.
use Rattle.std.specs.Prelude.{◌≡◌, ℕ, ◌<◌, ◌≤◌, true, false, List, length, slice_index_or}
use Rattle.sky_units.specs.SettingsData.{SettingsData}
use Rattle.sky_units.specs.SpotData.{SpotData}
use Rattle.collapse.specs.Groups.{may_join}

-- the pair may not join the groups before the place n
abbrev pub NoneBefore : SettingsData → List SpotData → ℕ × ℕ → List (List ℕ) → ℕ → Type 0
NoneBefore settings spots pair groups n = (i : ℕ) (d : List ℕ) → i < n → i < length groups → may_join settings spots pair (slice_index_or groups i d) ≡ false

-- the pair may join the group at this place
pub record JoinsAt (settings : SettingsData) (spots : List SpotData) (pair : ℕ × ℕ) (groups : List (List ℕ)) (at : ℕ) : Type 0 where
  pub within : at < length groups
  pub joins : (d : List ℕ) → may_join settings spots pair (slice_index_or groups at d) ≡ true

-- where the first group stands that the pair may join, or the number of groups where it may join none
pub record IsFirstToJoin (settings : SettingsData) (spots : List SpotData) (pair : ℕ × ℕ) (groups : List (List ℕ)) (first : ℕ) : Type 0 where
  pub most : first ≤ length groups
  pub joins : first < length groups → JoinsAt settings spots pair groups first
  pub before : NoneBefore settings spots pair groups first
