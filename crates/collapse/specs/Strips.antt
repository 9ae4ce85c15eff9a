-- Groups looked up by the declination of one of their spots: in strips of the sky, from the south on.
use Rattle.std.specs.Prelude.{◌≡◌, ◌≤◌, ◌<◌, ◌/◌, ◌+◌, ℕ, pos, ◌+ℤ◌, ◌-ℤ◌, ◌*ℤ◌, ◌≤ℤ◌, ℤ, true, false, List, [], ◌∷◌, ◌++◌, length, slice_index_or, slice_set}
use Rattle.std.specs.Int.RustNames.{unsigned_abs}
use Rattle.std.specs.List.{All, Contains}
use Rattle.std.specs.List.Sorted.{IsNonDecreasingBy}
use Rattle.sky_units.specs.AtPlaces.{spots_at}
use Rattle.sky_units.specs.SettingsData.{SettingsData}
use Rattle.sky_units.specs.SpotData.{SpotData}
use Rattle.line_fit.specs.Lines.{lies_on_line}
use Rattle.collapse.specs.Groups.{ArePlaces, may_join}
use Rattle.collapse.specs.declared.strips.Entry.{Entry}

-- how far a spot lies from the south pole, in 10^-6 degree
abbrev pub height : SpotData → ℕ
height spot = unsigned_abs (spot.dec +ℤ pos 90000000)

-- over so many ticks a line of the greatest rate moves no farther in declination than this, less twice the tolerance
abbrev pub IsReachOver : SettingsData → ℤ → ℕ → Type 0
IsReachOver settings ticks reach = ((settings.rate_dec *ℤ ticks) +ℤ ((settings.line_tol +ℤ settings.line_tol) *ℤ pos 1000000)) ≤ℤ (pos reach *ℤ pos 1000000)

-- no two spots of a line lie farther apart than this in declination
abbrev pub IsReach : SettingsData → List SpotData → ℕ → Type 0
IsReach settings spots reach = (i j : ℕ) (d : SpotData) → i < j → j < length spots → IsReachOver settings ((slice_index_or spots j d).epoch -ℤ (slice_index_or spots i d).epoch) reach

-- strips of some width, and a reach below a ninth of the way from pole to pole
pub record IsGrid (settings : SettingsData) (spots : List SpotData) (width reach : ℕ) : Type 0 where
  pub positive : 0 < width
  pub small : reach ≤ 20000001
  pub covers : IsReach settings spots reach

-- the spots at these places lie on a line
abbrev pub LieOnLine : SettingsData → List SpotData → List ℕ → Type 0
LieOnLine settings spots places = lies_on_line settings.line_tol settings.rate_ra settings.rate_dec (spots_at spots places) ≡ true

-- groups are rising places of spots on a line
pub record AreGroups (settings : SettingsData) (spots : List SpotData) (groups : List (List ℕ)) : Type 0 where
  pub places : All (ArePlaces (length spots)) groups
  pub lines : All (LieOnLine settings spots) groups

-- an entry is of a group and one of its places
pub record IsEntry (groups : List (List ℕ)) (entry : Entry) : Type 0 where
  pub within : entry.group < length groups
  pub among : Contains (slice_index_or groups entry.group []) entry.place

-- the group of this number has an entry in the strip of its spot
pub record IsFiled (spots : List SpotData) (width : ℕ) (lists : List (List Entry)) (group : ℕ) : Type 0 where
  pub place : ℕ
  pub within : place < length spots
  pub listed : (d : SpotData) → Contains (slice_index_or lists (height (slice_index_or spots place d) / width) []) (record { place = place; group = group })

-- entries in the order of their places
abbrev pub PlacesDontFall : List Entry → Type 0
PlacesDontFall entries = IsNonDecreasingBy (λ (entry : Entry). entry.place) entries

-- entries in the order of their places, none of which is beyond a last one
pub record AreInOrder (last : ℕ) (entries : List Entry) : Type 0 where
  pub places : PlacesDontFall entries
  pub most : All (λ entry. entry.place ≤ last) entries

-- the strips reach from pole to pole, have an entry of each group, and each is in the order of its places, up to a last one
pub record AreFiled (spots : List SpotData) (width last : ℕ) (lists : List (List Entry)) (groups : List (List ℕ)) : Type 0 where
  pub count : length lists ≡ 180000000 / width + 1
  pub entries : All (All (IsEntry groups)) lists
  pub each : (i : ℕ) → i < length groups → IsFiled spots width lists i
  pub in_order : All (AreInOrder last) lists

-- the number is the least one below a limit whose group among the entries the pair may join, or the limit
pub record IsFirstOf (settings : SettingsData) (spots : List SpotData) (pair : ℕ × ℕ) (groups : List (List ℕ)) (entries : List Entry) (below first : ℕ) : Type 0 where
  pub most : first ≤ below
  pub joins : first < below → may_join settings spots pair (slice_index_or groups first []) ≡ true
  pub before : All (λ (e : Entry). e.group < first → may_join settings spots pair (slice_index_or groups e.group []) ≡ false) entries

-- strips with no entry, from pole to pole
pub record AreEmpty (width : ℕ) (lists : List (List Entry)) : Type 0 where
  pub count : length lists ≡ 180000000 / width + 1
  pub none : All (λ list. list ≡ []) lists

-- strips with one entry more
abbrev pub with_entry : List (List Entry) → ℕ → Entry → List (List Entry)
with_entry lists strip entry = slice_set lists strip (slice_index_or lists strip [] ++ entry ∷ [])
