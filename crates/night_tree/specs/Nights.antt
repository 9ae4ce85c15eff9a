-- A night: its number, and its tracklets.
use Rattle.std.specs.Prelude.{if◌then◌else◌, ℕ, ℤ, pos, List, [], ◌∷◌, map}
use Rattle.std.specs.Cmp.Lexicographic.{slice_cmp}
use Rattle.std.specs.List.{filter_map}
use Rattle.std.specs.Ordering.{int_eq, is_eq, is_lt, nat_cmp}
use Rattle.sky_units.specs.AtPlaces.{spots_at}
use Rattle.sky_units.specs.Pairs.{pairs_of}
use Rattle.sky_units.specs.SettingsData.{SettingsData}
use Rattle.sky_units.specs.SpotData.{SpotData}
use Rattle.sky_units.specs.TrackletData.{NightTracklets}
use Rattle.collapse.specs.Groups.{groups_of}
use Rattle.purge.specs.Purging.{purge_of}

-- a night's number, and its tracklets in order
pub record NightData : Type 0 where
  pub number : ℤ
  pub tracklets : NightTracklets

-- the two places of a pair
abbrev pub places_of_pair : ℕ × ℕ → List ℕ
places_of_pair pair = pair.0 ∷ pair.1 ∷ []

-- the places of the spots that belong together: by stage the pairs, the groups, or what is left of each group
abbrev pub sets_of : SettingsData → List SpotData → List (List ℕ)
sets_of settings spots =
    if int_eq settings.stages (pos 1) then map places_of_pair (pairs_of settings spots)
    else (if int_eq settings.stages (pos 2) then groups_of settings spots else filter_map (purge_of settings spots) (groups_of settings spots))

-- sets of places in lexicographic order with one more; one that is there already is not repeated
abbrev pub with_set : List ℕ → List (List ℕ) → List (List ℕ)
with_set set [] = set ∷ []
with_set set (first ∷ rest) =
    let order = slice_cmp nat_cmp set first in
    if is_lt order then set ∷ first ∷ rest else (if is_eq order then first ∷ rest else first ∷ with_set set rest)

-- sets of places in lexicographic order, each once
abbrev pub in_order : List (List ℕ) → List (List ℕ)
in_order [] = []
in_order (set ∷ rest) = with_set set (in_order rest)

-- the tracklets of a night's spots
abbrev pub tracklets_of : SettingsData → List SpotData → NightTracklets
tracklets_of settings spots = map (spots_at spots) (in_order (sets_of settings spots))

-- the tracklets of each of some nights
abbrev pub tracklets_of_each : List NightData → List NightTracklets
tracklets_of_each nights = map (λ (night : NightData). night.tracklets) nights
