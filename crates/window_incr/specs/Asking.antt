-- What the steps of asking find.
use Rattle.std.specs.Prelude.{◌≡◌, ◌≤◌, ℕ, Some, None, IsSome, List, [], ◌∷◌, length, map}
use Rattle.std.specs.List.{All}
use Rattle.exposure_log.specs.Held.{LogData, held_at}
use Rattle.night_tree.specs.Nights.{NightData, tracklets_of_each}
use Rattle.sky_units.specs.SpotData.{SpotData}
use Rattle.sky_units.specs.TrackletData.{TrackSetData, spots_of}
use Rattle.sky_units.specs.Tracks.{IsChoice, IsTrack}
use Rattle.sky_units.specs.declared.ask_errors.AskError.{AskError}
use Rattle.sky_units.specs.declared.ask_errors.AskError.TheVariants.{Unknown}
use Rattle.window_incr.specs.Answers.{id_of_number}
use Rattle.window_incr.specs.Asked.{asked_set, first_unknown, first_untracked}
use Rattle.window_incr.specs.LinkerState.{LinkerState}
use Rattle.window_incr.specs.Soundness.{IsSoundState}
use Rattle.window_incr.specs.declared.asking.Found.{Found}
use Rattle.window_incr.specs.declared.asking.Found.TheVariants.{Untracked, Tracked}
use Rattle.kept_nights.specs.KeptNights.{nights_of}

-- the numbers of the held detections of some ids, in their order
pub record AreNumbersOf (log : LogData) (ids : List (List ℕ)) (numbers : List ℕ) : Type 0 where
  pub ids_are : map (id_of_number log) numbers ≡ ids
  pub held : All (λ n. IsSome (held_at log.exposures n)) numbers

-- the error names the first id that isn't held
abbrev pub IsUnknown : LogData → List (List ℕ) → AskError → Type 0
IsUnknown log ids error = (place : ℕ) × (first_unknown log ids ≡ Some place) × (error ≡ Unknown place)

-- the spots of a set of tracklets, at most one of each night, which are the asked ones
pub record IsTrackedSet (s : LinkerState) (ids : List (List ℕ)) (spots : List SpotData) : Type 0 where
  pub choice : IsChoice (tracklets_of_each (nights_of s)) (asked_set s.log ids)
  pub three : 3 ≤ length (asked_set s.log ids)
  pub spots_are : spots ≡ spots_of (asked_set s.log ids)

-- the first night whose asked spots aren't one of its tracklets, or how many nights have some, and all of them
abbrev pub IsFound : LinkerState → List (List ℕ) → Found → Type 0
IsFound s ids (Untracked night) = first_untracked s ids ≡ Some night
IsFound s ids (Tracked found) =
    (first_untracked s ids ≡ None) × (found.nights ≡ length (asked_set s.log ids)) × (found.spots.items ≡ spots_of (asked_set s.log ids))

-- the spots are those of a track
pub record IsTrackOfSpots (s : LinkerState) (spots : List SpotData) : Type 0 where
  pub set : TrackSetData
  pub track : IsTrack s.settings (tracklets_of_each (nights_of s)) set
  pub spots_are : spots ≡ spots_of set

-- the nights are kept for a sound state of this log, and the numbers are those of the asked ids
pub record AreAsked (log : LogData) (nights : List NightData) (numbers : List ℕ) (s : LinkerState) (ids : List (List ℕ)) : Type 0 where
  pub log_is : s.log ≡ log
  pub sound : IsSoundState s
  pub kept : nights ≡ nights_of s
  pub numbers_are : AreNumbersOf log ids numbers

-- 1 where there are some spots, else 0
abbrev pub one_if_some : List SpotData → ℕ
one_if_some [] = 0
one_if_some (spot ∷ spots) = 1
