-- What the linker answers: tracklets of a night, the report, and the statistics.
use Rattle.std.specs.Prelude.{◌≡◌, ◌<◌, ◌≤◌, ◌^◌, ◌↔◌, ℕ, ℤ, Option, List, [], ◌∷◌, length, map, ⊤}
use Rattle.std.specs.Cmp.Lexicographic.{slice_cmp}
use Rattle.std.specs.List.{Contains, sum_by}
use Rattle.std.specs.Option.{option_cmp, option_map_or}
use Rattle.std.specs.declared.cmp.Ordering.{Ordering}
use Rattle.std.specs.declared.cmp.Ordering.TheVariants.{Less}
use Rattle.sky_math.specs.Lists.{EachTwo}
use Rattle.miti_text.specs.Observation.{Observation}
use Rattle.miti_text.specs.CanonicalOrder.{canonical_cmp}
use Rattle.miti_text.specs.ValidReports.{IsValidQuad}
use Rattle.exposure_log.specs.Held.{LogData, detections_of, held_at, spots_of_night}
use Rattle.night_tree.specs.Nights.{tracklets_of, tracklets_of_each}
use Rattle.sky_units.specs.Arcs.{IsArc}
use Rattle.sky_units.specs.Motion.{Fits}
use Rattle.sky_units.specs.Ranges.{IsDeclination, IsRightAscension}
use Rattle.sky_units.specs.SettingsData.{SettingsData}
use Rattle.sky_units.specs.SpotData.{SpotData}
use Rattle.sky_units.specs.TrackletData.{TrackSetData, spots_of}
use Rattle.sky_units.specs.Reported.{IsReported}
use Rattle.sky_units.specs.Tracks.{IsMaximalTrack}
use Rattle.sky_units.specs.declared.axis.Axis.{Axis}
use Rattle.sky_units.specs.declared.axis.Axis.TheVariants.{Ra, Dec}
use Rattle.sky_units.specs.declared.reports.Track.{Track}
use Rattle.sky_units.specs.declared.reports.Report.{Report}
use Rattle.sky_units.specs.declared.statistics.Stats.{Stats}
use Rattle.window_incr.specs.LinkerState.{LinkerState}
use Rattle.kept_nights.specs.KeptNights.{nights_of}

-- the id of the held detection of a number
abbrev pub id_of_number : LogData → ℕ → List ℕ
id_of_number log number = option_map_or (λ d. d.id) (held_at log.exposures number) []

-- the ids of spots
abbrev pub ids_of : LogData → List SpotData → List (List ℕ)
ids_of log spots = map (λ (spot : SpotData). id_of_number log spot.num) spots

-- the ids of each tracklet of a night
abbrev pub tracklet_ids : LinkerState → ℤ → List (List (List ℕ))
tracklet_ids s night = map (ids_of s.log) (tracklets_of s.settings (spots_of_night s.log night))

-- a track as it is reported: one tracklet for each night, the ids in canonical order, and the reported quadratic on each axis
pub record IsTrackOf (s : LinkerState) (set : TrackSetData) (track : Track) : Type 0 where
  pub nights : track.nights ≡ length set
  pub ids : track.ids ≡ ids_of s.log (spots_of set)
  pub ra : IsReported Ra s.settings (spots_of set) track.ra
  pub dec : IsReported Dec s.settings (spots_of set) track.dec

-- tracks are those of sets, one of each, in their order
abbrev pub AreTracksOf : LinkerState → List TrackSetData → List Track → Type 0
AreTracksOf s [] [] = ⊤
AreTracksOf s [] (track ∷ tracks) = ⊥
AreTracksOf s (set ∷ sets) [] = ⊥
AreTracksOf s (set ∷ sets) (track ∷ tracks) = IsTrackOf s set track × AreTracksOf s sets tracks

-- a set that can be told: its spots, two or more, are an arc and fit
pub record CanBeTold (settings : SettingsData) (set : TrackSetData) : Type 0 where
  pub few : length set < 2 ^ 32
  pub two : 2 ≤ length (spots_of set)
  pub arc : IsArc (spots_of set)
  pub fits : Fits settings (spots_of set)

-- a position on an axis
abbrev pub IsPosition : Axis → ℤ → Type 0
IsPosition Ra = IsRightAscension
IsPosition Dec = IsDeclination

-- both quadratics of a track are valid
pub record HasValidQuads (track : Track) : Type 0 where
  pub ra : IsValidQuad IsRightAscension track.ra
  pub dec : IsValidQuad IsDeclination track.dec

-- the held detections of spots, where there are any
abbrev pub held_of : LogData → List SpotData → List (Option Observation)
held_of log spots = map (λ (spot : SpotData). held_at log.exposures spot.num) spots

-- how two sets compare: detection by detection, in canonical order
abbrev pub set_cmp : LogData → TrackSetData → TrackSetData → Ordering
set_cmp log one other = slice_cmp (option_cmp canonical_cmp) (held_of log (spots_of one)) (held_of log (spots_of other))

-- the report list: the maximal tracks of the nights with held exposures, each before those after it
pub record IsReportList (s : LinkerState) (list : List TrackSetData) : Type 0 where
  pub in_order : EachTwo (λ one later. set_cmp s.log one later ≡ Less) list
  pub listed : (set : TrackSetData) → Contains list set ↔ IsMaximalTrack s.settings (tracklets_of_each (nights_of s)) set

-- a report: the window, and the tracks of the report list
pub record IsReport (s : LinkerState) (report : Report) : Type 0 where
  pub list : List TrackSetData
  pub is_list : IsReportList s list
  pub window : report.window ≡ s.log.window
  pub tracks : AreTracksOf s list report.tracks

-- the statistics: what is held, the tracklets of all nights, and the tracks of the report list
pub record AreStats (s : LinkerState) (stats : Stats) : Type 0 where
  pub exposures : stats.exposures ≡ length s.log.exposures
  pub detections : stats.detections ≡ length (detections_of s.log.exposures)
  pub tracklets : stats.tracklets ≡ sum_by length (tracklets_of_each (nights_of s))
  pub list : List TrackSetData
  pub is_list : IsReportList s list
  pub tracks : stats.tracks ≡ length list
