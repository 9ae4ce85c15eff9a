-- What an asked list of ids is answered: the first case that holds.
use Rattle.std.specs.Prelude.{◌≡◌, ◌↔◌, ℕ, ◌+◌, nat_eq, nat_lt, ℤ, Bool, true, false, not, ◌&&◌, ◌||◌, ◌==◌, if◌then◌else◌, Option, Some, None, is_some, List, [], ◌∷◌, length, map, take, slice_index_or, Result, Ok, Err, MatchOption}
use Rattle.std.specs.Cmp.Lexicographic.{pointwise}
use Rattle.std.specs.List.{filter, find, list_all, list_any, take_while}
use Rattle.std.specs.Option.{option_map}
use Rattle.exposure_log.specs.Held.{LogData, is_held_id, spots_of_night}
use Rattle.kept_nights.specs.KeptNights.{held_nights}
use Rattle.night_tree.specs.Nights.{tracklets_of}
use Rattle.refusal_cert.specs.Certificates.{IsCertificate}
use Rattle.sky_units.specs.Arcs.{MeetSpreadRule}
use Rattle.sky_units.specs.Faults.{IsFirstFault}
use Rattle.sky_units.specs.Motion.{AxisAdmits}
use Rattle.sky_units.specs.Pairs.{below}
use Rattle.sky_units.specs.SettingsData.{SettingsData}
use Rattle.sky_units.specs.SpotData.{SpotData}
use Rattle.sky_units.specs.TrackletData.{NightTracklets, TrackSetData, spots_of}
use Rattle.sky_units.specs.Tracks.{numbers_of}
use Rattle.sky_units.specs.declared.ask_errors.AskError.{AskError}
use Rattle.sky_units.specs.declared.ask_errors.AskError.TheVariants.{Unknown, Twice}
use Rattle.sky_units.specs.declared.asked.Asked.{Asked}
use Rattle.sky_units.specs.declared.asked.Asked.TheVariants.{Listed, Inside, NotTracklet, FewNights, Spread, Misfit}
use Rattle.sky_units.specs.declared.axis.Axis.{Axis}
use Rattle.sky_units.specs.declared.axis.Axis.TheVariants.{Ra, Dec}
use Rattle.sky_units.specs.declared.certificates.Cert.{Cert}
use Rattle.window_incr.specs.Answers.{IsReportList, id_of_number}
use Rattle.window_incr.specs.LinkerState.{LinkerState}

-- where there is something, the case holds of it; where there is nothing, a later one
abbrev pub FirstCase : {X : Type 0} → Option X → (X → Type 0) → Type 0 → Type 0
FirstCase (Some x) holds later = holds x
FirstCase None holds later = later

-- the first place below n that passes a test
abbrev pub first_place : (ℕ → Bool) → ℕ → Option ℕ
first_place passes n = find passes (below n)

-- ---- the ids

-- an id is one of some ids
abbrev pub is_among : List (List ℕ) → List ℕ → Bool
is_among ids id = list_any (pointwise nat_eq id) ids

-- the id at a place
abbrev pub id_at : List (List ℕ) → ℕ → List ℕ
id_at ids place = slice_index_or ids place []

-- the first place whose id isn't held
abbrev pub first_unknown : LogData → List (List ℕ) → Option ℕ
first_unknown log ids = first_place (λ place. not (is_held_id log.exposures (id_at ids place))) (length ids)

-- the first place whose id equals an earlier one
abbrev pub first_repeated : List (List ℕ) → Option ℕ
first_repeated ids = first_place (λ place. is_among (take place ids) (id_at ids place)) (length ids)

-- ---- the asked spots, night by night

-- the spot's detection has one of the ids
abbrev pub is_asked : LogData → List (List ℕ) → SpotData → Bool
is_asked log ids spot = is_among ids (id_of_number log spot.num)

-- the asked spots of a night, in canonical order
abbrev pub asked_of : LogData → List (List ℕ) → ℤ → List SpotData
asked_of log ids night = filter (is_asked log ids) (spots_of_night log night)

-- there are some spots
abbrev pub are_some : List SpotData → Bool
are_some [] = false
are_some (spot ∷ spots) = true

-- the asked spots of each night that has some
abbrev pub asked_set : LogData → List (List ℕ) → TrackSetData
asked_set log ids = filter are_some (map (asked_of log ids) (held_nights log))

-- the numbers of spots
abbrev pub labels : List SpotData → List ℕ
labels spots = map (λ (spot : SpotData). spot.num) spots

-- there are some spots, which aren't one of the tracklets, by their numbers
abbrev pub are_untracked : List SpotData → NightTracklets → Bool
are_untracked spots tracklets = are_some spots && not (list_any (λ tracklet. pointwise nat_eq (labels tracklet) (labels spots)) tracklets)

-- the asked spots of a night aren't one of its tracklets
abbrev pub is_untracked : LinkerState → List (List ℕ) → ℤ → Bool
is_untracked s ids night = are_untracked (asked_of s.log ids night) (tracklets_of s.settings (spots_of_night s.log night))

-- the least such night
abbrev pub first_untracked : LinkerState → List (List ℕ) → Option ℤ
first_untracked s ids = find (is_untracked s ids) (held_nights s.log)

-- the number of nights, where it is below three
abbrev pub few_nights : TrackSetData → Option ℕ
few_nights set = if nat_lt (length set) 3 then Some (length set) else None

-- ---- the asked spots, by their places in the list of ids

-- the first place of an id
abbrev pub place_of : List (List ℕ) → List ℕ → ℕ
place_of ids id = length (take_while (λ other. not (pointwise nat_eq other id)) ids)

-- the asked spots in order of epoch, with the places of their ids as labels
abbrev pub placed_spot : LogData → List (List ℕ) → SpotData → SpotData
placed_spot log ids spot = record spot { num = place_of ids (id_of_number log spot.num) }

abbrev pub placed : LogData → List (List ℕ) → List SpotData
placed log ids = map (placed_spot log ids) (spots_of (asked_set log ids))

-- the first two spots that break the spread rule, or none
abbrev pub IsSpreadFault : List SpotData → Option (Axis × ℕ × ℕ) → Type 0
IsSpreadFault spots fault = MatchOption fault (MeetSpreadRule spots) (λ f. IsFirstFault spots f.0 f.1 f.2)

-- the certificate of an axis, which has one exactly where it doesn't admit the spots
pub record IsShown (axis : Axis) (settings : SettingsData) (spots : List SpotData) (cert : Option Cert) : Type 0 where
  pub certificate : IsCertificate axis settings spots cert
  pub none : (cert ≡ None) ↔ AxisAdmits axis settings spots

-- the certificates of both axes, where there is one
abbrev pub misfit : Option Cert → Option Cert → Option (Option Cert × Option Cert)
misfit ra dec = if is_some ra || is_some dec then Some (ra, dec) else None

-- ---- the asked spots among the listed tracks

-- a number is in a list
abbrev pub has_number : List ℕ → ℕ → Bool
has_number numbers number = list_any (λ n. n == number) numbers

-- all numbers of one list are among those of another
abbrev pub are_among : List ℕ → List ℕ → Bool
are_among one other = list_all (has_number other) one

-- and not the other way round
abbrev pub is_part : List ℕ → List ℕ → Bool
is_part one other = are_among one other && not (are_among other one)

-- the number, from 1, of the first track whose spots' numbers pass a test
abbrev pub first_number : (List ℕ → Bool) → List TrackSetData → Option ℕ
first_number passes list = option_map (λ place. place + 1) (first_place (λ place. passes (numbers_of (slice_index_or list place []))) (length list))

-- the number of the track that has exactly these spots, by their numbers
abbrev pub number_of_track : List TrackSetData → List ℕ → Option ℕ
number_of_track list numbers = first_number (λ listed. pointwise nat_eq listed numbers) list

-- the number of the first track that properly contains them
abbrev pub number_around : List TrackSetData → List ℕ → Option ℕ
number_around list numbers = first_number (is_part numbers) list

-- ---- the answer

-- spots that fit are a listed track, or else properly contained in one
abbrev pub IsAskedTrack : LinkerState → List ℕ → Result Asked AskError → Type 0
IsAskedTrack s numbers answer = (list : List TrackSetData) × IsReportList s list × (
    FirstCase (number_of_track list numbers) (λ k. answer ≡ Ok (Listed k)) (
    FirstCase (number_around list numbers) (λ k. answer ≡ Ok (Inside k)) ⊥))

-- spots near one another fit, or some axis doesn't admit them
abbrev pub IsAskedFit : LinkerState → List (List ℕ) → Result Asked AskError → Type 0
IsAskedFit s ids answer = (ra : Option Cert) × (dec : Option Cert)
    × IsShown Ra s.settings (placed s.log ids) ra
    × IsShown Dec s.settings (placed s.log ids) dec
    × FirstCase (misfit ra dec) (λ shown. answer ≡ Ok (Misfit shown.0 shown.1)) (IsAskedTrack s (labels (spots_of (asked_set s.log ids))) answer)

-- spots of three or more nights are near one another, or two of them are too far apart
abbrev pub IsAskedSpread : LinkerState → List (List ℕ) → Result Asked AskError → Type 0
IsAskedSpread s ids answer = (fault : Option (Axis × ℕ × ℕ))
    × IsSpreadFault (placed s.log ids) fault
    × FirstCase fault (λ f. answer ≡ Ok (Spread f.0 f.1 f.2)) (IsAskedFit s ids answer)

-- an id that isn't held, an id twice, asked detections of a night that aren't one of its tracklets, fewer than three nights, too far
-- apart, a misfit, a listed track, inside one: the first of these cases that holds
abbrev pub IsAsked : LinkerState → List (List ℕ) → Result Asked AskError → Type 0
IsAsked s ids answer =
    FirstCase (first_unknown s.log ids) (λ place. answer ≡ Err (Unknown place)) (
    FirstCase (first_repeated ids) (λ place. answer ≡ Err (Twice place)) (
    FirstCase (first_untracked s ids) (λ night. answer ≡ Ok (NotTracklet night)) (
    FirstCase (few_nights (asked_set s.log ids)) (λ n. answer ≡ Ok (FewNights n)) (
    IsAskedSpread s ids answer))))
