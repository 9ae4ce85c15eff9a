-- The reports of an orderly log with a near window are valid.
use Rattle.std.proofs.Common.{◌≡◌, ℕ, ◌≤◌, ℤ, pos, negsuc, ◌+ℤ◌, ◌-ℤ◌, ◌<ℤ◌, Bool, not, Option, None, Some, List, [], ◌∷◌, length, get_or, refl, sym, subst, ap, ◌∙◌, arith}
use Rattle.std.specs.Int.{int_gap}
use Rattle.std.specs.Prelude.{IfSome, IsTrue}
use Rattle.std.specs.List.{All, Contains, filter}
use Rattle.std.specs.Option.{option_map_or}
use Rattle.std.proofs.lemmas.Int.{ints}
use Rattle.std.proofs.lemmas.List.{length-map}
use Rattle.std.proofs.lemmas.List.Elements.{All-cons, All-contains, All-head, All-map, All-nil, All-tail, All-weaker}
use Rattle.std.proofs.lemmas.List.Filters.{length-filter_both}
use Rattle.std.proofs.lemmas.List.FromFn.{length-map-range_with_len}
use Rattle.sky_units.specs.Limits.{most_nights, IsNear}
use Rattle.sky_units.specs.SpotData.{SpotData}
use Rattle.sky_units.specs.TrackletData.{TrackSetData, NightTracklets, IsTracklet, spots_of}
use Rattle.sky_units.specs.Tracks.{IsTrack}
use Rattle.sky_units.specs.declared.reports.Report.{Report}
use Rattle.sky_units.specs.declared.reports.Track.{Track}
use Rattle.miti_text.specs.Observation.{is_id}
use Rattle.exposure_log.specs.Held.{LogData, HeldExposure, spots_of_night}
use Rattle.exposure_log.specs.Orderly.{LieInWindow, HasIds, IsOrderly}
use Rattle.night_tree.specs.Nights.{NightData, tracklets_of_each}
use Rattle.night_tree.proofs.NightTracklets.{tracklets_are_of}
use Rattle.plain_tracks.proofs.Choices.{all_spots, chosen_have, few_chosen, two_each}
use Rattle.plain_tracks.proofs.Entries.{in_front, in_rest}
use Rattle.window_incr.specs.Answers.{AreTracksOf, HasValidQuads, IsReport, IsReportList, IsTrackOf, id_of_number}
use Rattle.kept_nights.specs.KeptNights.{nights_in, is_held_night, held_nights, nights_of}
use Rattle.window_incr.specs.LinkerState.{LinkerState}
use Rattle.miti_text.specs.ValidReports.{IsValidWindow, IsValidTrack, IsValidReport}
use Rattle.kept_nights.proofs.HeldNights.{here, each_is, in_order_follow, Entry, IsSpotOf, held_there, spots_are_of}

-- ---- a window has few nights

short_gap : (from to : ℤ) → (to -ℤ from) <ℤ pos 31 → int_gap from to ≤ 30
short_gap (pos a) (pos b) h = omega (arith, ints)
short_gap (pos a) (negsuc b) h = omega arith
short_gap (negsuc a) (pos b) h = omega (arith, ints)
short_gap (negsuc a) (negsuc b) h = omega (arith, ints)

few_in : (p : ℤ → Bool) (shift : ℤ) (window : Option (ℤ × ℤ)) (xs : List HeldExposure) → LieInWindow shift window xs → length (option_map_or (λ w. filter p (nights_in w)) window []) ≤ most_nights
few_in p shift None xs h = omega arith
few_in p shift (Some window) xs h =
    let kept = length-filter_both p (λ n. not (p n)) (λ n. refl) (nights_in window) in
    let all = length-map-range_with_len (λ (i : ℕ). window.0 +ℤ pos i) 0 (int_gap window.0 (window.1 +ℤ pos 1)) in
    let few : int_gap window.0 (window.1 +ℤ pos 1) ≤ 30 = short_gap window.0 (window.1 +ℤ pos 1) (let s = h.0.short in omega (arith, ints, s)) in
    omega (arith, kept, all, few)

pub few_nights : (s : LinkerState) → IsOrderly s.log → length (tracklets_of_each (nights_of s)) ≤ most_nights
few_nights s o =
    let few = few_in (is_held_night s.log) s.log.night_shift s.log.window s.log.exposures o.in_window in
    omega (arith, few, ap length (each_is s), length-map (held_nights s.log) (here s))

pub few_kept : (s : LinkerState) (nights : List NightData) → IsOrderly s.log → nights ≡ nights_of s → length nights ≤ most_nights
few_kept s nights o is = omega (arith, few_nights s o, ap length is, length-map (nights_of s) (λ (night : NightData). night.tracklets))

-- ---- each spot of a track has an id

-- the id of a spot's number keeps the rule
abbrev IsNamed : LogData → SpotData → Type 0
IsNamed log spot = IsTrue (is_id (id_of_number log spot.num))

named : (log : LogData) (night : ℤ) (spot : SpotData) → IsOrderly log → IsSpotOf log night spot → IsNamed log spot
named log night spot o h =
    let id : IsTrue (is_id h.entry.1.id) = All-contains (λ (d : Entry). IsTrue (is_id d.1.id)) h.exposure.detections h.entry (All-contains HasIds log.exposures h.exposure o.ids h.held) h.among in
    rw (held_there log night spot h o.numbers) id

named_night : (s : LinkerState) (night : ℤ) → IsOrderly s.log → All (All (IsNamed s.log)) (here s night)
named_night s night o =
    let spots : List SpotData = spots_of_night s.log night in
    let all : All (IsNamed s.log) spots = All-weaker (IsSpotOf s.log night) (IsNamed s.log) (λ spot h. named s.log night spot o h) spots (spots_are_of s.log night) in
    All-weaker (All (Contains spots)) (All (IsNamed s.log)) (λ t h. All-weaker (Contains spots) (IsNamed s.log) (λ spot c. All-contains (IsNamed s.log) spots spot all c) t h) (here s night) (tracklets_are_of s.settings spots)

named_nights : (s : LinkerState) → IsOrderly s.log → All (All (All (IsNamed s.log))) (tracklets_of_each (nights_of s))
named_nights s o = rw (each_is s) (All-map (All (All (IsNamed s.log))) (here s) (held_nights s.log) (λ k d kn. named_night s (get_or (held_nights s.log) k d) o))

-- ---- tracks and reports

valid_track : (s : LinkerState) (set : TrackSetData) (told : Track) → IsOrderly s.log → IsTrack s.settings (tracklets_of_each (nights_of s)) set → IsTrackOf s set told → HasValidQuads told → IsValidTrack told
valid_track s set told o track is quads =
    let nights : List NightTracklets = tracklets_of_each (nights_of s) in
    let two = two_each set (chosen_have IsTracklet nights set (in_order_follow s o).tracklets track.fitting.choice) in
    let ids = all_spots (IsNamed s.log) set (chosen_have (All (IsNamed s.log)) nights set (named_nights s o) track.fitting.choice) in
    record {
      three = omega (arith, is.nights, track.three);
      few = omega (arith, is.nights, few_chosen nights set track.fitting.choice, few_nights s o);
      two_each = omega (arith, is.nights, ap length is.ids, two, length-map (spots_of set) (λ (spot : SpotData). id_of_number s.log spot.num));
      ids = rw is.ids (All-map (λ id. IsTrue (is_id id)) (λ (spot : SpotData). id_of_number s.log spot.num) (spots_of set) ids);
      ra = quads.ra;
      dec = quads.dec;
    }

valid_tracks : (s : LinkerState) (sets : List TrackSetData) (list : List Track) → IsOrderly s.log → ((set : TrackSetData) → Contains sets set → IsTrack s.settings (tracklets_of_each (nights_of s)) set)
    → AreTracksOf s sets list → All HasValidQuads list → All IsValidTrack list
valid_tracks s [] [] o tracks are quads = All-nil IsValidTrack
valid_tracks s [] (told ∷ list) o tracks are quads = absurd are
valid_tracks s (set ∷ sets) [] o tracks are quads = absurd are
valid_tracks s (set ∷ sets) (told ∷ list) o tracks are quads =
    All-cons IsValidTrack told list (valid_track s set told o (tracks set (in_front set sets)) are.0 (All-head HasValidQuads told list quads))
    (valid_tracks s sets list o (λ other c. tracks other (in_rest set sets other c)) are.1 (All-tail HasValidQuads told list quads))

-- nothing is listed of no nights
none_listed : (p : ℤ → Bool) (window : Option (ℤ × ℤ)) → window ≡ None → length (option_map_or (λ w. filter p (nights_in w)) window []) ≡ 0
none_listed p None e = refl
none_listed p (Some window) e = absurd (cc)

no_track : (s : LinkerState) (set : TrackSetData) → s.log.window ≡ None → IsTrack s.settings (tracklets_of_each (nights_of s)) set → ⊥
no_track s set e track =
    let none = none_listed (is_held_night s.log) s.log.window e in
    omega (arith, track.three, few_chosen (tracklets_of_each (nights_of s)) set track.fitting.choice, ap length (each_is s), length-map (held_nights s.log) (here s), none)

no_list : (s : LinkerState) (list : List TrackSetData) → s.log.window ≡ None → IsReportList s list → list ≡ []
no_list s [] e h = refl
no_list s (set ∷ list) e h = absurd (no_track s set e ((h.listed set).0 (0, omega arith, refl)).track)

valid_window : (shift : ℤ) (xs : List HeldExposure) (window : Option (ℤ × ℤ)) → LieInWindow shift window xs → IfSome window IsNear → IfSome window IsValidWindow
valid_window shift xs None h near = tt
valid_window shift xs (Some window) h near = record { nights = h.0; near = near }

none_told : (s : LinkerState) (list : List Track) → AreTracksOf s [] list → list ≡ []
none_told s [] are = refl
none_told s (told ∷ list) are = absurd are

pub valid : (s : LinkerState) (report : Report) → IsOrderly s.log → IfSome s.log.window IsNear → IsReport s report → All HasValidQuads report.tracks → IsValidReport report
valid s report o near r quads = record {
  window = rw r.window (valid_window s.log.night_shift s.log.exposures s.log.window o.in_window near);
  no_tracks = λ e. none_told s report.tracks (subst (λ list. AreTracksOf s list report.tracks) (no_list s r.list (sym r.window ∙ e) r.is_list) r.tracks);
  tracks = valid_tracks s r.list report.tracks o (λ set c. ((r.is_list.listed set).0 c).track) r.tracks quads;
}
