-- States that hold the same detections have the same report, whatever numbers these have.
use Rattle.std.proofs.Common.{◌≡◌, ℕ, Bool, true, Option, Some, List, [], ◌∷◌, map, refl, sym, ap, subst, ◌∙◌, ◌<◌, ℤ, false, None, length, arith, ◌↔◌, ap₂, get_or, ◌++◌, inl, inr}
use Rattle.std.specs.Cmp.Lexicographic.{slice_cmp}
use Rattle.std.specs.List.{Contains, All, filter, list_any}
use Rattle.std.specs.Map.{lookup}
use Rattle.std.specs.Option.{option_map_or, option_cmp}
use Rattle.std.specs.Ordering.{is_eq, nat_cmp, int_eq}
use Rattle.std.specs.declared.cmp.Ordering.{Ordering}
use Rattle.std.specs.declared.cmp.Ordering.TheVariants.{Less, Equal, Greater}
use Rattle.std.proofs.lemmas.Cmp.{nat_list_cmp_total, tied_itself}
use Rattle.std.proofs.lemmas.Map.Keys.{Less-from_sorted}
use Rattle.std.proofs.lemmas.Map.Lookups.{exact_bytes}
use Rattle.std.proofs.lemmas.List.Elements.{All-head, All-tail, filter_agree, Contains-get_or}
use Rattle.std.proofs.lemmas.Simd.{map-map}
use Rattle.std.proofs.lemmas.List.{length-map}
use Rattle.std.proofs.lemmas.Bool.{cases_Bool}
use Rattle.sky_math.specs.Night.{night_at}
use Rattle.sky_units.specs.SpotData.{SpotData}
use Rattle.sky_units.specs.SettingsData.{SettingsData}
use Rattle.sky_units.specs.TrackletData.{NightTracklets, TrackSetData, spots_of}
use Rattle.sky_units.specs.Tracks.{IsChoice, IsMaximalTrack}
use Rattle.sky_units.specs.QuadData.{QuadData}
use Rattle.sky_units.specs.Reported.{IsReported}
use Rattle.sky_units.specs.declared.axis.Axis.{Axis}
use Rattle.sky_units.specs.declared.axis.Axis.TheVariants.{Ra, Dec}
use Rattle.sky_units.specs.declared.reports.Report.{Report}
use Rattle.sky_units.specs.declared.reports.Track.{Track}
use Rattle.miti_text.specs.CanonicalOrder.{canonical_cmp}
use Rattle.miti_text.specs.Observation.{Observation}
use Rattle.exposure_log.proofs.Sorting.{canonical_total}
use Rattle.exposure_log.specs.Held.{LogData, detections_of, held_at, HeldExposure, of_night, spot_of, spots_of_night}
use Rattle.exposure_log.specs.Orderly.{HaveIdsApart, IsOrderly, HasSome}
use Rattle.exposure_log.proofs.Searching.{filter_map_is}
use Rattle.night_tree.specs.Nights.{tracklets_of, tracklets_of_each}
use Rattle.plain_tracks.proofs.Agreement.{same_members}
use Rattle.plain_tracks.proofs.Entries.{in_front, in_rest}
use Rattle.plain_tracks.proofs.Members.{in_mapped, of_mapped, each_two_map, each_same, found}
use Rattle.plain_tracks.proofs.Relabelled.{relabelled, relabelled_tracklets, relabelled_listed, relabelled_nights, relabelled_set, relabelled_spots}
use Rattle.window_incr.specs.Laws.{IsHeldIn, HoldTheSame, ReportFollows}
use Rattle.window_incr.specs.LinkerState.{LinkerState}
use Rattle.kept_nights.specs.KeptNights.{held_nights, is_held_night, nights_in, nights_of}
use Rattle.window_incr.specs.Answers.{AreTracksOf, IsReport, IsReportList, IsTrackOf, held_of, id_of_number, ids_of, set_cmp}
use Rattle.window_incr.specs.Soundness.{IsSoundState}
use Rattle.window_incr.proofs.Agreement.{never_both, report_is_unique}
use Rattle.window_incr.proofs.SameMotion.{same_reported}
use Rattle.kept_nights.proofs.HeldNights.{each_is, here, chosen_spots, held_spots, Entry, IsHeldSpot, held_is, filtered, of_night_entry}

-- a held detection has a number
abbrev pub IsNumbered : LogData → ℕ → Observation → Type 0
IsNumbered log n d = Contains (detections_of log.exposures) (n, d)

-- ---- the number of a detection

abbrev swapped : Entry → Observation × ℕ
swapped e = (e.1, e.0)

-- whether a detection has an id
abbrev has_id : List ℕ → Observation → Bool
has_id id d = is_eq (slice_cmp nat_cmp d.id id)

equal_from_is : (r : Ordering) → is_eq r ≡ true → r ≡ Equal
equal_from_is Less e = absurd (cc)
equal_from_is Equal e = refl
equal_from_is Greater e = absurd (cc)

-- the number that a log has for the detection of an id
abbrev number_of : LogData → List ℕ → Option ℕ
number_of log id = lookup (has_id id) (map swapped (detections_of log.exposures))

number_is : (log : LogData) (n : ℕ) (d : Observation) → HaveIdsApart log.exposures → IsNumbered log n d → number_of log d.id ≡ Some n
number_is log n d apart c =
    let es : List Entry = detections_of log.exposures in
    found (has_id d.id) (map swapped es) d n (in_mapped swapped es (n, d) c) (rw (tied_itself nat_list_cmp_total d.id) refl)
    (λ e i t.
    let w = of_mapped swapped es e i in
    ap (λ z. z.1) (sym w.2) ∙ apart w.0.0 n w.0.1 d w.1 c (ap (λ z. z.0.id) w.2 ∙ exact_bytes e.0.id d.id (equal_from_is (slice_cmp nat_cmp e.0.id d.id) t)))

-- the number that the other has for the detection of a number
abbrev pub renumbered : LogData → LogData → ℕ → ℕ
renumbered log other n = option_map_or (λ d. option_map_or (λ m. m) (number_of other d.id) n) (held_at log.exposures n) n

-- ---- logs that hold the same

pub record LogsAgree (log other : LogData) : Type 0 where
  pub orderly : IsOrderly log
  pub other_orderly : IsOrderly other
  pub shift : log.night_shift ≡ other.night_shift
  pub window : log.window ≡ other.window
  pub there : (d : Observation) → IsHeldIn log d → IsHeldIn other d
  pub back : (d : Observation) → IsHeldIn other d → IsHeldIn log d

pub turned : (log other : LogData) → LogsAgree log other → LogsAgree other log
turned log other h = record { orderly = h.other_orderly; other_orderly = h.orderly; shift = sym h.shift; window = sym h.window; there = h.back; back = h.there }

pub renumbered_is : (log other : LogData) (m n : ℕ) (d : Observation) → LogsAgree log other → IsNumbered log m d → IsNumbered other n d → renumbered log other m ≡ n
renumbered_is log other m n d h p q =
    rw (held_is log.exposures m d h.orderly.numbers p, number_is other n d h.other_orderly.ids_apart q) refl

-- the other number of a held detection
pub record HasNumber (log : LogData) (d : Observation) : Type 0 where
  pub number : ℕ
  pub is : IsNumbered log number d

number_in : (log : LogData) (d : Observation) → IsHeldIn log d → HasNumber log d
number_in log d c =
    let w = of_mapped (λ (e : Entry). e.1) (detections_of log.exposures) d c in
    record { number = w.0.0; is = subst (λ e. Contains (detections_of log.exposures) (w.0.0, e)) w.2 w.1 }

pub other_number : (log other : LogData) (n : ℕ) (d : Observation) → LogsAgree log other → IsNumbered log n d → HasNumber other d
other_number log other n d h p = number_in other d (h.there d (in_mapped (λ (e : Entry). e.1) (detections_of log.exposures) (n, d) p))

-- ---- both list the same detections, in canonical order

same_listed : (log other : LogData) → LogsAgree log other → map (λ (e : Entry). e.1) (detections_of log.exposures) ≡ map (λ (e : Entry). e.1) (detections_of other.exposures)
same_listed log other h =
    let ones : List Observation = map (λ (e : Entry). e.1) (detections_of log.exposures) in
    let others : List Observation = map (λ (e : Entry). e.1) (detections_of other.exposures) in
    same_members (λ d e. canonical_cmp d e ≡ Less) (never_both canonical_total) ones others
    (λ i j d ij jn. Less-from_sorted canonical_cmp ones i j d h.orderly.in_order ij jn) (λ i j d ij jn. Less-from_sorted canonical_cmp others i j d h.other_orderly.in_order ij jn) h.there h.back

abbrev pub renumbered_entry : (ℕ → ℕ) → Entry → Entry
renumbered_entry f e = (f e.0, e.1)

zipped : (f : ℕ → ℕ) (ds es : List Entry) → map (λ (e : Entry). e.1) ds ≡ map (λ (e : Entry). e.1) es → ((m n : ℕ) (d : Observation) → Contains ds (m, d) → Contains es (n, d) → f m ≡ n) → es ≡ map (renumbered_entry f) ds
zipped f [] [] same h = refl
zipped f [] (e ∷ es) same h = absurd (cc)
zipped f (d ∷ ds) [] same h = absurd (cc)
zipped f (d ∷ ds) (e ∷ es) same h =
    let first : d.1 ≡ e.1 = (cc) in
    let others : map (λ (x : Entry). x.1) ds ≡ map (λ (x : Entry). x.1) es = (cc) in
    let here : Contains (d ∷ ds) (d.0, e.1) = subst (λ o. Contains (d ∷ ds) (d.0, o)) first (in_front d ds) in
    let one : e ≡ renumbered_entry f d = ap₂ (λ (n : ℕ) (o : Observation). (n, o)) (sym (h d.0 e.0 e.1 here (in_front e es))) (sym first) in
    ap₂ (λ (x : Entry) (xs : List Entry). x ∷ xs) one (zipped f ds es others (λ m n o p q. h m n o (in_rest d ds (m, o) p) (in_rest e es (n, o) q)))

pub same_entries : (log other : LogData) → LogsAgree log other → detections_of other.exposures ≡ map (renumbered_entry (renumbered log other)) (detections_of log.exposures)
same_entries log other h = zipped (renumbered log other) (detections_of log.exposures) (detections_of other.exposures) (same_listed log other h) (λ m n d p q. renumbered_is log other m n d h p q)

-- ---- a spot of a held detection

pub same_found : (log other : LogData) (spot : SpotData) → LogsAgree log other → IsHeldSpot log.exposures spot → held_at other.exposures (renumbered log other spot.num) ≡ held_at log.exposures spot.num
same_found log other spot h s =
    let n = other_number log other spot.num s.detection h s.held in
    ap (held_at other.exposures) (renumbered_is log other spot.num n.number s.detection h s.held n.is)
    ∙ (held_is other.exposures n.number s.detection h.other_orderly.numbers n.is ∙ sym (held_is log.exposures spot.num s.detection h.orderly.numbers s.held))

pub there_and_back : (log other : LogData) (spot : SpotData) → LogsAgree log other → IsHeldSpot log.exposures spot → relabelled (renumbered other log) (relabelled (renumbered log other) spot) ≡ spot
there_and_back log other spot h s =
    let n = other_number log other spot.num s.detection h s.held in
    let there : renumbered log other spot.num ≡ n.number = renumbered_is log other spot.num n.number s.detection h s.held n.is in
    let back : renumbered other log n.number ≡ spot.num = renumbered_is other log n.number spot.num s.detection (turned log other h) n.is s.held in
    ap (λ k. record spot { num = k }) (ap (renumbered other log) there ∙ back)

-- ---- the spots of a night
same_spots : (log other : LogData) (night : ℤ) → LogsAgree log other → spots_of_night other night ≡ map (relabelled (renumbered log other)) (spots_of_night log night)
same_spots log other night h =
    let f : ℕ → ℕ = renumbered log other in
    let ones : List Entry = detections_of (of_night log.night_shift night log.exposures) in
    let others : detections_of (of_night other.night_shift night other.exposures) ≡ map (renumbered_entry f) ones =
    filtered other night other.exposures h.other_orderly.of_one
    ∙ (ap (λ (shift : ℤ). filter (λ (d : Entry). int_eq (night_at shift d.1.epoch) night) (detections_of other.exposures)) (sym h.shift)
    ∙ (ap (filter (of_night_entry log night)) (same_entries log other h)
    ∙ (filter_map_is (of_night_entry log night) (renumbered_entry f) (detections_of log.exposures)
    ∙ ap (map (renumbered_entry f)) (sym (filtered log night log.exposures h.orderly.of_one))))) in
    ap (map spot_of) others ∙ (map-map spot_of (renumbered_entry f) ones ∙ sym (map-map (relabelled f) spot_of ones))

-- ---- the held nights
-- a list has something
abbrev is_filled : {X : Type 0} → List X → Bool
is_filled [] = false
is_filled (x ∷ xs) = true

filled_map : {X Y : Type 0} (f : X → Y) (xs : List X) → is_filled (map f xs) ≡ is_filled xs
filled_map f [] = refl
filled_map f (x ∷ xs) = refl

filled_by : {X : Type 0} (xs ys : List X) → 0 < length xs → true ≡ is_filled (xs ++ ys)
filled_by [] ys h = absurd (omega arith)
filled_by (x ∷ xs) ys h = refl

-- an exposure of a night is held where a detection is
any_filled : (p : HeldExposure → Bool) (xs : List HeldExposure) → All HasSome xs → list_any p xs ≡ is_filled (detections_of (filter p xs))
any_filled p [] some = refl
any_filled p (x ∷ xs) some = elim (cases_Bool (p x)) [
  | inl t ↦ rw t (filled_by x.detections (detections_of (filter p xs)) (All-head HasSome x xs some))
  | inr f ↦ rw f (any_filled p xs (All-tail HasSome x xs some))
]

held_by_spots : (log : LogData) (night : ℤ) → IsOrderly log → is_held_night log night ≡ is_filled (spots_of_night log night)
held_by_spots log night o = any_filled (λ x. int_eq (night_at log.night_shift x.epoch) night) log.exposures o.some ∙ sym (filled_map spot_of (detections_of (of_night log.night_shift night log.exposures)))

same_held : (log other : LogData) (night : ℤ) → LogsAgree log other → is_held_night other night ≡ is_held_night log night
same_held log other night h =
    held_by_spots other night h.other_orderly
    ∙ (ap is_filled (same_spots log other night h) ∙ (filled_map (relabelled (renumbered log other)) (spots_of_night log night) ∙ sym (held_by_spots log night h.orderly)))

in_window : (p q : ℤ → Bool) (window : Option (ℤ × ℤ)) → ((night : ℤ) → p night ≡ q night) → option_map_or (λ w. filter p (nights_in w)) window [] ≡ option_map_or (λ w. filter q (nights_in w)) window []
in_window p q None same = refl
in_window p q (Some w) same = filter_agree p q same (nights_in w)

same_held_nights : (log other : LogData) → LogsAgree log other → held_nights other ≡ held_nights log
same_held_nights log other h =
    ap (λ (window : Option (ℤ × ℤ)). option_map_or (λ w. filter (is_held_night other) (nights_in w)) window []) (sym h.window)
    ∙ in_window (is_held_night other) (is_held_night log) log.window (λ night. same_held log other night h)

-- ---- the tracklets of a night
same_night : (s t : LinkerState) (night : ℤ) → s.settings ≡ t.settings → LogsAgree s.log t.log → here t night ≡ map (map (relabelled (renumbered s.log t.log))) (here s night)
same_night s t night same h =
    ap (λ (c : SettingsData). tracklets_of c (spots_of_night t.log night)) (sym same)
    ∙ (ap (tracklets_of s.settings) (same_spots s.log t.log night h)
    ∙ relabelled_tracklets (renumbered s.log t.log) s.settings (spots_of_night s.log night))

each_night : (s t : LinkerState) (nights : List ℤ) → s.settings ≡ t.settings → LogsAgree s.log t.log → map (here t) nights ≡ map (map (map (relabelled (renumbered s.log t.log)))) (map (here s) nights)
each_night s t [] same h = refl
each_night s t (night ∷ nights) same h = rw (same_night s t night same h, each_night s t nights same h) refl

pub same_nights : (s t : LinkerState) → s.settings ≡ t.settings → LogsAgree s.log t.log → tracklets_of_each (nights_of t) ≡ map (map (map (relabelled (renumbered s.log t.log)))) (tracklets_of_each (nights_of s))
same_nights s t same h =
    each_is t
    ∙ (ap (map (here t)) (same_held_nights s.log t.log h)
    ∙ (each_night s t (held_nights s.log) same h
    ∙ ap (map (map (map (relabelled (renumbered s.log t.log))))) (sym (each_is s))))

-- ---- the report
-- two sound states that hold the same
record StatesAgree (s t : LinkerState) : Type 0 where
  settings : s.settings ≡ t.settings
  logs : LogsAgree s.log t.log

-- a set of the first state, with the numbers of the second
abbrev renumbered_set : LinkerState → LinkerState → TrackSetData → TrackSetData
renumbered_set s t set = relabelled_set (renumbered s.log t.log) set

-- the tracklets of the nights with held exposures
abbrev all_nights : LinkerState → List NightTracklets
all_nights s = tracklets_of_each (nights_of s)

-- ---- with the same detections and ids
found_same : (s t : LinkerState) (set : TrackSetData) → StatesAgree s t → IsChoice (all_nights s) set → (spot : SpotData) → Contains (spots_of set) spot → held_at t.log.exposures (renumbered s.log t.log spot.num) ≡ held_at s.log.exposures spot.num
found_same s t set a h = λ spot c. same_found s.log t.log spot a.logs (chosen_spots s set h spot c)

same_detections : (s t : LinkerState) (set : TrackSetData) → StatesAgree s t → IsChoice (all_nights s) set → held_of t.log (spots_of (renumbered_set s t set)) ≡ held_of s.log (spots_of set)
same_detections s t set a h =
    ap (held_of t.log) (relabelled_spots (renumbered s.log t.log) set)
    ∙ each_same (relabelled (renumbered s.log t.log)) (λ spot. held_at t.log.exposures spot.num) (λ spot. held_at s.log.exposures spot.num) (spots_of set) (found_same s t set a h)

same_motion : (s t : LinkerState) (axis : Axis) (set : TrackSetData) (quad : QuadData) → StatesAgree s t → IsReported axis s.settings (spots_of set) quad → IsReported axis t.settings (spots_of (renumbered_set s t set)) quad
same_motion s t axis set quad a is =
    let f : ℕ → ℕ = renumbered s.log t.log in
    subst (λ spots. IsReported axis t.settings spots quad) (sym (relabelled_spots f set))
    (subst (λ c. IsReported axis c (map (relabelled f) (spots_of set)) quad) a.settings (same_reported f axis s.settings (spots_of set) quad is))

same_track : (s t : LinkerState) (set : TrackSetData) (track : Track) → StatesAgree s t → IsChoice (all_nights s) set → IsTrackOf s set track → IsTrackOf t (renumbered_set s t set) track
same_track s t set track a h is =
    let f : ℕ → ℕ = renumbered s.log t.log in
    let nights : length (renumbered_set s t set) ≡ length set = length-map set (map (relabelled f)) in
    let ids : ids_of t.log (spots_of (renumbered_set s t set)) ≡ ids_of s.log (spots_of set) = ap (ids_of t.log) (relabelled_spots f set)
    ∙ each_same (relabelled f) (λ spot. id_of_number t.log spot.num) (λ spot. id_of_number s.log spot.num) (spots_of set) (λ spot c. ap (λ (o : Option Observation). option_map_or (λ d. d.id) o []) (found_same s t set a h spot c)) in
    record { nights = is.nights ∙ sym nights; ids = is.ids ∙ sym ids; ra = same_motion s t Ra set track.ra a is.ra; dec = same_motion s t Dec set track.dec a is.dec }

same_tracks : (s t : LinkerState) (sets : List TrackSetData) (tracks : List Track) → StatesAgree s t → ((set : TrackSetData) → Contains sets set → IsChoice (all_nights s) set)
    → AreTracksOf s sets tracks → AreTracksOf t (map (renumbered_set s t) sets) tracks
same_tracks s t [] [] a choices are = tt
same_tracks s t [] (track ∷ tracks) a choices are = absurd are
same_tracks s t (set ∷ sets) [] a choices are = absurd are
same_tracks s t (set ∷ sets) (track ∷ tracks) a choices are =
    (same_track s t set track a (choices set (in_front set sets)) are.0, same_tracks s t sets tracks a (λ other c. choices other (in_rest set sets other c)) are.1)

-- ---- the report list

renumbered_list : (s t : LinkerState) (list : List TrackSetData) → StatesAgree s t → IsReportList s list → IsReportList t (map (renumbered_set s t) list)
renumbered_list s t list a r = record {
  in_order = each_two_map (λ one later. set_cmp t.log one later ≡ Less) (renumbered_set s t) list (λ i j d ij jn.
      let one = same_detections s t (get_or list i d) a ((r.listed (get_or list i d)).0 (Contains-get_or list i d (omega arith))).track.fitting.choice in
      let later = same_detections s t (get_or list j d) a ((r.listed (get_or list j d)).0 (Contains-get_or list j d jn)).track.fitting.choice in
      ap₂ (slice_cmp (option_cmp canonical_cmp)) one later ∙ r.in_order i j d ij jn);
  listed = λ set. subst (λ nights. Contains (map (renumbered_set s t) list) set ↔ IsMaximalTrack t.settings nights set) (sym (same_nights s t a.settings a.logs))
      (subst (λ c. Contains (map (renumbered_set s t) list) set ↔ IsMaximalTrack c (relabelled_nights (renumbered s.log t.log) (all_nights s)) set) a.settings
      (relabelled_listed (renumbered s.log t.log) (renumbered t.log s.log) s.settings (all_nights s) list (λ spot h. there_and_back s.log t.log spot a.logs (held_spots s spot h)) r.listed set));
}

renumbered_report : (s t : LinkerState) (report : Report) → StatesAgree s t → IsReport s report → IsReport t report
renumbered_report s t report a r = record {
  list = map (renumbered_set s t) r.list;
  is_list = renumbered_list s t r.list a r.is_list;
  window = r.window ∙ a.logs.window;
  tracks = same_tracks s t r.list report.tracks a (λ set c. ((r.is_list.listed set).0 c).track.fitting.choice) r.tracks;
}

states_agree : (s t : LinkerState) → IsSoundState s → IsSoundState t → HoldTheSame s t → StatesAgree s t
states_agree s t p q h = record {
  settings = h.settings;
  logs = record {
    orderly = p.orderly;
    other_orderly = q.orderly;
    shift = p.shift ∙ (ap (λ c. c.night_shift) h.settings ∙ sym q.shift);
    window = h.window;
    there = λ d. (h.detections d).0;
    back = λ d. (h.detections d).1;
  };
}

pub report_follows : ReportFollows
report_follows = λ s t one other p q h a b. report_is_unique t one other (renumbered_report s t one (states_agree s t p q h) a) b
