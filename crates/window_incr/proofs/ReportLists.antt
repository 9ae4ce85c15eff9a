-- The maximal tracks, put in order by the held detections of their spots, are the report list; so each sound state has a report and statistics.
use Rattle.std.proofs.Common.{◌≡◌, ℕ, ◌<◌, Bool, true, false, Option, Some, None, List, [], ◌∷◌, length, get_or, refl, sym, ap, ◌∙◌, arith}
use Rattle.std.specs.Prelude.{IsSome}
use Rattle.std.specs.Cmp.{IsStrictWeakOrder}
use Rattle.std.specs.Cmp.Lexicographic.{slice_cmp}
use Rattle.std.specs.List.{Contains, sum_by}
use Rattle.std.specs.List.Sorted.{IsPermutation, IsSortedBy}
use Rattle.std.specs.Option.{option_cmp}
use Rattle.std.specs.Ordering.{int_cmp, is_eq, is_gt, is_lt, nat_cmp, ordering_reverse, ordering_then}
use Rattle.std.specs.declared.cmp.Ordering.{Ordering}
use Rattle.std.specs.declared.cmp.Ordering.TheVariants.{Less, Equal, Greater}
use Rattle.std.proofs.lemmas.Bool.{false≢true}
use Rattle.std.proofs.lemmas.Cmp.{lists_total, tied_itself}
use Rattle.std.proofs.lemmas.List.Elements.{Contains-get_or}
use Rattle.std.proofs.lemmas.List.Sorted.{Contains-permutation, IsPermutation-sym, length_permutation, ranks_by, sorted_far}
use Rattle.std.proofs.lemmas.Map.Keys.{IsDistinct-IsPermutation, IsDistinct-from_apart, apart_from_distinct}
use Rattle.std.proofs.lemmas.Map.Lookups.{exact_bytes}
use Rattle.miti_text.specs.CanonicalOrder.{canonical_cmp}
use Rattle.miti_text.specs.Observation.{Observation}
use Rattle.exposure_log.specs.Held.{LogData, HeldExposure, detections_of, held_at}
use Rattle.exposure_log.specs.Orderly.{HaveIdsApart, HaveNumbersApart}
use Rattle.exposure_log.proofs.Sorting.{canonical_total}
use Rattle.exposure_log.proofs.StableSort.{Rises, sorted, sorted_permutes, sorted_rises}
use Rattle.sky_units.specs.SpotData.{SpotData}
use Rattle.sky_units.specs.TrackletData.{TrackSetData, NightTracklets, spots_of}
use Rattle.sky_units.specs.Tracks.{AreMaximalTracks, IsMaximalTrack}
use Rattle.sky_units.specs.declared.statistics.Stats.{Stats}
use Rattle.night_tree.specs.Nights.{tracklets_of_each}
use Rattle.plain_tracks.specs.Laws.{MaximalTracksExist}
use Rattle.plain_tracks.proofs.Choices.{same_choice}
use Rattle.plain_tracks.proofs.Entries.{in_front, in_rest}
use Rattle.window_incr.specs.Answers.{IsReportList, AreStats, held_of, set_cmp}
use Rattle.kept_nights.specs.KeptNights.{nights_of}
use Rattle.window_incr.specs.LinkerState.{LinkerState}
use Rattle.window_incr.specs.Soundness.{IsSoundState}
use Rattle.window_incr.specs.Laws.{ReportExists}
use Rattle.window_incr.proofs.Agreement.{held_total, set_total}
use Rattle.window_incr.proofs.TracksTold.{can_be_told, some_tracks}
use Rattle.kept_nights.proofs.HeldNights.{nights_follow, chosen_spots, IsHeldSpot, held_is, one_spot}

-- ---- how two held detections compare
pub itself : (x : Option Observation) → Equal ≡ option_cmp canonical_cmp x x
itself x = sym (tied_itself held_total x)

-- what two tests of "before" leave
decide : (o r : Ordering) → r ≡ ordering_reverse o → is_lt o ≡ false → (is_lt r ≡ true → Greater ≡ o) × (is_lt r ≡ false → Equal ≡ o)
decide Less r e h = absurd (false≢true (sym h))
decide Equal r e h = (λ t. absurd (false≢true (rw e at t)), λ f. refl)
decide Greater r e h = (λ t. refl, λ f. absurd (false≢true (sym (rw e at f))))

pub not_before : (x y : Option Observation) (a b : Bool) → IsSome x → IsSome y → ((d e : Observation) → x ≡ Some d → y ≡ Some e → a ≡ is_lt (canonical_cmp d e)) → ((d e : Observation) → y ≡ Some d → x ≡ Some e → b ≡ is_lt (canonical_cmp d e))
    → a ≡ false → (b ≡ true → Greater ≡ option_cmp canonical_cmp x y) × (b ≡ false → Equal ≡ option_cmp canonical_cmp x y)
not_before (Some d) (Some e) a b s t h k past =
    let rest = decide (canonical_cmp d e) (canonical_cmp e d) (canonical_total.antisymm e d) (sym (h d e refl refl) ∙ past) in
    let back : b ≡ is_lt (canonical_cmp e d) = k e d refl refl in
    (λ y. rest.0 (sym back ∙ y), λ n. rest.1 (sym back ∙ n))
not_before (Some d) None a b s t h k past = absurd (false≢true t)
not_before None y a b s t h k past = absurd (false≢true s)

-- ---- sets whose detections tie are the same
first_ties : (a b : Ordering) → ordering_then a b ≡ Equal → a ≡ Equal
first_ties Less b e = e
first_ties Equal b e = refl
first_ties Greater b e = e

second_ties : (a b : Ordering) → ordering_then a b ≡ Equal → b ≡ Equal
second_ties Less b e = absurd (cc)
second_ties Equal b e = e
second_ties Greater b e = absurd (cc)

same_id : (d e : Observation) → canonical_cmp d e ≡ Equal → d.id ≡ e.id
same_id d e tie = exact_bytes d.id e.id
    (second_ties (slice_cmp nat_cmp d.site e.site) (slice_cmp nat_cmp d.id e.id)
    (second_ties (int_cmp d.epoch e.epoch) (ordering_then (slice_cmp nat_cmp d.site e.site) (slice_cmp nat_cmp d.id e.id)) tie))

same_spot : (xs : List HeldExposure) (a b : SpotData) → HaveNumbersApart xs → HaveIdsApart xs → IsHeldSpot xs a → IsHeldSpot xs b → option_cmp canonical_cmp (held_at xs a.num) (held_at xs b.num) ≡ Equal → a ≡ b
same_spot xs a b numbers ids h k tie =
    let same = rw (held_is xs a.num h.detection numbers h.held, held_is xs b.num k.detection numbers k.held) at tie in
    one_spot xs a b numbers h k (ids a.num b.num h.detection k.detection h.held k.held (same_id h.detection k.detection same))

abbrev AreHeld : List HeldExposure → List SpotData → Type 0
AreHeld xs spots = (spot : SpotData) → Contains spots spot → IsHeldSpot xs spot

same_spots : (log : LogData) → HaveNumbersApart log.exposures → HaveIdsApart log.exposures → (ones others : List SpotData) → AreHeld log.exposures ones → AreHeld log.exposures others
    → slice_cmp (option_cmp canonical_cmp) (held_of log ones) (held_of log others) ≡ Equal → ones ≡ others
same_spots log numbers ids [] [] p q tie = refl
same_spots log numbers ids [] (b ∷ others) p q tie = absurd (cc)
same_spots log numbers ids (a ∷ ones) [] p q tie = absurd (cc)
same_spots log numbers ids (a ∷ ones) (b ∷ others) p q tie =
    let here = option_cmp canonical_cmp (held_at log.exposures a.num) (held_at log.exposures b.num) in
    let behind = slice_cmp (option_cmp canonical_cmp) (held_of log ones) (held_of log others) in
    let first : a ≡ b = same_spot log.exposures a b numbers ids (p a (in_front a ones)) (q b (in_front b others)) (first_ties here behind tie) in
    let rest : ones ≡ others = same_spots log numbers ids ones others (λ s c. p s (in_rest a ones s c)) (λ s c. q s (in_rest b others s c)) (second_ties here behind tie) in
    cc

abbrev IsMember : LinkerState → TrackSetData → Type 0
IsMember s set = IsMaximalTrack s.settings (tracklets_of_each (nights_of s)) set

same_set : (s : LinkerState) (one other : TrackSetData) → IsSoundState s → IsMember s one → IsMember s other → set_cmp s.log one other ≡ Equal → one ≡ other
same_set s one other sound p q tie = same_choice (tracklets_of_each (nights_of s)) one other (nights_follow s sound) p.track.fitting.choice q.track.fitting.choice
    (same_spots s.log sound.orderly.numbers sound.orderly.ids_apart (spots_of one) (spots_of other) (chosen_spots s one p.track.fitting.choice) (chosen_spots s other q.track.fitting.choice) tie)

-- ---- all maximal tracks, in order
abbrev ties : LogData → TrackSetData → TrackSetData → Bool
ties log one other = is_eq (set_cmp log one other)

turned_ties : (o : Ordering) → is_eq (ordering_reverse o) ≡ is_eq o
turned_ties Less = refl
turned_ties Equal = refl
turned_ties Greater = refl

untied : (o : Ordering) → (o ≡ Equal → ⊥) → is_eq o ≡ false
untied Less h = refl
untied Equal h = absurd (h refl)
untied Greater h = refl

less_is : (o : Ordering) → is_gt o ≡ false → is_eq o ≡ false → o ≡ Less
less_is Less g e = refl
less_is Equal g e = absurd (false≢true (sym e))
less_is Greater g e = absurd (false≢true (sym g))

pub put_in_order : (s : LinkerState) (list sorted : List TrackSetData) → IsSoundState s → AreMaximalTracks s.settings (tracklets_of_each (nights_of s)) list → IsPermutation list sorted → Rises (set_cmp s.log) sorted → IsReportList s sorted
put_in_order s list sorted sound all p up =
    let flips : (one other : TrackSetData) → ties s.log one other ≡ ties s.log other one = λ one other. ap is_eq ((set_total s.log).antisymm one other) ∙ turned_ties (set_cmp s.log other one) in
    let member : (i : ℕ) (d : TrackSetData) → i < length list → IsMember s (get_or list i d) = λ i d l. (all.listed (get_or list i d)).0 (Contains-get_or list i d l) in
    let apart = IsDistinct-IsPermutation (ties s.log) flips list sorted p (IsDistinct-from_apart (ties s.log) list (λ i j d ij jn.
    untied (set_cmp s.log (get_or list i d) (get_or list j d)) (λ tie. all.once i j d ij jn (same_set s (get_or list i d) (get_or list j d) sound (member i d (omega arith)) (member j d jn) tie)))) in
    record {
      in_order = λ i j d ij jn. less_is (set_cmp s.log (get_or sorted i d) (get_or sorted j d)) (up i j d ij jn) (apart_from_distinct (ties s.log) sorted i j d apart ij jn);
      listed = λ set. (λ c. (all.listed set).0 (Contains-permutation sorted list set (IsPermutation-sym list sorted p) c), λ m. Contains-permutation list sorted set p ((all.listed set).1 m));
    }

-- a sort leaves them so
abbrev pub set_before : LogData → TrackSetData → TrackSetData → Bool
set_before log one other = is_lt (set_cmp log one other)

pub set_ranks : (log : LogData) → IsStrictWeakOrder (set_before log)
set_ranks log = ranks_by (lists_total held_total) (λ set. held_of log (spots_of set))

not_after : (o r : Ordering) → o ≡ ordering_reverse r → is_lt r ≡ false → is_gt o ≡ false
not_after o Less e h = absurd (false≢true (sym h))
not_after o Equal e h = rw e refl
not_after o Greater e h = rw e refl

pub rises_of_sorted : (log : LogData) (sets : List TrackSetData) → IsSortedBy (set_before log) sets → Rises (set_cmp log) sets
rises_of_sorted log sets up i j d ij jn =
    not_after (set_cmp log (get_or sets i d) (get_or sets j d)) (set_cmp log (get_or sets j d) (get_or sets i d)) ((set_total log).antisymm (get_or sets i d) (get_or sets j d)) (sorted_far (set_before log) (set_ranks log) sets up i j d (omega arith) jn)

-- ---- what a list of all maximal tracks, in any order, gives
pub record Listed (s : LinkerState) (list : List TrackSetData) : Type 0 where
  pub ordered : List TrackSetData
  pub is_list : IsReportList s ordered
  pub as_many : length list ≡ length ordered

pub some_listed : (s : LinkerState) (list : List TrackSetData) → IsSoundState s → AreMaximalTracks s.settings (tracklets_of_each (nights_of s)) list → Listed s list
some_listed s list sound all =
    let p = sorted_permutes (set_cmp s.log) (set_total s.log) list in
    record {
      ordered = sorted (set_cmp s.log) list;
      is_list = put_in_order s list (sorted (set_cmp s.log) list) sound all p (sorted_rises (set_cmp s.log) (set_total s.log) list);
      as_many = sym (length_permutation list (sorted (set_cmp s.log) list) p);
    }

pub report_exists : MaximalTracksExist → ReportExists
report_exists lists s sound are =
    let all = lists s.settings (tracklets_of_each (nights_of s)) (nights_follow s sound) in
    let found = some_listed s all.0 sound all.1 in
    let tracks = some_tracks s found.ordered are (can_be_told s found.ordered sound.orderly found.is_list) in
    (record { window = s.log.window; tracks = tracks.0 }, record { list = found.ordered; is_list = found.is_list; window = refl; tracks = tracks.1 })

pub stats_exist : MaximalTracksExist → (s : LinkerState) → IsSoundState s → (stats : Stats) × AreStats s stats
stats_exist lists s sound =
    let all = lists s.settings (tracklets_of_each (nights_of s)) (nights_follow s sound) in
    let found = some_listed s all.0 sound all.1 in
    let stats : Stats = record {
      exposures = length s.log.exposures;
      detections = length (detections_of s.log.exposures);
      tracklets = sum_by (λ (night : NightTracklets). length night) (tracklets_of_each (nights_of s));
      tracks = length found.ordered;
    } in
    (stats, record { exposures = refl; detections = refl; tracklets = refl; list = found.ordered; is_list = found.is_list; tracks = refl })
