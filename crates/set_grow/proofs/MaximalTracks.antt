-- The maximal tracks are the tracklets of closed sets whose spots lie properly in those of no other closed set.
use Rattle.std.proofs.Common.{◌≡◌, ℕ, ◌≤◌, List, length, sym, subst, ap, ◌∙◌, ◌↔◌, arith}
use Rattle.std.proofs.lemmas.List.{length-map}
use Rattle.std.specs.List.{Contains}
use Rattle.closed_sets.specs.Families.{IsClosed, IsSet}
use Rattle.quad_fit.specs.Laws.{FitIsDecided}
use Rattle.sky_units.specs.SettingsData.{SettingsData}
use Rattle.sky_units.specs.TrackletData.{TrackletData, TrackSetData, spots_of}
use Rattle.sky_units.specs.Tracks.{AreAmong, AreNights, IsChoice, IsMaximalTrack, IsTrack}
use Rattle.set_grow.specs.Fitting.{FitsByNumber, HasClosedSets}
use Rattle.set_grow.specs.Laws.{AreTracksOf, IsInNone}
use Rattle.set_grow.specs.Numbered.{AreNumbered, AreTrackletsOf, NumberedTracklet, NumberedTracklets, numbers_in, tracklets_in, without_numbers}
use Rattle.set_grow.proofs.Choices.{same_by_spots}
use Rattle.set_grow.proofs.Chosen.{chosen_in, different_numbers, numbered_choice, plain_choice, same_numbers}
use Rattle.set_grow.proofs.Decided.{closed_set_above}
use Rattle.set_grow.proofs.Heredity.{fewer_spots}
use Rattle.set_grow.proofs.Members.{among, among_both, each_among, in_mapped, no_longer, of_mapped}
use Rattle.set_grow.proofs.NumberSets.{different, same_set, set_of}

abbrev number_of : NumberedTracklet → ℕ
number_of one = one.num

abbrev tracklet_of : NumberedTracklet → TrackletData
tracklet_of one = one.tracklet

-- ---- a set of numbers and its tracklets
-- as many tracklets as numbers, or more
no_fewer : (nights : List NumberedTracklets) (set : List ℕ) (track : TrackSetData) → IsSet set → AreTrackletsOf nights set track → length set ≤ length track
no_fewer nights set track s t =
    let short : length set ≤ length (numbers_in t.chosen) = no_longer set (numbers_in t.chosen) (different set s) t.found in
    let one : length (numbers_in t.chosen) ≡ length t.chosen = length-map t.chosen number_of in
    let other : length track ≡ length t.chosen = ap length t.are ∙ length-map t.chosen tracklet_of in
    omega (arith, short, one, other)

-- as many numbers as tracklets, or more
no_more : (nights : List NumberedTracklets) (set : List ℕ) (track : TrackSetData) → AreNights (tracklets_in nights) → AreNumbered nights → AreTrackletsOf nights set track → length track ≤ length set
no_more nights set track a n t =
    let short : length (numbers_in t.chosen) ≤ length set = no_longer (numbers_in t.chosen) set (different_numbers nights t.chosen a n t.choice) t.wanted in
    let one : length (numbers_in t.chosen) ≡ length t.chosen = length-map t.chosen number_of in
    let other : length track ≡ length t.chosen = ap length t.are ∙ length-map t.chosen tracklet_of in
    omega (arith, short, one, other)

-- a wider set of numbers has all spots
wider_spots : (nights : List NumberedTracklets) (set wider : List ℕ) (track more : TrackSetData) → AreNumbered nights → AreTrackletsOf nights set track → AreTrackletsOf nights wider more → AreAmong set wider → AreAmong (spots_of track) (spots_of more)
wider_spots nights set wider track more n t u h =
    let numbers : AreAmong (numbers_in t.chosen) (numbers_in u.chosen) = among_both (numbers_in t.chosen) set (numbers_in u.chosen) t.wanted (among_both set wider (numbers_in u.chosen) h u.found) in
    let spots : AreAmong (spots_of (without_numbers t.chosen)) (spots_of (without_numbers u.chosen)) = fewer_spots t.chosen u.chosen (same_numbers nights t.chosen u.chosen n.by_number t.choice u.choice numbers) in
    subst (λ ts. AreAmong (spots_of ts) (spots_of more)) (sym t.are) (subst (λ ts. AreAmong (spots_of (without_numbers t.chosen)) (spots_of ts)) (sym u.are) spots)

-- where two sets have the same tracklets, the one has all numbers of the other
same_tracklets : (nights : List NumberedTracklets) (one other : List ℕ) (track rival : TrackSetData) → AreNumbered nights → AreTrackletsOf nights one track → AreTrackletsOf nights other rival → track ≡ rival → AreAmong one other
same_tracklets nights one other track rival n t u e = each_among one other (λ x c.
    let here = of_mapped number_of t.chosen x (among one (numbers_in t.chosen) x t.found c) in
    let same : without_numbers t.chosen ≡ without_numbers u.chosen = sym t.are ∙ (e ∙ u.are) in
    let there : Contains (without_numbers u.chosen) here.0.tracklet = subst (λ ts. Contains ts here.0.tracklet) same (in_mapped tracklet_of t.chosen here.0 here.1) in
    let found = of_mapped tracklet_of u.chosen here.0.tracklet there in
    let is : found.0 ≡ here.0 = n.by_tracklet found.0 here.0 (chosen_in nights u.chosen found.0 u.choice found.1) (chosen_in nights t.chosen here.0 t.choice here.1) found.2 in
    let number : found.0.num ≡ x = ap number_of is ∙ here.2 in
    among (numbers_in u.chosen) other x u.wanted (subst (Contains (numbers_in u.chosen)) number (in_mapped number_of u.chosen found.0 found.1)))

choice_of : (nights : List NumberedTracklets) (set : List ℕ) (track : TrackSetData) → AreTrackletsOf nights set track → IsChoice (tracklets_in nights) track
choice_of nights set track t = subst (IsChoice (tracklets_in nights)) (sym t.are) (plain_choice nights t.chosen t.choice)

pub same_spots_same_set : (nights : List NumberedTracklets) (one other : List ℕ) (track rival : TrackSetData) → AreNights (tracklets_in nights) → AreNumbered nights → IsSet one → IsSet other → AreTrackletsOf nights one track → AreTrackletsOf nights other rival →
    AreAmong (spots_of track) (spots_of rival) → AreAmong (spots_of rival) (spots_of track) → one ≡ other
same_spots_same_set nights one other track rival a n s r t u there back =
    let same : track ≡ rival = same_by_spots (tracklets_in nights) track rival a (choice_of nights one track t) (choice_of nights other rival u) there back in
    same_set one other s r (same_tracklets nights one other track rival n t u same) (same_tracklets nights other one rival track n u t (sym same))

-- ---- the numbers of a track
record Numbers (settings : SettingsData) (nights : List NumberedTracklets) (track : TrackSetData) : Type 0 where
  set : List ℕ
  fits : FitsByNumber settings nights set
  are : AreTrackletsOf nights set track
  three : 3 ≤ length set

numbers_of_track : (settings : SettingsData) (nights : List NumberedTracklets) (track : TrackSetData) → AreNights (tracklets_in nights) → AreNumbered nights → IsTrack settings (tracklets_in nights) track → Numbers settings nights track
numbers_of_track settings nights track a n t =
    let chosen = numbered_choice nights track t.fitting.choice in
    let set = set_of (numbers_in chosen.0) in
    let are : AreTrackletsOf nights set.0 track = record { chosen = chosen.0; choice = chosen.1; found = set.2; wanted = set.3; are = chosen.2 } in
    let long = no_more nights set.0 track a n are in
    let three = t.three in
    record {
      set = set.0;
      fits = record { is_set = set.1; tracklets = track; are = are; spread = t.fitting.spread; fits = t.fitting.fits };
      are = are;
      three = omega (arith, long, three);
    }

-- the tracklets of a fitting set of three or more are a track
track_of : (settings : SettingsData) (nights : List NumberedTracklets) (set : List ℕ) (f : FitsByNumber settings nights set) → 3 ≤ length set → IsTrack settings (tracklets_in nights) f.tracklets
track_of settings nights set f three =
    let long = no_fewer nights set f.tracklets f.is_set f.are in
    record {
      fitting = record { choice = choice_of nights set f.tracklets f.are; spread = f.spread; fits = f.fits };
      three = omega (arith, long, three);
    }

-- a set of numbers has one list of tracklets
one_track : (nights : List NumberedTracklets) (set : List ℕ) (track other : TrackSetData) → AreNights (tracklets_in nights) → AreNumbered nights → AreTrackletsOf nights set track → AreTrackletsOf nights set other → track ≡ other
one_track nights set track other a n t u =
    let here : AreAmong set set = each_among set set (λ x c. c) in
    same_by_spots (tracklets_in nights) track other a (choice_of nights set track t) (choice_of nights set other u) (wider_spots nights set set track other n t u here) (wider_spots nights set set other track n u t here)

-- the tracklets of a listed set are a track
listed_track : (settings : SettingsData) (nights : List NumberedTracklets) (sets : List (List ℕ)) (set : List ℕ) (track : TrackSetData) → AreNights (tracklets_in nights) → AreNumbered nights → HasClosedSets settings nights sets → Contains sets set → AreTrackletsOf nights set track → IsTrack settings (tracklets_in nights) track
listed_track settings nights sets set track a n h c t =
    let w = (h set).0 c in
    subst (IsTrack settings (tracklets_in nights)) (one_track nights set w.0.fits.tracklets track a n w.0.fits.are t) (track_of settings nights set w.0.fits w.1)

-- ---- a maximal track is listed, and lies in none
-- a fitting set that has all numbers of a maximal track has no others
no_wider : (settings : SettingsData) (nights : List NumberedTracklets) (track : TrackSetData) → AreNights (tracklets_in nights) → AreNumbered nights → IsMaximalTrack settings (tracklets_in nights) track → (ns : Numbers settings nights track) → (other : List ℕ) → FitsByNumber settings nights other → AreAmong ns.set other → AreAmong other ns.set
no_wider settings nights track a n m ns other f h =
    let size : length ns.set ≤ length other = no_longer ns.set other (different ns.set ns.fits.is_set) h in
    let three = ns.three in
    let wider : IsTrack settings (tracklets_in nights) f.tracklets = track_of settings nights other f (omega (arith, size, three)) in
    let there : AreAmong (spots_of track) (spots_of f.tracklets) = wider_spots nights ns.set other track f.tracklets n ns.are f.are h in
    let back : AreAmong (spots_of f.tracklets) (spots_of track) = m.maximal f.tracklets wider there in
    let same : f.tracklets ≡ track = same_by_spots (tracklets_in nights) f.tracklets track a wider.fitting.choice m.track.fitting.choice back there in
    same_tracklets nights other ns.set f.tracklets track n f.are ns.are same

listed : (settings : SettingsData) (nights : List NumberedTracklets) (sets : List (List ℕ)) (tracks : List TrackSetData) (track : TrackSetData) → AreNights (tracklets_in nights) → AreNumbered nights → HasClosedSets settings nights sets → AreTracksOf nights sets tracks → IsMaximalTrack settings (tracklets_in nights) track → Contains tracks track
listed settings nights sets tracks track a n h ts m =
    let ns = numbers_of_track settings nights track a n m.track in
    let closed : IsClosed (FitsByNumber settings nights) ns.set = record { fits = ns.fits; full = no_wider settings nights track a n m ns } in
    let w = ts.each ns.set ((h ns.set).1 (closed, ns.three)) in
    subst (Contains tracks) (one_track nights ns.set w.0 track a n w.2 ns.are) w.1

in_none_of : (settings : SettingsData) (nights : List NumberedTracklets) (sets : List (List ℕ)) (tracks : List TrackSetData) (track : TrackSetData) → AreNights (tracklets_in nights) → AreNumbered nights → HasClosedSets settings nights sets → AreTracksOf nights sets tracks → IsMaximalTrack settings (tracklets_in nights) track → IsInNone tracks track
in_none_of settings nights sets tracks track a n h ts m = λ other c there.
    let w = ts.only other c in
    m.maximal other (listed_track settings nights sets w.0 other a n h w.1 w.2) there

-- ---- and what is listed and lies in none is a maximal track
maximal : FitIsDecided → (settings : SettingsData) (nights : List NumberedTracklets) (sets : List (List ℕ)) (tracks : List TrackSetData) (track : TrackSetData) → AreNights (tracklets_in nights) → AreNumbered nights → HasClosedSets settings nights sets → AreTracksOf nights sets tracks → Contains tracks track → IsInNone tracks track → IsMaximalTrack settings (tracklets_in nights) track
maximal decided settings nights sets tracks track a n h ts c top =
    let w = ts.only track c in
    record {
      track = listed_track settings nights sets w.0 track a n h w.1 w.2;
      maximal = λ other t there.
          let ns = numbers_of_track settings nights other a n t in
          let above = closed_set_above decided settings nights ns.set a ns.fits in
          let size : length ns.set ≤ length above.0 = no_longer ns.set above.0 (different ns.set ns.fits.is_set) above.2 in
          let three = ns.three in
          let u = ts.each above.0 ((h above.0).1 (above.1, omega (arith, size, three))) in
          let wider : AreAmong (spots_of other) (spots_of u.0) = wider_spots nights ns.set above.0 other u.0 n ns.are u.2 above.2 in
          let back : AreAmong (spots_of u.0) (spots_of track) = top u.0 u.1 (among_both (spots_of track) (spots_of other) (spots_of u.0) there wider) in
          among_both (spots_of other) (spots_of u.0) (spots_of track) wider back;
    }

pub maximal_exactly : FitIsDecided → (settings : SettingsData) (nights : List NumberedTracklets) (sets : List (List ℕ)) (tracks : List TrackSetData) → AreNights (tracklets_in nights) → AreNumbered nights → HasClosedSets settings nights sets → AreTracksOf nights sets tracks →
    (track : TrackSetData) → IsMaximalTrack settings (tracklets_in nights) track ↔ (Contains tracks track × IsInNone tracks track)
maximal_exactly decided settings nights sets tracks a n h ts track = (
  λ m. (listed settings nights sets tracks track a n h ts m, in_none_of settings nights sets tracks track a n h ts m),
  λ w. maximal decided settings nights sets tracks track a n h ts w.0 w.1,
)
