-- The tracks of the kept sets: the maximal ones are among them.
use Rattle.std.proofs.Common.{◌≡◌, ◌↔◌, ℕ, List, [], ◌∷◌, ◌++◌, get_or, append_assoc, inl, inr, refl, sym, subst, arith}
use Rattle.std.proofs.lemmas.List.Elements.{All-contains, All-head, All-tail, Contains-get_or}
use Rattle.std.specs.List.{All, Contains}
use Rattle.closed_tracks.specs.Candidates.{AreCandidates}
use Rattle.kept_sets.specs.Lists.{AreDifferent}
use Rattle.night_tree.specs.Nights.{NightData, tracklets_of_each}
use Rattle.set_grow.proofs.Choices.{rising_of_choice}
use Rattle.set_grow.proofs.Chosen.{plain_choice}
use Rattle.set_grow.proofs.MaximalTracks.{same_spots_same_set}
use Rattle.set_grow.proofs.Members.{each_among, each_two_cons, each_two_head, each_two_tail, front_or_rest, in_front, in_none, in_rest}
use Rattle.set_grow.specs.Laws.{IsInNone, MaximalTracksAreClosed}
use Rattle.set_grow.specs.Nights.{AreInPlace, NumberedNightData, by_night}
use Rattle.set_grow.specs.Numbered.{AreNumbered, AreTrackletsOf, NumberedTracklets, tracklets_in}
use Rattle.set_grow.specs.declared.places.Place.{Place}
use Rattle.sky_math.specs.Lists.{EachTwo}
use Rattle.sky_units.specs.SettingsData.{SettingsData}
use Rattle.sky_units.specs.TrackletData.{IsTrackSet, NightTracklets, TrackSetData, spots_of}
use Rattle.sky_units.specs.Tracks.{AreAmong, AreNights, IsChoice, IsMaximalTrack}
use Rattle.tracklet_register.proofs.Linking.{are_numbered, plain_again}
use Rattle.tracklet_register.specs.Registers.{with_numbers}
use Rattle.tracklet_register.specs.Replacing.{AreDifferent as HasNoRepeats}
use Rattle.kept_tracks.specs.KeptFor.{AreKeptFor, KeptData}
use Rattle.kept_tracks.specs.Stages.{AreTracksInOrder, HasTracklets}

-- ---- tracks in the order of their sets
pub one_more : (nights : List NumberedTracklets) (whole : List (List ℕ)) (set : List ℕ) (left : List (List ℕ)) (made : List TrackSetData) (track : TrackSetData) → AreTrackletsOf nights set track
    → ((rest : List TrackSetData) → AreTracksInOrder nights (set ∷ left) rest → AreTracksInOrder nights whole (made ++ rest))
    → (rest : List TrackSetData) → AreTracksInOrder nights left rest → AreTracksInOrder nights whole ((made ++ track ∷ []) ++ rest)
one_more nights whole set left made track t so_far rest r =
    subst (AreTracksInOrder nights whole) (sym (append_assoc made (track ∷ []) rest)) (so_far (track ∷ rest) (track, rest, refl, t, r))

each_of : (nights : List NumberedTracklets) (sets : List (List ℕ)) (tracks : List TrackSetData) → AreTracksInOrder nights sets tracks → (set : List ℕ) → Contains sets set → (track : TrackSetData) × Contains tracks track × AreTrackletsOf nights set track
each_of nights [] tracks a set c = absurd (in_none set c)
each_of nights (first ∷ sets) tracks a set c = elim (front_or_rest first sets set c) [
  | inl e ↦ (a.0, subst (λ list. Contains list a.0) (sym a.2) (in_front a.0 a.1), subst (λ s. AreTrackletsOf nights s a.0) e a.3)
  | inr d ↦ (let w = each_of nights sets a.1 a.4 set d in (w.0, subst (λ list. Contains list w.0) (sym a.2) (in_rest a.0 a.1 w.0 w.1), w.2))
]

only_of : (nights : List NumberedTracklets) (sets : List (List ℕ)) (tracks : List TrackSetData) → AreTracksInOrder nights sets tracks → (track : TrackSetData) → Contains tracks track → (set : List ℕ) × Contains sets set × AreTrackletsOf nights set track
only_of nights [] tracks a track c = absurd (in_none track (subst (λ list. Contains list track) a c))
only_of nights (first ∷ sets) tracks a track c = elim (front_or_rest a.0 a.1 track (subst (λ list. Contains list track) a.2 c)) [
  | inl e ↦ (first, in_front first sets, subst (AreTrackletsOf nights first) e a.3)
  | inr d ↦ (let w = only_of nights sets a.1 a.4 track d in (w.0, in_rest first sets w.0 w.1, w.2))
]

-- the tracklets of a set of numbers are a set of tracklets
pub is_track_set : (nights : List NumberedNightData) (table : List Place) (set : List ℕ) (track : TrackSetData) → AreInPlace nights table → AreTrackletsOf (by_night nights) set track → IsTrackSet track
is_track_set nights table set track place t =
    record { rising = rising_of_choice (tracklets_in (by_night nights)) track place.in_time (subst (IsChoice (tracklets_in (by_night nights))) (sym t.are) (plain_choice (by_night nights) t.chosen t.choice)) }

-- different sets have different tracks
all_of : {X : Type 0} → (P : X → Type 0) (xs : List X) → ((x : X) → Contains xs x → P x) → All P xs
all_of P xs h = λ k d l. h (get_or xs k d) (Contains-get_or xs k d l)

once_of : (nights : List NumberedTracklets) (sets : List (List ℕ)) (tracks : List TrackSetData) → AreNights (tracklets_in nights) → AreNumbered nights → All (HasTracklets nights) sets → AreDifferent sets → AreTracksInOrder nights sets tracks → EachTwo (λ one other. one ≡ other → ⊥) tracks
once_of nights [] tracks time numbered good different a = subst (EachTwo (λ one other. one ≡ other → ⊥)) (sym a) (λ i j d ij jl. absurd (omega (arith, jl)))
once_of nights (set ∷ sets) tracks time numbered good different a = subst (EachTwo (λ one other. one ≡ other → ⊥)) (sym a.2)
    (each_two_cons (λ one other. one ≡ other → ⊥) a.0 a.1 (all_of (λ other. a.0 ≡ other → ⊥) a.1 (λ other c same.
    let w = only_of nights sets a.1 a.4 other c in
    let own : HasTracklets nights set = All-head (HasTracklets nights) set sets good in
    let its : HasTracklets nights w.0 = All-contains (HasTracklets nights) sets w.0 (All-tail (HasTracklets nights) set sets good) w.1 in
    let itself : AreAmong (spots_of other) (spots_of other) = each_among (spots_of other) (spots_of other) (λ x k. k) in
    let here : AreTrackletsOf nights set other = subst (AreTrackletsOf nights set) same a.3 in
    All-contains (λ y. set ≡ y → ⊥) sets w.0 (each_two_head (λ one other. one ≡ other → ⊥) set sets different) w.1
    (same_spots_same_set nights set w.0 other other time numbered own.is_set its.is_set here w.2 itself itself)))
    (once_of nights sets a.1 time numbered (All-tail (HasTracklets nights) set sets good) (each_two_tail (λ one other. one ≡ other → ⊥) set sets different) a.4))

-- ---- the tracks of the kept sets are candidates
module _ (settings : SettingsData) (nights : List NightData) (kept : KeptData) (k : AreKeptFor settings nights kept) where
  abbrev numbered : List NumberedTracklets
  numbered = by_night (with_numbers kept.register.nights nights)

  pub all_good : All (HasTracklets (by_night (with_numbers kept.register.nights nights))) kept.sets
  all_good = all_of (HasTracklets numbered) kept.sets (λ set c. let f = ((k.sets.exactly set).0 c).0.fits in record { is_set = f.is_set; tracklets = f.tracklets; are = f.are })

  pub candidates : (table : List Place) (tracks : List TrackSetData) → MaximalTracksAreClosed → AreInPlace (with_numbers kept.register.nights nights) table → All (λ (night : NightTracklets). HasNoRepeats night) (tracklets_of_each nights) → AreTracksInOrder (by_night (with_numbers kept.register.nights nights)) kept.sets tracks
      → AreCandidates settings (tracklets_of_each nights) tracks
  candidates table tracks law place different a = record {
    choices = λ track c.
        let w = only_of numbered kept.sets tracks a track c in
        let choice : IsChoice (tracklets_in numbered) track = subst (IsChoice (tracklets_in numbered)) (sym w.2.are) (plain_choice numbered w.2.chosen w.2.choice) in
        subst (λ list. IsChoice list track) plain choice;
    once = once_of numbered kept.sets tracks place.in_time told all_good k.sets.once a;
    maximal = λ track. subst (λ list. IsMaximalTrack settings list track ↔ (Contains tracks track × IsInNone tracks track)) plain
        (law settings numbered kept.sets tracks place.in_time told k.sets.exactly (record { each = each_of numbered kept.sets tracks a; only = only_of numbered kept.sets tracks a }) track);
  } where
    plain : tracklets_in (by_night (with_numbers kept.register.nights nights)) ≡ tracklets_of_each nights
    plain = plain_again kept.register.nights nights k.numbered

    told : AreNumbered (by_night (with_numbers kept.register.nights nights))
    told = are_numbered table kept.register.nights nights k.numbered place different
