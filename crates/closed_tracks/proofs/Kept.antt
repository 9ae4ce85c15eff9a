-- The candidates that are left when contained ones are dropped are the maximal tracks.
use Rattle.std.proofs.Common.{◌≡◌, ℕ, ◌<◌, List, [], length, map, get_or, sym, subst, ◌∙◌, ◌↔◌, arith}
use Rattle.std.proofs.lemmas.List.{get_or-map, get_or_default, length-map}
use Rattle.std.proofs.lemmas.List.Elements.{Contains-get_or}
use Rattle.std.specs.List.{Contains}
use Rattle.sky_math.specs.Lists.{EachTwo}
use Rattle.sky_units.specs.SettingsData.{SettingsData}
use Rattle.sky_units.specs.SpotData.{SpotData}
use Rattle.sky_units.specs.TrackletData.{NightTracklets, TrackSetData, spots_of}
use Rattle.sky_units.specs.Tracks.{AreAmong, AreMaximalTracks, AreNights, IsMaximalTrack, numbers_of}
use Rattle.set_grow.proofs.Choices.{held_of_choice, same_by_spots}
use Rattle.set_grow.proofs.Members.{among, each_among, in_mapped, of_mapped}
use Rattle.set_grow.specs.Laws.{IsInNone}
use Rattle.subset_drop.specs.Kept.{AreKept, HasAllOf, Stays, numbers_at}
use Rattle.closed_tracks.specs.Candidates.{AreCandidates}

abbrev number_of : SpotData → ℕ
number_of spot = spot.num

abbrev track_at : List TrackSetData → ℕ → TrackSetData
track_at tracks place = get_or tracks place []

-- ---- spots and their numbers
among_numbers : (xs ys : List SpotData) → AreAmong xs ys → AreAmong (map number_of xs) (map number_of ys)
among_numbers xs ys h = each_among (map number_of xs) (map number_of ys) (λ n c.
    let w = of_mapped number_of xs n c in
    subst (Contains (map number_of ys)) w.2 (in_mapped number_of ys w.0 (among xs ys w.0 h w.1)))

among_spots : (xs ys : List SpotData) → ((x y : SpotData) → Contains xs x → Contains ys y → x.num ≡ y.num → x ≡ y) → AreAmong (map number_of xs) (map number_of ys) → AreAmong xs ys
among_spots xs ys same h = each_among xs ys (λ x c.
    let w = of_mapped number_of ys x.num (among (map number_of xs) (map number_of ys) x.num h (in_mapped number_of xs x c)) in
    subst (Contains ys) (sym (same x w.0 c w.1 (sym w.2))) w.1)

-- ---- the track at a place
module _ (settings : SettingsData) (nights : List NightTracklets) (tracks : List TrackSetData) (a : AreNights nights) (h : AreCandidates settings nights tracks) where
  there : (place : ℕ) → place < length tracks → Contains tracks (track_at tracks place)
  there place l = Contains-get_or tracks place [] l

  numbers_there : (place : ℕ) → place < length tracks → numbers_at (map numbers_of tracks) place ≡ numbers_of (track_at tracks place)
  numbers_there place l = get_or-map numbers_of tracks place [] [] l

  has_numbers : (holder place : ℕ) → holder < length tracks → place < length tracks → AreAmong (spots_of (track_at tracks place)) (spots_of (track_at tracks holder)) → HasAllOf (map numbers_of tracks) holder place
  has_numbers holder place k l inside =
      let numbers : AreAmong (numbers_of (track_at tracks place)) (numbers_of (track_at tracks holder)) = among_numbers (spots_of (track_at tracks place)) (spots_of (track_at tracks holder)) inside in
      rw (numbers_there place l, numbers_there holder k) numbers

  has_spots : (holder place : ℕ) → holder < length tracks → place < length tracks → HasAllOf (map numbers_of tracks) holder place → AreAmong (spots_of (track_at tracks place)) (spots_of (track_at tracks holder))
  has_spots holder place k l has =
      let numbers : AreAmong (numbers_of (track_at tracks place)) (numbers_of (track_at tracks holder)) = rw (numbers_there place l, numbers_there holder k) at has in
      among_spots (spots_of (track_at tracks place)) (spots_of (track_at tracks holder)) (λ x y c d e. a.numbered x y
      (held_of_choice nights (track_at tracks place) (h.choices (track_at tracks place) (there place l)) x c)
      (held_of_choice nights (track_at tracks holder) (h.choices (track_at tracks holder) (there holder k)) y d) e) numbers

  -- ---- a track that stays is contained in none, and one that is contained in none stays
  in_none_of : (place : ℕ) → place < length tracks → Stays (map numbers_of tracks) place → IsInNone tracks (track_at tracks place)
  in_none_of place l s other c inside =
      let is : track_at tracks c.0 ≡ other = sym (get_or_default tracks c.0 other [] c.1) ∙ c.2 in
      let has : HasAllOf (map numbers_of tracks) c.0 place = has_numbers c.0 place c.1 l (subst (λ t. AreAmong (spots_of (track_at tracks place)) (spots_of t)) (sym is) inside) in
      let size : length (map numbers_of tracks) ≡ length tracks = length-map tracks numbers_of in
      let k : c.0 < length tracks = c.1 in
      let back : HasAllOf (map numbers_of tracks) place c.0 = s.maximal c.0 (omega (arith, k, size)) has in
      subst (λ t. AreAmong (spots_of t) (spots_of (track_at tracks place))) is (has_spots place c.0 l c.1 back)

  stays : (place : ℕ) → place < length tracks → IsInNone tracks (track_at tracks place) → Stays (map numbers_of tracks) place
  stays place l top = record {
    maximal = λ other lo has.
        let size : length (map numbers_of tracks) ≡ length tracks = length-map tracks numbers_of in
        let k : other < length tracks = omega (arith, lo, size) in
        has_numbers place other l k (top (track_at tracks other) (there other k) (has_spots other place k l has));
    first = λ earlier less has back.
        let k : earlier < length tracks = omega (arith, less, l) in
        let same : track_at tracks earlier ≡ track_at tracks place = same_by_spots nights (track_at tracks earlier) (track_at tracks place) a (h.choices (track_at tracks earlier) (there earlier k)) (h.choices (track_at tracks place) (there place l)) (has_spots place earlier l k back) (has_spots earlier place k l has) in
        h.once earlier place [] less l same;
  }

  -- ---- what is kept
  once : (kept : List TrackSetData) → AreKept tracks kept → EachTwo (λ one other. one ≡ other → ⊥) kept
  once kept k = subst (EachTwo (λ one other. one ≡ other → ⊥)) (sym k.members) (λ i j d ij jl e.
      let size : length (map (track_at tracks) k.places) ≡ length k.places = length-map k.places (track_at tracks) in
      let l : j < length k.places = omega (arith, jl, size) in
      let m : i < length k.places = omega (arith, ij, l) in
      let p : ℕ = get_or k.places i 0 in
      let q : ℕ = get_or k.places j 0 in
      let less : get_or k.places i 0 < get_or k.places j 0 = k.rising i j 0 ij l in
      let same : track_at tracks (get_or k.places i 0) ≡ track_at tracks (get_or k.places j 0) = sym (get_or-map (track_at tracks) k.places i 0 d m) ∙ (e ∙ get_or-map (track_at tracks) k.places j 0 d l) in
      let w = (k.exactly q).0 (Contains-get_or k.places j 0 l) in
      let within : get_or k.places j 0 < length tracks = w.0 in
      let within' : get_or k.places i 0 < length tracks = omega (arith, less, within) in
      let whole : AreAmong (spots_of (track_at tracks (get_or k.places j 0))) (spots_of (track_at tracks (get_or k.places j 0))) = each_among (spots_of (track_at tracks q)) (spots_of (track_at tracks q)) (λ x c. c) in
      let one : AreAmong (spots_of (track_at tracks (get_or k.places i 0))) (spots_of (track_at tracks (get_or k.places j 0))) = subst (λ t. AreAmong (spots_of t) (spots_of (track_at tracks q))) (sym same) whole in
      let other : AreAmong (spots_of (track_at tracks (get_or k.places j 0))) (spots_of (track_at tracks (get_or k.places i 0))) = subst (λ t. AreAmong (spots_of (track_at tracks q)) (spots_of t)) (sym same) whole in
      w.1.first p less (has_numbers p q within' within other) (has_numbers q p within within' one))

  listed : (kept : List TrackSetData) → AreKept tracks kept → (track : TrackSetData) → Contains kept track ↔ IsMaximalTrack settings nights track
  listed kept k track = (
    λ c.
        let p = of_mapped (track_at tracks) k.places track (subst (λ ts. Contains ts track) k.members c) in
        let w = (k.exactly p.0).0 p.1 in
        subst (IsMaximalTrack settings nights) p.2 ((h.maximal (track_at tracks p.0)).1 (there p.0 w.0, in_none_of p.0 w.0 w.1)),
    λ m.
        let w = (h.maximal track).0 m in
        let place : ℕ = w.0.0 in
        let l : w.0.0 < length tracks = w.0.1 in
        let is : track_at tracks w.0.0 ≡ track = sym (get_or_default tracks w.0.0 track [] l) ∙ w.0.2 in
        let s : Stays (map numbers_of tracks) w.0.0 = stays w.0.0 l (subst (IsInNone tracks) (sym is) w.1) in
        let c : Contains (map (track_at tracks) k.places) (track_at tracks w.0.0) = in_mapped (track_at tracks) k.places w.0.0 ((k.exactly w.0.0).1 (l, s)) in
        subst (λ ts. Contains ts track) (sym k.members) (subst (Contains (map (track_at tracks) k.places)) is c),
  )

  pub kept_are_maximal : (kept : List TrackSetData) → AreKept tracks kept → AreMaximalTracks settings nights kept
  kept_are_maximal kept k = record { once = once kept k; listed = listed kept k }
