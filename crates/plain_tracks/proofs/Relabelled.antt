-- Tracklets and tracks don't depend on the labels of spots.
use Rattle.std.proofs.Common.{◌≡◌, ◌↔◌, ◌≤◌, ℕ, ℤ, neg_ℤ, Bool, ◌&&◌, if◌then◌else◌, nat_lt, Option, None, Some, List, [], ◌∷◌, ◌++◌, map, max, length, get_or, zero, suc, refl, sym, ap, ap₂, subst, ◌∙◌}
use Rattle.std.specs.Int.RustNames.{unsigned_abs}
use Rattle.std.specs.List.{Contains, filter_map, list_all, remove, slice_get}
use Rattle.std.specs.Option.{option_map}
use Rattle.std.proofs.lemmas.List.{length-map, map-append}
use Rattle.std.proofs.lemmas.List.Elements.{All-map, Contains-append_left, Contains-append_right, filter_agree}
use Rattle.std.proofs.lemmas.List.Folds.{list_all-map}
use Rattle.std.proofs.lemmas.Option.{slice_get-map}
use Rattle.std.proofs.lemmas.Simd.{map-map}
use mathlib.Core.Logic.{inl, inr}
use Rattle.sky_math.specs.Quadratics.{Point, Admits}
use Rattle.sky_units.specs.Arcs.{AreNear, MeetSpreadRule}
use Rattle.sky_units.specs.AtPlaces.{spots_at}
use Rattle.sky_units.specs.FracData.{FracData}
use Rattle.sky_units.specs.Motion.{Fits, acceleration, point_from, points, tolerance}
use Rattle.sky_units.specs.Pairs.{all_pairs, are_pair_at, are_some_pair, pairs_of}
use Rattle.sky_units.specs.SettingsData.{SettingsData}
use Rattle.sky_units.specs.SpotData.{SpotData}
use Rattle.sky_units.specs.TrackletData.{TrackSetData, NightTracklets, spots_of}
use Rattle.sky_units.specs.Tracks.{AreAmong, IsChoice, IsHeld, IsMaximalTrack, IsTrack}
use Rattle.sky_units.specs.declared.axis.Axis.TheVariants.{Ra, Dec}
use Rattle.line_fit.specs.Lines.{each_two, follows_near, greatest_slope, is_at_most, least_slope, lies_on_line, per_tick}
use Rattle.collapse.specs.Groups.{groups_of, join_all, join_first, with_pair}
use Rattle.purge.specs.LeastSquares.{line_over, residual}
use Rattle.purge.specs.Purging.{deviations, last_greatest, purge_of, purged, worst}
use Rattle.night_tree.specs.Nights.{in_order, sets_of, tracklets_of}
use Rattle.plain_tracks.proofs.Choices.{held_of_choice}
use Rattle.plain_tracks.proofs.Entries.{in_front, in_rest}
use Rattle.plain_tracks.proofs.Members.{each_two_map, in_mapped, of_mapped}

-- the spot with another label
abbrev pub relabelled : (ℕ → ℕ) → SpotData → SpotData
relabelled f spot = record spot { num = f spot.num }

-- the set with other labels
abbrev pub relabelled_set : (ℕ → ℕ) → TrackSetData → TrackSetData
relabelled_set f set = map (map (relabelled f)) set

module _ (f : ℕ → ℕ) where
  -- ---- pairs, and spots at places
  same_two : (s : SettingsData) (a b : Option SpotData) → are_some_pair s (option_map (relabelled f) a) (option_map (relabelled f) b) ≡ are_some_pair s a b
  same_two s None b = refl
  same_two s (Some x) None = refl
  same_two s (Some x) (Some y) = refl

  same_pairs : (s : SettingsData) (spots : List SpotData) → pairs_of s (map (relabelled f) spots) ≡ pairs_of s spots
  same_pairs s spots =
      rw (length-map spots (relabelled f))
      (filter_agree (are_pair_at s (map (relabelled f) spots)) (are_pair_at s spots)
      (λ places. rw (slice_get-map (relabelled f) spots places.0, slice_get-map (relabelled f) spots places.1) (same_two s (slice_get spots places.0) (slice_get spots places.1)))
      (all_pairs (length spots) (length spots)))

  one_at : (spots : List SpotData) (places : List ℕ) (o : Option SpotData) (p : ℕ) → slice_get spots p ≡ o → spots_at (map (relabelled f) spots) places ≡ map (relabelled f) (spots_at spots places)
      → spots_at (map (relabelled f) spots) (p ∷ places) ≡ map (relabelled f) (spots_at spots (p ∷ places))
  one_at spots places None p e rest = rw (slice_get-map (relabelled f) spots p, e) rest
  one_at spots places (Some x) p e rest = rw (slice_get-map (relabelled f) spots p, e) (ap (λ (xs : List SpotData). relabelled f x ∷ xs) rest)

  same_at : (spots : List SpotData) (places : List ℕ) → spots_at (map (relabelled f) spots) places ≡ map (relabelled f) (spots_at spots places)
  same_at spots [] = refl
  same_at spots (p ∷ places) = one_at spots places (slice_get spots p) p refl (same_at spots places)

  -- ---- lines
  abbrev both : SpotData × SpotData → SpotData × SpotData
  both two = (relabelled f two.0, relabelled f two.1)

  same_each_two : (spots : List SpotData) → each_two (map (relabelled f) spots) ≡ map both (each_two spots)
  same_each_two [] = refl
  same_each_two (x ∷ rest) =
      ap₂ (λ (a b : List (SpotData × SpotData)). a ++ b) (map-map (λ y. (relabelled f x, y)) (relabelled f) rest ∙ sym (map-map both (λ y. (x, y)) rest)) (same_each_two rest)
      ∙ sym (map-append both (map (λ y. (x, y)) rest) (each_two rest))

  over_two : {X : Type 0} (g : SpotData × SpotData → X) (spots : List SpotData) → map g (each_two (map (relabelled f) spots)) ≡ map (λ two. g (both two)) (each_two spots)
  over_two g spots = ap (map g) (same_each_two spots) ∙ map-map g both (each_two spots)

  abbrev meet : ℤ → List FracData → List FracData → Bool
  meet rate lows uppers = list_all (λ low. list_all (is_at_most low) (per_tick rate ∷ uppers)) (per_tick (neg_ℤ rate) ∷ lows)

  same_line : (tol rate_ra rate_dec : ℤ) (spots : List SpotData) → lies_on_line tol rate_ra rate_dec (map (relabelled f) spots) ≡ lies_on_line tol rate_ra rate_dec spots
  same_line tol rate_ra rate_dec spots =
      let follow = ap (list_all follows_near) (same_each_two spots) ∙ list_all-map follows_near both (each_two spots) in
      let ra = ap₂ (meet rate_ra) (over_two (least_slope Ra tol) spots) (over_two (greatest_slope Ra tol) spots) in
      let dec = ap₂ (meet rate_dec) (over_two (least_slope Dec tol) spots) (over_two (greatest_slope Dec tol) spots) in
      ap₂ (λ (a b : Bool). a && b) (ap₂ (λ (a b : Bool). a && b) follow ra) dec

  line_at : (tol rate_ra rate_dec : ℤ) (spots : List SpotData) (places : List ℕ) → lies_on_line tol rate_ra rate_dec (spots_at (map (relabelled f) spots) places) ≡ lies_on_line tol rate_ra rate_dec (spots_at spots places)
  line_at tol rate_ra rate_dec spots places = ap (lies_on_line tol rate_ra rate_dec) (same_at spots places) ∙ same_line tol rate_ra rate_dec (spots_at spots places)

  -- ---- groups
  same_first : (s : SettingsData) (spots : List SpotData) (pair : ℕ × ℕ) (groups : List (List ℕ)) → join_first s (map (relabelled f) spots) pair groups ≡ join_first s spots pair groups
  same_first s spots pair [] = refl
  same_first s spots pair (group ∷ rest) =
      ap₂ (λ (fits : Bool) (others : List (List ℕ)). if fits then with_pair group pair ∷ rest else group ∷ others)
      (line_at s.line_tol s.rate_ra s.rate_dec spots (with_pair group pair)) (same_first s spots pair rest)

  same_all : (s : SettingsData) (spots : List SpotData) (pairs : List (ℕ × ℕ)) (groups : List (List ℕ)) → join_all s (map (relabelled f) spots) pairs groups ≡ join_all s spots pairs groups
  same_all s spots [] groups = refl
  same_all s spots (pair ∷ rest) groups = ap (join_all s (map (relabelled f) spots) rest) (same_first s spots pair groups) ∙ same_all s spots rest (join_first s spots pair groups)

  same_groups : (s : SettingsData) (spots : List SpotData) → groups_of s (map (relabelled f) spots) ≡ groups_of s spots
  same_groups s spots = ap (λ (pairs : List (ℕ × ℕ)). join_all s (map (relabelled f) spots) pairs []) (same_pairs s spots) ∙ same_all s spots (pairs_of s spots) []

  -- ---- what is left of groups
  points_of_ra : (spots : List SpotData) → points Ra (map (relabelled f) spots) ≡ points Ra spots
  points_of_ra [] = refl
  points_of_ra (first ∷ rest) = map-map (point_from Ra (relabelled f first)) (relabelled f) (first ∷ rest)

  points_of_dec : (spots : List SpotData) → points Dec (map (relabelled f) spots) ≡ points Dec spots
  points_of_dec [] = refl
  points_of_dec (first ∷ rest) = map-map (point_from Dec (relabelled f first)) (relabelled f) (first ∷ rest)

  abbrev deviation_by : List Point → List Point → SpotData → SpotData → ℕ
  deviation_by ra dec first spot = max (unsigned_abs (residual (line_over ra) (point_from Ra first spot))) (unsigned_abs (residual (line_over dec) (point_from Dec first spot)))

  same_deviations : (spots : List SpotData) → deviations (map (relabelled f) spots) ≡ deviations spots
  same_deviations [] = refl
  same_deviations (first ∷ rest) =
      let spots : List SpotData = first ∷ rest in
      map-map (deviation_by (points Ra (map (relabelled f) spots)) (points Dec (map (relabelled f) spots)) (relabelled f first)) (relabelled f) spots
      ∙ ap₂ (λ (ra dec : List Point). map (deviation_by ra dec first) spots) (points_of_ra spots) (points_of_dec spots)

  same_purged : (s : SettingsData) (n : ℕ) (spots : List SpotData) (places : List ℕ) → purged s n (map (relabelled f) spots) places ≡ purged s n spots places
  same_purged s zero spots places = refl
  same_purged s (suc n) spots places =
      let at : worst (spots_at (map (relabelled f) spots) places) ≡ worst (spots_at spots places) = ap worst (same_at spots places) ∙ ap last_greatest (same_deviations (spots_at spots places)) in
      ap₂ (λ (fits : Bool) (rest : Option (List ℕ)). if nat_lt (length places) 2 then None else (if fits then Some places else rest))
      (line_at s.purge_tol s.rate_ra s.rate_dec spots places)
      (ap (λ k. purged s n (map (relabelled f) spots) (remove places k)) at ∙ same_purged s n spots (remove places (worst (spots_at spots places))))

  same_left : (s : SettingsData) (spots : List SpotData) (groups : List (List ℕ)) → filter_map (purge_of s (map (relabelled f) spots)) groups ≡ filter_map (purge_of s spots) groups
  same_left s spots [] = refl
  same_left s spots (group ∷ rest) = rw (same_purged s (length group) spots group, same_left s spots rest) refl

  -- ---- the tracklets of a night
  same_sets : (s : SettingsData) (spots : List SpotData) → sets_of s (map (relabelled f) spots) ≡ sets_of s spots
  same_sets s spots = rw (same_groups s spots, same_left s spots (groups_of s spots), same_pairs s spots) refl

  each_at : (spots : List SpotData) (sets : List (List ℕ)) → map (spots_at (map (relabelled f) spots)) sets ≡ map (map (relabelled f)) (map (spots_at spots) sets)
  each_at spots [] = refl
  each_at spots (set ∷ sets) = rw (same_at spots set, each_at spots sets) refl

  pub relabelled_tracklets : (s : SettingsData) (spots : List SpotData) → tracklets_of s (map (relabelled f) spots) ≡ map (map (relabelled f)) (tracklets_of s spots)
  relabelled_tracklets s spots = rw (same_sets s spots) (each_at spots (in_order (sets_of s spots)))

  -- ---- the spots of a set
  pub relabelled_spots : (set : TrackSetData) → spots_of (relabelled_set f set) ≡ map (relabelled f) (spots_of set)
  relabelled_spots [] = refl
  relabelled_spots (tracklet ∷ rest) = rw (map-append (relabelled f) tracklet (spots_of rest), relabelled_spots rest) refl

  relabelled_among : (xs ys : List SpotData) → AreAmong xs ys → AreAmong (map (relabelled f) xs) (map (relabelled f) ys)
  relabelled_among xs ys h = All-map (Contains (map (relabelled f) ys)) (relabelled f) xs (λ k d l. in_mapped (relabelled f) ys (get_or xs k d) (h k d l))

  relabelled_choice : (nights : List NightTracklets) (set : TrackSetData) → IsChoice nights set → IsChoice (map (map (map (relabelled f))) nights) (relabelled_set f set)
  relabelled_choice [] set e = ap (relabelled_set f) e
  relabelled_choice (night ∷ nights) set (inl c) = inl (relabelled_choice nights set c)
  relabelled_choice (night ∷ nights) set (inr w) = inr (map (relabelled f) w.0, relabelled_set f w.1, in_mapped (map (relabelled f)) night w.0 w.2, ap (relabelled_set f) w.3, relabelled_choice nights w.1 w.4)

  relabelled_spread : (spots : List SpotData) → MeetSpreadRule spots → MeetSpreadRule (map (relabelled f) spots)
  relabelled_spread spots h = each_two_map (λ a b. AreNear Ra a b × AreNear Dec a b) (relabelled f) spots h

  relabelled_fit : (s : SettingsData) (spots : List SpotData) → Fits s spots → Fits s (map (relabelled f) spots)
  relabelled_fit s spots h = (
    subst (Admits (acceleration Ra s) (tolerance Ra s)) (sym (points_of_ra spots)) h.0,
    subst (Admits (acceleration Dec s) (tolerance Dec s)) (sym (points_of_dec spots)) h.1,
  )

-- ---- tracks, where another relabelling leads back
abbrev pub relabelled_nights : (ℕ → ℕ) → List NightTracklets → List NightTracklets
relabelled_nights f nights = map (map (map (relabelled f))) nights

-- the second relabelling takes each spot of the nights back
abbrev pub LeadsBack : (ℕ → ℕ) → (ℕ → ℕ) → List NightTracklets → Type 0
LeadsBack f g nights = (spot : SpotData) → IsHeld nights spot → relabelled g (relabelled f spot) ≡ spot

each_back : {X : Type 0} (f g : X → X) (xs : List X) → ((x : X) → Contains xs x → g (f x) ≡ x) → map g (map f xs) ≡ xs
each_back f g [] h = refl
each_back f g (x ∷ xs) h = rw (h x (in_front x xs), each_back f g xs (λ y c. h y (in_rest x xs y c))) refl

nights_back : (f g : ℕ → ℕ) (nights : List NightTracklets) → LeadsBack f g nights → relabelled_nights g (relabelled_nights f nights) ≡ nights
nights_back f g nights back = each_back (map (map (relabelled f))) (map (map (relabelled g))) nights
    (λ night cn. each_back (map (relabelled f)) (map (relabelled g)) night (λ t ct. each_back (relabelled f) (relabelled g) t (λ spot cs. back spot (night, cn, (t, ct, cs)))))

set_back : (f g : ℕ → ℕ) (nights : List NightTracklets) (set : TrackSetData) → LeadsBack f g nights → IsChoice nights set → relabelled_set g (relabelled_set f set) ≡ set
set_back f g nights set back choice = by set (λ spot c. back spot (held_of_choice nights set choice spot c))
  where
    by : (sets : TrackSetData) → ((spot : SpotData) → Contains (spots_of sets) spot → relabelled g (relabelled f spot) ≡ spot) → relabelled_set g (relabelled_set f sets) ≡ sets
    by [] h = refl
    by (t ∷ rest) h = rw (each_back (relabelled f) (relabelled g) t (λ spot c. h spot (Contains-append_left t (spots_of rest) spot c)), by rest (λ spot c. h spot (Contains-append_right t (spots_of rest) spot c))) refl

-- and the first takes the others forth again
leads_forth : (f g : ℕ → ℕ) (nights : List NightTracklets) → LeadsBack f g nights → LeadsBack g f (relabelled_nights f nights)
leads_forth f g nights back spot w =
    let n = of_mapped (map (map (relabelled f))) nights w.0 w.1 in
    let t = of_mapped (map (relabelled f)) n.0 w.2.0 (subst (λ x. Contains x w.2.0) (sym n.2) w.2.1) in
    let p = of_mapped (relabelled f) t.0 spot (subst (λ x. Contains x spot) (sym t.2) w.2.2) in
    subst (λ x. relabelled f (relabelled g x) ≡ x) p.2 (ap (relabelled f) (back p.0 (n.0, n.1, (t.0, t.1, p.1))))

relabelled_track : (f : ℕ → ℕ) (c : SettingsData) (nights : List NightTracklets) (set : TrackSetData) → IsTrack c nights set → IsTrack c (relabelled_nights f nights) (relabelled_set f set)
relabelled_track f c nights set h =
    let spots : map (relabelled f) (spots_of set) ≡ spots_of (relabelled_set f set) = sym (relabelled_spots f set) in
    record {
      fitting = record {
        choice = relabelled_choice f nights set h.fitting.choice;
        spread = subst MeetSpreadRule spots (relabelled_spread f (spots_of set) h.fitting.spread);
        fits = subst (Fits c) spots (relabelled_fit f c (spots_of set) h.fitting.fits);
      };
      three = subst (λ n. 3 ≤ n) (sym (length-map set (map (relabelled f)))) h.three;
    }

sets_among : (f : ℕ → ℕ) (one other : TrackSetData) → AreAmong (spots_of one) (spots_of other) → AreAmong (spots_of (relabelled_set f one)) (spots_of (relabelled_set f other))
sets_among f one other h = rw (relabelled_spots f one, relabelled_spots f other) (relabelled_among f (spots_of one) (spots_of other) h)

relabelled_maximal : (f g : ℕ → ℕ) (c : SettingsData) (nights : List NightTracklets) (set : TrackSetData) → LeadsBack f g nights → IsMaximalTrack c nights set → IsMaximalTrack c (relabelled_nights f nights) (relabelled_set f set)
relabelled_maximal f g c nights set back m = record {
  track = relabelled_track f c nights set m.track;
  maximal = λ other h among.
      let before : TrackSetData = relabelled_set g other in
      let track : IsTrack c nights before = subst (λ ns. IsTrack c ns before) (nights_back f g nights back) (relabelled_track g c (relabelled_nights f nights) other h) in
      let within : AreAmong (spots_of set) (spots_of before) = subst (λ x. AreAmong (spots_of x) (spots_of before)) (set_back f g nights set back m.track.fitting.choice) (sets_among g (relabelled_set f set) other among) in
      subst (λ x. AreAmong (spots_of x) (spots_of (relabelled_set f set))) (set_back g f (relabelled_nights f nights) other (leads_forth f g nights back) h.fitting.choice) (sets_among f before set (m.maximal before track within));
}

-- a list of all maximal tracks stays one
pub relabelled_listed : (f g : ℕ → ℕ) (c : SettingsData) (nights : List NightTracklets) (list : List TrackSetData) → LeadsBack f g nights → ((set : TrackSetData) → Contains list set ↔ IsMaximalTrack c nights set)
    → (set : TrackSetData) → Contains (map (relabelled_set f) list) set ↔ IsMaximalTrack c (relabelled_nights f nights) set
relabelled_listed f g c nights list back listed set = (
  λ d. (let w = of_mapped (relabelled_set f) list set d in subst (IsMaximalTrack c (relabelled_nights f nights)) w.2 (relabelled_maximal f g c nights w.0 back ((listed w.0).0 w.1))),
  λ m.
      let before : TrackSetData = relabelled_set g set in
      let forth = leads_forth f g nights back in
      let here : Contains list before = (listed before).1 (subst (λ ns. IsMaximalTrack c ns before) (nights_back f g nights back) (relabelled_maximal g f c (relabelled_nights f nights) set forth m)) in
      subst (Contains (map (relabelled_set f) list)) (set_back g f (relabelled_nights f nights) set forth m.track.fitting.choice) (in_mapped (relabelled_set f) list before here),
)
