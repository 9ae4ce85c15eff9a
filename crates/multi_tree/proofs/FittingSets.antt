-- Tracklets of three nights are an arc that fits exactly where they are a fitting set.
use Rattle.std.proofs.Common.{◌≡◌, ℕ, ◌<◌, ◌<ℤ◌, Some, List, [], ◌∷◌, ◌++◌, get_or, refl, sym, subst, ap, ◌∙◌, arith}
use Rattle.std.proofs.lemmas.List.{append-nil, append_assoc}
use Rattle.std.proofs.lemmas.List.Elements.{All-contains, Contains-get_or, Contains-append_cases}
use Rattle.std.proofs.lemmas.Option.{get_or_from_slice_get, slice_get_within}
use Rattle.std.specs.List.{Contains, slice_get}
use mathlib.Core.Logic.{inl, inr}
use Rattle.sky_units.proofs.RisingLists.{rising_across}
use Rattle.sky_units.specs.Arcs.{AreWithinArcTime, HaveRisingEpochs, MeetSpreadRule}
use Rattle.sky_units.specs.Motion.{Fits}
use Rattle.sky_units.specs.SettingsData.{SettingsData}
use Rattle.sky_units.specs.SpotData.{SpotData}
use Rattle.sky_units.specs.TrackletData.{spots_of}
use Rattle.sky_units.specs.Tracks.{IsChoice, IsFittingSet, IsHeld, IsNightBefore, IsOfNight}
use Rattle.box_tree.proofs.Sorting.{in_front, in_map, in_rest}
use Rattle.bound_prune.specs.Boxes.{BoxedTracklet}
use Rattle.bound_prune.specs.Wanted.{AreWantedThree, HasTolerances}
use Rattle.multi_tree.specs.Laws.{AreThreeNights, FittingTriplesAreFittingSets, three_nights, tracklets_in}

-- what stands at a place is in the list
at_place : {X : Type 0} (xs : List X) (i : ℕ) (x : X) → slice_get xs i ≡ Some x → Contains xs x
at_place xs i x e = subst (Contains xs) (get_or_from_slice_get xs i x x e) (Contains-get_or xs i x (slice_get_within xs i x e))

tracklet_at : (boxes : List BoxedTracklet) (i : ℕ) (box : BoxedTracklet) → slice_get boxes i ≡ Some box → Contains (tracklets_in boxes) box.spots
tracklet_at boxes i box e = in_map (λ (b : BoxedTracklet). b.spots) boxes box (at_place boxes i box e)

-- one thing stands at a place
only_at : {X : Type 0} (xs : List X) (i : ℕ) (x y : X) → slice_get xs i ≡ Some x → slice_get xs i ≡ Some y → x ≡ y
only_at xs i x y e h = sym (get_or_from_slice_get xs i x x e) ∙ get_or_from_slice_get xs i y x h

-- three tracklets, one of each night
module _ (settings : SettingsData) (xs ys zs : List BoxedTracklet) (n : AreThreeNights settings xs ys zs) (x y z : BoxedTracklet)
    (in_x : Contains (tracklets_in xs) x.spots) (in_y : Contains (tracklets_in ys) y.spots) (in_z : Contains (tracklets_in zs) z.spots)
    (has_x : HasTolerances settings x) (has_y : HasTolerances settings y) (has_z : HasTolerances settings z) where
  of_first : (spot : SpotData) → Contains x.spots spot → IsOfNight (tracklets_in xs) spot
  of_first spot c = (x.spots, in_x, c)

  of_second : (spot : SpotData) → Contains y.spots spot → IsOfNight (tracklets_in ys) spot
  of_second spot c = (y.spots, in_y, c)

  of_third : (spot : SpotData) → Contains z.spots spot → IsOfNight (tracklets_in zs) spot
  of_third spot c = (z.spots, in_z, c)

  -- each spot of the three is a spot of the nights
  held : (spot : SpotData) → Contains (x.spots ++ (y.spots ++ z.spots)) spot → IsHeld (three_nights xs ys zs) spot
  held spot c = elim (Contains-append_cases x.spots (y.spots ++ z.spots) spot c) [
    | inl a ↦ (tracklets_in xs, in_front (tracklets_in xs) (tracklets_in ys ∷ tracklets_in zs ∷ []), of_first spot a)
    | inr b ↦ elim (Contains-append_cases y.spots z.spots spot b) [
      | inl a ↦ (tracklets_in ys, in_rest (tracklets_in xs) (tracklets_in ys ∷ tracklets_in zs ∷ []) (tracklets_in ys) (in_front (tracklets_in ys) (tracklets_in zs ∷ [])), of_second spot a)
      | inr a ↦ (tracklets_in zs, in_rest (tracklets_in xs) (tracklets_in ys ∷ tracklets_in zs ∷ []) (tracklets_in zs) (in_rest (tracklets_in ys) (tracklets_in zs ∷ []) (tracklets_in zs) (in_front (tracklets_in zs) [])), of_third spot a)
    ]
  ]

  first_second : IsNightBefore (tracklets_in xs) (tracklets_in ys)
  first_second = n.follow 0 1 [] (omega arith) (omega arith)

  first_third : IsNightBefore (tracklets_in xs) (tracklets_in zs)
  first_third = n.follow 0 2 [] (omega arith) (omega arith)

  second_third : IsNightBefore (tracklets_in ys) (tracklets_in zs)
  second_third = n.follow 1 2 [] (omega arith) (omega arith)

  first_before : (spot later : SpotData) → Contains x.spots spot → Contains (y.spots ++ z.spots) later → spot.epoch <ℤ later.epoch
  first_before spot later a c = elim (Contains-append_cases y.spots z.spots later c) [
    | inl b ↦ first_second spot later (of_first spot a) (of_second later b)
    | inr b ↦ first_third spot later (of_first spot a) (of_third later b)
  ]

  rising : HaveRisingEpochs (x.spots ++ (y.spots ++ z.spots))
  rising =
      let last_two : HaveRisingEpochs (y.spots ++ z.spots) = rising_across y.spots z.spots has_y.tracklet.rising has_z.tracklet.rising (λ i j d il jl.
      second_third (get_or y.spots i d) (get_or z.spots j d) (of_second (get_or y.spots i d) (Contains-get_or y.spots i d il)) (of_third (get_or z.spots j d) (Contains-get_or z.spots j d jl))) in
      rising_across x.spots (y.spots ++ z.spots) has_x.tracklet.rising last_two (λ i j d il jl.
      first_before (get_or x.spots i d) (get_or (y.spots ++ z.spots) j d) (Contains-get_or x.spots i d il) (Contains-get_or (y.spots ++ z.spots) j d jl))

  short : AreWithinArcTime (x.spots ++ (y.spots ++ z.spots))
  short = λ i j d ij jl.
      let all : List SpotData = x.spots ++ (y.spots ++ z.spots) in
      n.short (get_or all i d) (get_or all j d) (held (get_or all i d) (Contains-get_or all i d (omega arith))) (held (get_or all j d) (Contains-get_or all j d jl))

  regrouped : x.spots ++ y.spots ++ z.spots ≡ x.spots ++ (y.spots ++ z.spots)
  regrouped = append_assoc x.spots y.spots z.spots

  joined : x.spots ++ y.spots ++ z.spots ≡ spots_of (x.spots ∷ y.spots ∷ z.spots ∷ [])
  joined = regrouped ∙ ap (λ (s : List SpotData). x.spots ++ (y.spots ++ s)) (sym (append-nil z.spots))

  choice : IsChoice (three_nights xs ys zs) (x.spots ∷ y.spots ∷ z.spots ∷ [])
  choice = inr (x.spots, y.spots ∷ z.spots ∷ [], in_x, refl, inr (y.spots, z.spots ∷ [], in_y, refl, inr (z.spots, [], in_z, refl, refl)))

  set_of : AreWantedThree settings x y z → IsFittingSet settings (three_nights xs ys zs) (x.spots ∷ y.spots ∷ z.spots ∷ [])
  set_of w = record {
    choice = choice;
    spread = subst MeetSpreadRule joined w.tested.arc.spread;
    fits = subst (Fits settings) joined w.fits;
  }

  wanted_of : IsFittingSet settings (three_nights xs ys zs) (x.spots ∷ y.spots ∷ z.spots ∷ []) → AreWantedThree settings x y z
  wanted_of f = record {
    tested = record { first = has_x; second = has_y; third = has_z; arc = record { rising = subst HaveRisingEpochs (sym regrouped) rising; short = subst AreWithinArcTime (sym regrouped) short; spread = subst MeetSpreadRule (sym joined) f.spread } };
    fits = subst (Fits settings) (sym joined) f.fits;
  }

same_wanted : (settings : SettingsData) (x y z u v w : BoxedTracklet) → u ≡ x → v ≡ y → w ≡ z → AreWantedThree settings u v w → AreWantedThree settings x y z
same_wanted settings x y z u v w p q r h = subst (AreWantedThree settings x y) r (subst (λ b. AreWantedThree settings x b w) q (subst (λ a. AreWantedThree settings a v w) p h))

pub triples_are_sets : FittingTriplesAreFittingSets
triples_are_sets settings xs ys zs triple x y z n at_x at_y at_z =
    let in_x = tracklet_at xs triple.0 x at_x in
    let in_y = tracklet_at ys triple.1 y at_y in
    let in_z = tracklet_at zs triple.2 z at_z in
    let has_x = All-contains (HasTolerances settings) xs x n.first (at_place xs triple.0 x at_x) in
    let has_y = All-contains (HasTolerances settings) ys y n.second (at_place ys triple.1 y at_y) in
    let has_z = All-contains (HasTolerances settings) zs z n.third (at_place zs triple.2 z at_z) in (
      λ t. set_of settings xs ys zs n x y z in_x in_y in_z has_x has_y has_z
          (same_wanted settings x y z t.first t.second t.third (only_at xs triple.0 t.first x t.first_at at_x) (only_at ys triple.1 t.second y t.second_at at_y) (only_at zs triple.2 t.third z t.third_at at_z) t.fit),
      λ f. record { first = x; second = y; third = z; first_at = at_x; second_at = at_y; third_at = at_z; fit = wanted_of settings xs ys zs n x y z in_x in_y in_z has_x has_y has_z f },
    )
