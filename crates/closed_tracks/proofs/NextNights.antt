-- Nights with one more after them, whose number is the next one.
use Rattle.std.proofs.Common.{◌≡◌, ℕ, ◌<◌, ◌≤◌, ℤ, pos, ◌+ℤ◌, ◌-ℤ◌, ◌≤ℤ◌, ◌<ℤ◌, List, [], ◌∷◌, ◌++◌, length, get_or, sym, subst, ap, ◌∙◌, arith}
use Rattle.std.proofs.lemmas.Int.{ints}
use Rattle.std.proofs.lemmas.List.{map-append}
use Rattle.std.proofs.lemmas.List.Elements.{All-nil, All-cons, All-append, Contains-get_or, Contains-push_cases}
use Rattle.std.specs.List.{All}
use mathlib.Core.Logic.{◌⊎◌, inl, inr}
use Rattle.sky_math.specs.Lists.{EachTwo}
use Rattle.sky_units.specs.Limits.{arc_ticks}
use Rattle.sky_units.specs.SettingsData.{SettingsData}
use Rattle.sky_units.specs.SpotData.{SpotData}
use Rattle.sky_units.specs.TrackletData.{IsTracklet, NightTracklets}
use Rattle.sky_units.specs.Tracks.{AreNights, IsHeld, IsNightBefore, IsOfNight}
use Rattle.night_tree.specs.Nights.{NightData, tracklets_of, tracklets_of_each}
use Rattle.night_tree.proofs.EachTwoOf.{each_two_append, each_two_cons}
use Rattle.night_tree.proofs.NightTracklets.{all_tracklets, of_night}
use Rattle.sky_units.proofs.Members.{front_or_rest, in_none}
use Rattle.closed_tracks.proofs.Standing.{AreDistinct}

-- a spot of an epoch from `low` to just below `high`, and of a number from `least` to just below `most`
pub record IsWithin (low high : ℤ) (least most : ℕ) (spot : SpotData) : Type 0 where
  pub from : low ≤ℤ spot.epoch
  pub to : spot.epoch <ℤ high
  pub num_from : least ≤ spot.num
  pub num_to : spot.num < most

-- nights whose spots have epochs from `low` to just below `high`, and numbers below `most`
pub record AreUpTo (low high : ℤ) (most : ℕ) (nights : List NightTracklets) : Type 0 where
  pub are : AreNights nights
  pub within : (spot : SpotData) → IsHeld nights spot → IsWithin low high 0 most spot

-- a night after the others: its tracklets, its spots, and that no two of them have one number
pub record IsNext (high next : ℤ) (most more : ℕ) (night : NightTracklets) : Type 0 where
  pub tracklets : All IsTracklet night
  pub within : (spot : SpotData) → IsOfNight night spot → IsWithin high next most more spot
  pub numbered : (spot other : SpotData) → IsOfNight night spot → IsOfNight night other → spot.num ≡ other.num → spot ≡ other

held_cases : (nights : List NightTracklets) (night : NightTracklets) (spot : SpotData) → IsHeld (nights ++ night ∷ []) spot → IsHeld nights spot ⊎ IsOfNight night spot
held_cases nights night spot w = elim (Contains-push_cases nights night w.0 w.1) [
  | inl c ↦ inl (w.0, c, w.2)
  | inr e ↦ inr (subst (λ n. IsOfNight n spot) (sym e) w.2)
]

one_number : (low high next : ℤ) (most more : ℕ) (nights : List NightTracklets) (night : NightTracklets) → AreUpTo low high most nights → IsNext high next most more night → (spot other : SpotData) → IsHeld nights spot ⊎ IsOfNight night spot → IsHeld nights other ⊎ IsOfNight night other → spot.num ≡ other.num → spot ≡ other
one_number low high next most more nights night a n spot other (inl p) (inl q) e = a.are.numbered spot other p q e
one_number low high next most more nights night a n spot other (inl p) (inr q) e = let v = (a.within spot p).num_to in let w = (n.within other q).num_from in absurd (omega (arith, v, w, e))
one_number low high next most more nights night a n spot other (inr p) (inl q) e = let v = (n.within spot p).num_from in let w = (a.within other q).num_to in absurd (omega (arith, v, w, e))
one_number low high next most more nights night a n spot other (inr p) (inr q) e = n.numbered spot other p q e

all_within : (low high next : ℤ) (most more : ℕ) (nights : List NightTracklets) (night : NightTracklets) → low ≤ℤ high → high ≤ℤ next → most ≤ more → AreUpTo low high most nights → IsNext high next most more night → (spot : SpotData) → IsHeld nights spot ⊎ IsOfNight night spot → IsWithin low next 0 more spot
all_within low high next most more nights night l h m a n spot (inl p) =
    let w = a.within spot p in
    let to = w.to in
    let num = w.num_to in
    record { from = w.from; to = omega (arith, ints, h, to); num_from = omega arith; num_to = omega (arith, m, num) }
all_within low high next most more nights night l h m a n spot (inr p) =
    let w = n.within spot p in
    let from = w.from in
    record { from = omega (arith, ints, l, from); to = w.to; num_from = omega arith; num_to = w.num_to }

before_next : (low high next : ℤ) (most more : ℕ) (nights : List NightTracklets) (night : NightTracklets) → AreUpTo low high most nights → IsNext high next most more night → All (λ other. All (IsNightBefore other) (night ∷ [])) nights
before_next low high next most more nights night a n = λ k d l. All-cons (IsNightBefore (get_or nights k d)) night [] (λ spot later p q.
    let v = (a.within spot (get_or nights k d, Contains-get_or nights k d l, p)).to in
    let w = (n.within later q).from in
    omega (arith, ints, v, w)) (All-nil (IsNightBefore (get_or nights k d)))

pub one_more_night : (low high next : ℤ) (most more : ℕ) (nights : List NightTracklets) (night : NightTracklets) → low ≤ℤ high → high ≤ℤ next → next ≤ℤ (low +ℤ arc_ticks) → most ≤ more → AreUpTo low high most nights → IsNext high next most more night → AreUpTo low next more (nights ++ night ∷ [])
one_more_night low high next most more nights night l h s m a n =
    let within : (spot : SpotData) → IsHeld (nights ++ night ∷ []) spot → IsWithin low next 0 more spot = λ spot w. all_within low high next most more nights night l h m a n spot (held_cases nights night spot w) in
    record {
      are = record {
        tracklets = All-append (All IsTracklet) nights (night ∷ []) a.are.tracklets (All-cons (All IsTracklet) night [] n.tracklets (All-nil (All IsTracklet)));
        follow = each_two_append IsNightBefore nights (night ∷ []) a.are.follow (λ i j d ij jl. absurd (omega arith)) (before_next low high next most more nights night a n);
        short = λ spot later p q.
            let v = (within spot p).from in
            let w = (within later q).to in
            omega (arith, ints, v, w, s);
        numbered = λ spot other p q. one_number low high next most more nights night a n spot other (held_cases nights night spot p) (held_cases nights night other q);
      };
      within = within;
    }

-- ---- a night of two spots
one_of_two : (s : SettingsData) (a b spot : SpotData) → IsOfNight (tracklets_of s (a ∷ b ∷ [])) spot → (a ≡ spot) ⊎ (b ≡ spot)
one_of_two s a b spot w = elim (front_or_rest a (b ∷ []) spot (of_night s (a ∷ b ∷ []) spot w)) [
  | inl e ↦ inl e
  | inr c ↦ elim (front_or_rest b [] spot c) [ inl e ↦ inr e | inr d ↦ absurd (in_none spot d) ]
]

pub day_of_two : (a b : SpotData) → (b.epoch -ℤ a.epoch) ≤ℤ pos 1000000 → EachTwo (λ (p q : SpotData). (q.epoch -ℤ p.epoch) ≤ℤ pos 1000000) (a ∷ b ∷ [])
day_of_two a b h = each_two_cons (λ (p q : SpotData). (q.epoch -ℤ p.epoch) ≤ℤ pos 1000000) a (b ∷ []) (All-cons (λ (q : SpotData). (q.epoch -ℤ a.epoch) ≤ℤ pos 1000000) b [] h (All-nil (λ (q : SpotData). (q.epoch -ℤ a.epoch) ≤ℤ pos 1000000))) (λ i j d ij jl. absurd (omega arith))

number_of_two : (a b spot other : SpotData) → a.num < b.num → (a ≡ spot) ⊎ (b ≡ spot) → (a ≡ other) ⊎ (b ≡ other) → spot.num ≡ other.num → spot ≡ other
number_of_two a b spot other l (inl p) (inl q) e = sym p ∙ q
number_of_two a b spot other l (inl p) (inr q) e = let v = ap (λ (t : SpotData). t.num) p in let w = ap (λ (t : SpotData). t.num) q in absurd (omega (arith, v, w, e, l))
number_of_two a b spot other l (inr p) (inl q) e = let v = ap (λ (t : SpotData). t.num) p in let w = ap (λ (t : SpotData). t.num) q in absurd (omega (arith, v, w, e, l))
number_of_two a b spot other l (inr p) (inr q) e = sym p ∙ q

pub night_of_two : (high next : ℤ) (most more : ℕ) (s : SettingsData) (a b : SpotData) → IsWithin high next most more a → IsWithin high next most more b → a.num < b.num → IsNext high next most more (tracklets_of s (a ∷ b ∷ []))
night_of_two high next most more s a b v w l = record {
  tracklets = all_tracklets s (a ∷ b ∷ []);
  within = λ spot p. elim (one_of_two s a b spot p) [ inl e ↦ subst (IsWithin high next most more) e v | inr e ↦ subst (IsWithin high next most more) e w ];
  numbered = λ spot other p q. number_of_two a b spot other l (one_of_two s a b spot p) (one_of_two s a b other q);
}

-- ---- and with their numbers
-- nights of numbers below `number` that rise, none of which has a tracklet twice
pub record AreMade (low high : ℤ) (most : ℕ) (number : ℤ) (nights : List NightData) : Type 0 where
  pub up_to : AreUpTo low high most (tracklets_of_each nights)
  pub rising : EachTwo (λ (one later : NightData). one.number <ℤ later.number) nights
  pub below : All (λ (night : NightData). night.number <ℤ number) nights
  pub different : All AreDistinct (tracklets_of_each nights)

pub no_nights : (low high : ℤ) (most : ℕ) (number : ℤ) → low ≤ℤ high → AreMade low high most number []
no_nights low high most number l = record {
  up_to = record {
    are = record {
      tracklets = All-nil (All IsTracklet);
      follow = λ i j d ij jl. absurd (omega arith);
      short = λ spot later p q. absurd (in_none p.0 p.1);
      numbered = λ spot other p q. absurd (in_none p.0 p.1);
    };
    within = λ spot p. absurd (in_none p.0 p.1);
  };
  rising = λ i j d ij jl. absurd (omega arith);
  below = All-nil (λ (night : NightData). night.number <ℤ number);
  different = All-nil AreDistinct;
}

-- a night with one tracklet or none has none twice
pub few_distinct : (night : NightTracklets) → length night ≤ 1 → AreDistinct night
few_distinct night l = λ i j d ij jl. absurd (omega (arith, l, ij, jl))

pub one_more_made : (low high next : ℤ) (most more : ℕ) (number after : ℤ) (nights : List NightData) (night : NightData) → low ≤ℤ high → high ≤ℤ next → next ≤ℤ (low +ℤ arc_ticks) → most ≤ more → AreMade low high most number nights → number <ℤ after → night.number ≡ number → IsNext high next most more night.tracklets → length night.tracklets ≤ 1 →
    AreMade low next more after (nights ++ night ∷ [])
one_more_made low high next most more number after nights night l h s m a later is n few =
    let each : tracklets_of_each (nights ++ night ∷ []) ≡ tracklets_of_each nights ++ night.tracklets ∷ [] = map-append (λ (night : NightData). night.tracklets) nights (night ∷ []) in
    record {
      up_to = subst (AreUpTo low next more) (sym each) (one_more_night low high next most more (tracklets_of_each nights) night.tracklets l h s m a.up_to n);
      rising = each_two_append (λ (one later : NightData). one.number <ℤ later.number) nights (night ∷ []) a.rising (λ i j d ij jl. absurd (omega arith))
          (λ k d kl. All-cons (λ (later : NightData). (get_or nights k d).number <ℤ later.number) night [] (subst (λ (n : ℤ). (get_or nights k d).number <ℤ n) (sym is) (a.below k d kl)) (All-nil (λ (later : NightData). (get_or nights k d).number <ℤ later.number)));
      below = All-append (λ (night : NightData). night.number <ℤ after) nights (night ∷ [])
          (λ k d kl. (let before : (get_or nights k d).number <ℤ number = a.below k d kl in omega (arith, ints, before, later)))
          (All-cons (λ (night : NightData). night.number <ℤ after) night [] (omega (arith, ints, is, later)) (All-nil (λ (night : NightData). night.number <ℤ after)));
      different = subst (All AreDistinct) (sym each) (All-append AreDistinct (tracklets_of_each nights) (night.tracklets ∷ []) a.different (All-cons AreDistinct night.tracklets [] (few_distinct night.tracklets few) (All-nil AreDistinct)));
    }
