-- Places put together stay rising, and so do the spots at them.
use Rattle.std.proofs.Common.{◌≡◌, ℕ, ◌<◌, ◌≤◌, pos, true, false, List, [], ◌∷◌, map, length, take, get_or, refl, sym, ap, ◌∙◌, arith}
use Rattle.std.specs.List.{All, Contains, insert}
use Rattle.std.specs.Prelude.{nat_eq, nat_lt}
use Rattle.std.proofs.lemmas.Bool.{cases_order, lt-ltb, le-ltb, eq-eqb}
use Rattle.std.proofs.lemmas.List.{get_or-map, get_or_default}
use Rattle.std.proofs.lemmas.List.Elements.{All-cons, All-head, All-nil, All-tail, All-weaker}
use Prim.Native.Nat.{zero, suc}
use mathlib.Core.Logic.{inl, inr}
use Rattle.line_fit.proofs.Twos.{by_place, first_of_two, rest_of_two}
use Rattle.sky_math.specs.Lists.{EachTwo}
use Rattle.sky_units.specs.SpotData.{SpotData}
use Rattle.sky_units.proofs.SpotsAtPlaces.{spots_are, spots_length}
use Rattle.sky_units.specs.AtPlaces.{spots_at}
use Rattle.collapse.specs.Groups.{with_place, with_pair, ArePlaces, IsPairBelow}

-- ---- the three cases of a further place
pub past : (x p : ℕ) (rest : List ℕ) → x < p → with_place (x ∷ rest) p ≡ x ∷ with_place rest p
past x p rest h = let t : nat_lt x p ≡ true = lt-ltb x p h in rw t refl

pub there : (x p : ℕ) (rest : List ℕ) → x ≡ p → with_place (x ∷ rest) p ≡ x ∷ rest
there x p rest h =
    let t : nat_lt x p ≡ false = le-ltb x p (omega arith) in
    let e : nat_eq x p ≡ true = eq-eqb x p h in
    rw (t, e) refl

pub before : (x p : ℕ) (rest : List ℕ) → p < x → with_place (x ∷ rest) p ≡ p ∷ x ∷ rest
before x p rest h =
    let t : nat_lt x p ≡ false = le-ltb x p (omega arith) in
    let e : nat_eq x p ≡ false = differ x p h in
    rw (t, e) refl
  where
    differ : (x p : ℕ) → p < x → nat_eq x p ≡ false
    differ x p h = grind arith

-- ---- as code puts it in
pub found_at : (xs : List ℕ) (p at : ℕ) → at < length xs → All (λ x. x < p) (take at xs) → get_or xs at 0 ≡ p → xs ≡ with_place xs p
found_at [] p at h all e = absurd (omega arith)
found_at (x ∷ rest) p zero h all e = sym (there x p rest e)
found_at (x ∷ rest) p (suc at) h all e =
    let l : x < p = All-head (λ x. x < p) x (take at rest) all in
    let i = found_at rest p at (omega arith) (All-tail (λ x. x < p) x (take at rest) all) e in
    rw (past x p rest l) (ap (λ (xs : List ℕ). x ∷ xs) i)

pub put_at : (xs : List ℕ) (p at : ℕ) → at ≤ length xs → All (λ x. x < p) (take at xs) → (at < length xs → p < get_or xs at 0) → insert xs at p ≡ with_place xs p
put_at [] p zero h all after = refl
put_at [] p (suc at) h all after = absurd (omega arith)
put_at (x ∷ rest) p zero h all after = sym (before x p rest (after (omega arith)))
put_at (x ∷ rest) p (suc at) h all after =
    let l : x < p = All-head (λ x. x < p) x (take at rest) all in
    let i = put_at rest p at (omega arith) (All-tail (λ x. x < p) x (take at rest) all) (λ m. after (omega arith)) in
    rw (past x p rest l) (ap (λ (xs : List ℕ). x ∷ xs) i)

-- ---- what rising places keep
pub all_with_place : (P : ℕ → Type 0) (xs : List ℕ) (p : ℕ) → P p → All P xs → All P (with_place xs p)
all_with_place P [] p h all = All-cons P p [] h (All-nil P)
all_with_place P (x ∷ rest) p h all = elim (cases_order x p) as (λ _. All P (with_place (x ∷ rest) p)) [
  | inl e ↦ rw (there x p rest e) all
  | inr (inl l) ↦ rw (past x p rest l) (All-cons P x (with_place rest p) (All-head P x rest all) (all_with_place P rest p h (All-tail P x rest all)))
  | inr (inr l) ↦ rw (before x p rest l) (All-cons P p (x ∷ rest) h all)
]

rising_with_place : (xs : List ℕ) (p : ℕ) → EachTwo (λ i j. i < j) xs → EachTwo (λ i j. i < j) (with_place xs p)
rising_with_place [] p h = by_place (λ i j. i < j) p [] (All-nil (λ j. p < j)) h
rising_with_place (x ∷ rest) p h =
    let first = first_of_two (λ i j. i < j) x rest h in
    let others = rest_of_two (λ i j. i < j) x rest h in
    elim (cases_order x p) as (λ _. EachTwo (λ i j. i < j) (with_place (x ∷ rest) p)) [
      | inl e ↦ rw (there x p rest e) h
      | inr (inl l) ↦ rw (past x p rest l) (by_place (λ i j. i < j) x (with_place rest p) (all_with_place (λ j. x < j) rest p l first) (rising_with_place rest p others))
      | inr (inr l) ↦ rw (before x p rest l) (by_place (λ i j. i < j) p (x ∷ rest) (All-cons (λ j. p < j) x rest l (All-weaker (λ j. x < j) (λ j. p < j) (λ j m. omega arith) rest first)) h)
    ]

pub places_with_place : (n : ℕ) (xs : List ℕ) (p : ℕ) → p < n → ArePlaces n xs → ArePlaces n (with_place xs p)
places_with_place n xs p h a = record { within = all_with_place (λ q. q < n) xs p h a.within; rising = rising_with_place xs p a.rising }

pub places_with_pair : (n : ℕ) (xs : List ℕ) (pair : ℕ × ℕ) → IsPairBelow n pair → ArePlaces n xs → ArePlaces n (with_pair xs pair)
places_with_pair n xs pair h a = places_with_place n (with_place xs pair.0) pair.1 h.1 (places_with_place n xs pair.0 (let l = h.0 in let m = h.1 in omega arith) a)

pub places_of_pair : (n : ℕ) (pair : ℕ × ℕ) → IsPairBelow n pair → ArePlaces n (pair.0 ∷ pair.1 ∷ [])
places_of_pair n pair h =
    let l = h.0 in
    let m = h.1 in
    record {
      within = All-cons (λ q. q < n) pair.0 (pair.1 ∷ []) (omega arith) (All-cons (λ q. q < n) pair.1 [] h.1 (All-nil (λ q. q < n)));
      rising = by_place (λ i j. i < j) pair.0 (pair.1 ∷ []) (All-cons (λ j. pair.0 < j) pair.1 [] h.0 (All-nil (λ j. pair.0 < j))) (by_place (λ i j. i < j) pair.1 [] (All-nil (λ j. pair.1 < j)) (λ i j d ij jn. absurd (omega arith)));
    }

some_with_place : (xs : List ℕ) (p : ℕ) → 0 < length (with_place xs p)
some_with_place [] p = omega arith
some_with_place (x ∷ rest) p = elim (cases_order x p) as (λ _. 0 < length (with_place (x ∷ rest) p)) [
  | inl e ↦ rw (there x p rest e) (omega arith)
  | inr (inl l) ↦ rw (past x p rest l) (omega arith)
  | inr (inr l) ↦ rw (before x p rest l) (omega arith)
]

-- ---- the spots at places
-- what stands for a spot where there is none
pub no_spot : SpotData
no_spot = record { num = 0; epoch = pos 0; ra = pos 0; dec = pos 0 }

pub two_at : (R : SpotData → SpotData → Type 0) (spots : List SpotData) (places : List ℕ) → ArePlaces (length spots) places → EachTwo R spots → EachTwo R (spots_at spots places)
two_at R spots places a each = λ i j d ij jn.
    let e : spots_at spots places ≡ map (λ p. get_or spots p d) places = spots_are spots places d a.within in
    let n : j < length places = omega (arith, spots_length spots places a.within d) in
    let x : get_or (map (λ p. get_or spots p d) places) i d ≡ get_or spots (get_or places i 0) d = get_or-map (λ p. get_or spots p d) places i 0 d (omega arith) in
    let y : get_or (map (λ p. get_or spots p d) places) j d ≡ get_or spots (get_or places j 0) d = get_or-map (λ p. get_or spots p d) places j 0 d n in
    rw (e, x, y) (each (get_or places i 0) (get_or places j 0) d (a.rising i j 0 ij n) (a.within j 0 n))

pub some_together : (spots : List SpotData) (group : List ℕ) (pair : ℕ × ℕ) (d : SpotData) → ArePlaces (length spots) (with_pair group pair) → 0 < length (spots_at spots (with_pair group pair))
some_together spots group pair d a = omega (arith, spots_length spots (with_pair group pair) a.within d, some_with_place (with_place group pair.0) pair.1)

-- ---- what is in the places put together
-- a place stands somewhere among others
pub record StandsIn (places : List ℕ) (p : ℕ) : Type 0 where
  pub at : ℕ
  pub within : at < length places
  pub is : get_or places at 0 ≡ p

pub stands_with_place : (xs : List ℕ) (p : ℕ) → StandsIn (with_place xs p) p
stands_with_place [] p = record { at = 0; within = omega arith; is = refl }
stands_with_place (x ∷ rest) p = elim (cases_order x p) as (λ _. StandsIn (with_place (x ∷ rest) p) p) [
  | inl e ↦ rw (there x p rest e) (record { at = 0; within = omega arith; is = e })
  | inr (inl l) ↦ let i = stands_with_place rest p in rw (past x p rest l) (record { at = suc i.at; within = (let w = i.within in omega arith); is = i.is })
  | inr (inr l) ↦ rw (before x p rest l) (record { at = 0; within = omega arith; is = refl })
]

stands_later : (rest : List ℕ) (p x q at : ℕ) → ((at : ℕ) → at < length rest → get_or rest at 0 ≡ q → StandsIn (with_place rest p) q) → at < length (x ∷ rest) → get_or (x ∷ rest) at 0 ≡ q → StandsIn (x ∷ with_place rest p) q
stands_later rest p x q zero still w e = record { at = 0; within = omega arith; is = e }
stands_later rest p x q (suc at) still w e = let i = still at (omega arith) e in record { at = suc i.at; within = (let v = i.within in omega arith); is = i.is }

pub stands_still : (xs : List ℕ) (p q at : ℕ) → at < length xs → get_or xs at 0 ≡ q → StandsIn (with_place xs p) q
stands_still [] p q at w e = absurd (omega arith)
stands_still (x ∷ rest) p q at w e = elim (cases_order x p) as (λ _. StandsIn (with_place (x ∷ rest) p) q) [
  | inl f ↦ rw (there x p rest f) (record { at = at; within = w; is = e })
  | inr (inl l) ↦ rw (past x p rest l) (stands_later rest p x q at (λ k v f. stands_still rest p q k v f) w e)
  | inr (inr l) ↦ rw (before x p rest l) (record { at = suc at; within = omega arith; is = e })
]

-- the spot at a place among places
pub spot_at : (spots : List SpotData) (places : List ℕ) (k : ℕ) (d : SpotData) → All (λ p. p < length spots) places → k < length places → get_or (spots_at spots places) k d ≡ get_or spots (get_or places k 0) d
spot_at spots places k d within h =
    let e : spots_at spots places ≡ map (λ p. get_or spots p d) places = spots_are spots places d within in
    rw e (get_or-map (λ p. get_or spots p d) places k 0 d h)

-- of two places that stand among rising ones the lower one stands first
pub stand_in_order : (places : List ℕ) (p q : ℕ) (a : StandsIn places p) (b : StandsIn places q) → EachTwo (λ i j. i < j) places → p < q → a.at < b.at
stand_in_order places p q a b rising h = elim (cases_order a.at b.at) as (λ _. a.at < b.at) [
  | inl e ↦ let x : p ≡ q = sym a.is ∙ ap (λ (k : ℕ). get_or places k 0) e ∙ b.is in absurd (omega arith)
  | inr (inl l) ↦ l
  | inr (inr g) ↦ let r = rising b.at a.at 0 g a.within in let r' = rw (a.is, b.is) at r in absurd (omega arith)
]

-- a place that is there changes nothing
with_same_at : (xs : List ℕ) (p k : ℕ) → EachTwo (λ i j. i < j) xs → k < length xs → get_or xs k p ≡ p → with_place xs p ≡ xs
with_same_at [] p k h kl e = absurd (omega arith)
with_same_at (x ∷ rest) p zero h kl e = there x p rest e
with_same_at (x ∷ rest) p (suc k) h kl e =
    let l : x < get_or rest k p = first_of_two (λ i j. i < j) x rest h k p (omega arith) in
    let m : x < p = rw e at l in
    past x p rest m ∙ ap (λ (xs : List ℕ). x ∷ xs) (with_same_at rest p k (rest_of_two (λ i j. i < j) x rest h) (omega arith) e)

pub pair_same : (xs : List ℕ) (pair : ℕ × ℕ) → EachTwo (λ i j. i < j) xs → Contains xs pair.0 → Contains xs pair.1 → with_pair xs pair ≡ xs
pair_same xs pair h a b = ap (λ (ys : List ℕ). with_place ys pair.1) (with_same_at xs pair.0 a.0 h a.1 a.2) ∙ with_same_at xs pair.1 b.0 h b.1 b.2

pub stands_of : (xs : List ℕ) (p : ℕ) → Contains xs p → StandsIn xs p
stands_of xs p c = record { at = c.0; within = c.1; is = get_or_default xs c.0 0 p c.1 ∙ c.2 }

pub among_of : (xs : List ℕ) (p : ℕ) → StandsIn xs p → Contains xs p
among_of xs p s = (s.at, s.within, get_or_default xs s.at p 0 s.within ∙ s.is)

-- the places of a group stay
pub among_still : (xs : List ℕ) (pair : ℕ × ℕ) (p : ℕ) → Contains xs p → Contains (with_pair xs pair) p
among_still xs pair p c =
    let s = stands_of xs p c in
    let t = stands_still xs pair.0 p s.at s.within s.is in
    among_of (with_pair xs pair) p (stands_still (with_place xs pair.0) pair.1 p t.at t.within t.is)
