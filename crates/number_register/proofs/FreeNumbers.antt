-- The free numbers: which is the least, and what taking one and letting one go leave.
use Rattle.std.proofs.Common.{◌≡◌, ℕ, ◌+◌, ◌<◌, ◌==◌, nat_lt, true, false, not, cond, Option, Some, None, List, [], ◌∷◌, length, get_or, set, refl, sym, ap, subst, ◌∙◌, arith, IsSome, inl, inr, ◌⊎◌, eq-eqb}
use Rattle.std.specs.Option.{is_some}
use Rattle.std.specs.List.{sum_by}
use Rattle.std.specs.List.Sorted.{IsPermutation}
use Rattle.std.specs.declared.cmp.Ordering.{Ordering}
use Rattle.std.specs.Ordering.{nat_cmp, is_lt}
use Rattle.std.specs.BinaryHeap.{IsHeap, IsUpperBound}
use Rattle.std.specs.declared.cmp.Reverse.{Reverse}
use Rattle.std.proofs.Math.ListN.{length-set}
use Rattle.std.proofs.lemmas.List.Sums.{sum_by-cons}
use Rattle.std.proofs.lemmas.List.Sorted.{sum_by-IsPermutation, length_permutation}
use Rattle.std.proofs.lemmas.Bool.{cases_eq, cases_lt, cases_Bool, lt-ltb, ne_eqb, ltb-true, and_parts, and_right}
use Rattle.std.proofs.lemmas.Bool.Decides.{nat_tests}
use Rattle.miti_text.specs.Observation.{Observation}
use Rattle.number_register.specs.Numbering.{IsLeastFree, slot, put_at, is_free, AreFree}
use Rattle.number_register.proofs.Slots.{slot-within, slot-set, count-clear, count-put}

abbrev Slots : Type 0
Slots = List (Option Observation)

abbrev Free : Type 0
Free = List (Reverse ℕ)

abbrev cmp : Reverse ℕ → Reverse ℕ → Ordering
cmp x y = nat_cmp y.0 x.0

-- how often k stands in the heap
abbrev often : ℕ → Free → ℕ
often k free = sum_by (λ x. cond (x.0 == k) 1 0) free

not_below : (a b k : ℕ) → is_lt (nat_cmp a b) ≡ false → k < b → (a == k) ≡ false
not_below a b k h l = grind (arith, nat_tests)

none_below_top : (x : Reverse ℕ) (k : ℕ) (free : Free) → k < x.0 → IsUpperBound cmp x free → often k free ≡ 0
none_below_top x k [] l h = refl
none_below_top x k (y ∷ ys) l h = rw (not_below y.0 x.0 k h.0 l) (none_below_top x k ys l h.1)

empty : (held : Option Observation) → not (is_some held) ≡ true → held ≡ None
empty None h = refl
empty (Some d) h = cc

free_parts : (slots : Slots) (k : ℕ) → is_free slots k ≡ true → (k < length slots) × (slot slots k ≡ None)
free_parts slots k h =
    let p = and_parts (nat_lt k (length slots)) (not (is_some (slot slots k))) h in
    (ltb-true k (length slots) p.0, empty (slot slots k) p.1)

is_free-none : (slots : Slots) (k : ℕ) → k < length slots → slot slots k ≡ None → is_free slots k ≡ true
is_free-none slots k h e = rw (lt-ltb k (length slots) h, e) refl

is_free-some : (slots : Slots) (k : ℕ) (d : Observation) → slot slots k ≡ Some d → is_free slots k ≡ false
is_free-some slots k d e = and_right (nat_lt k (length slots)) (not (is_some (slot slots k))) (rw e refl)

-- x leaves the heap
left : (k : ℕ) (x : Reverse ℕ) (free rest : Free) → IsPermutation free (x ∷ rest) → cond (x.0 == k) 1 0 + often k rest ≡ often k free
left k x free rest p = sym (sum_by-cons (λ y. cond (y.0 == k) 1 0) x rest) ∙ sum_by-IsPermutation (λ y. cond (y.0 == k) 1 0) free (x ∷ rest) p

-- ---- a number of the heap

often_after : (x : Reverse ℕ) (free rest : Free) → IsPermutation free (x ∷ rest) → 0 < often x.0 free
often_after x free rest p =
    let here : (x.0 == x.0) ≡ true = eq-eqb x.0 x.0 refl in
    let l = rw here at (left x.0 x free rest p) in
    omega (arith, l)

pub often_first : (x : Reverse ℕ) (free : Free) → 0 < length free → x ≡ get_or free 0 x → 0 < often x.0 free
often_first x [] h e = absurd (omega arith)
often_first x (y ∷ ys) h e =
    let here : (y.0 == x.0) ≡ true = eq-eqb y.0 x.0 (ap (λ (z : Reverse ℕ). z.0) (sym e)) in
    let l : often x.0 (y ∷ ys) ≡ 1 + often x.0 ys = sum_by-cons (λ z. cond (z.0 == x.0) 1 0) y ys ∙ rw here refl in
    omega (arith, l)

top_is_free : (slots : Slots) (x : Reverse ℕ) (free : Free) → AreFree slots free → 0 < often x.0 free → is_free slots x.0 ≡ true
top_is_free slots x free a some = elim (cases_Bool (is_free slots x.0)) [
  | inl t ↦ t
  | inr f ↦ let e = rw f at (a.each_once x.0) in absurd (omega (arith, some, e))
]

pub some_or : (held : Option Observation) → (held ≡ None) ⊎ IsSome held
some_or None = inl refl
some_or (Some d) = inr refl

pub least_is : (slots : Slots) (x : Reverse ℕ) (free : Free) → AreFree slots free → IsUpperBound cmp x free → 0 < often x.0 free → IsLeastFree (slot slots) x.0
least_is slots x free a top some =
    let here = free_parts slots x.0 (top_is_free slots x free a some) in
    record {
      is_free = here.1;
      lower_are_taken = λ k l. elim (some_or (slot slots k)) [
        | inl none ↦
            let e = rw (is_free-none slots k (omega (arith, here.0)) none) at (a.each_once k) in
            let z = none_below_top x k free l top in
            absurd (omega (arith, e, z))
        | inr some ↦ some
      ];
    }

pub top_within : (slots : Slots) (x : Reverse ℕ) (free : Free) → AreFree slots free → 0 < often x.0 free → x.0 < length slots
top_within slots x free a some = (free_parts slots x.0 (top_is_free slots x free a some)).0

clash : (held : Option Observation) → held ≡ None → IsSome held → ⊥
clash None e h = cc
clash (Some d) e h = cc

-- one number is the least free one
pub same_least : (at : ℕ → Option Observation) (n m : ℕ) → IsLeastFree at n → IsLeastFree at m → n ≡ m
same_least at n m a b = elim (cases_lt n m) [
  | inl h ↦ absurd (clash (at n) a.is_free (b.lower_are_taken n h))
  | inr ge ↦ elim (cases_lt m n) [
    | inl h ↦ absurd (clash (at m) b.is_free (a.lower_are_taken m h))
    | inr le ↦ omega (arith, ge, le)
  ]
]

-- whether a number is free, where its slot and the length are as before
same_free : (xs ys : Slots) (k : ℕ) → length ys ≡ length xs → slot ys k ≡ slot xs k → is_free ys k ≡ is_free xs k
same_free xs ys k l e = rw (l, e) refl

pub put_in_place : (slots : Slots) (n : ℕ) (held : Option Observation) → n < length slots → put_at slots n held ≡ set slots n held
put_in_place slots n held h = rw (lt-ltb n (length slots) h) refl

rest_is_free : (slots : Slots) (x : Reverse ℕ) (free rest : Free) → AreFree slots free → IsPermutation free (x ∷ rest) → IsHeap cmp rest → (d : Observation) → AreFree (put_at slots x.0 (Some d)) rest
rest_is_free slots x free rest a p heap d =
    let here = free_parts slots x.0 (top_is_free slots x free a (often_after x free rest p)) in
    let h : x.0 < length slots = here.0 in
    let same : length (set slots x.0 (Some d)) ≡ length slots = length-set slots x.0 (Some d) in
    let more = count-put slots x.0 d here.1 (omega (arith, h)) in
    let e = put_in_place slots x.0 (Some d) h in
    let more' = rw e at more in
    let len : length (x ∷ rest) ≡ length free = length_permutation free (x ∷ rest) p in
    let all : AreFree (set slots x.0 (Some d)) rest = record {
      order = heap;
      each_once = λ k. elim (cases_eq k x.0) [
        | inl eq ↦
            let there : slot (set slots x.0 (Some d)) k ≡ Some d = slot-set slots x.0 (Some d) h k ∙ (rw (eq-eqb k x.0 eq) refl) in
            let l = rw (eq-eqb x.0 k (sym eq)) at (left k x free rest p) in
            let was : is_free slots k ≡ true = rw eq (top_is_free slots x free a (often_after x free rest p)) in
            let f = rw was at (a.each_once k) in
            rw (is_free-some (set slots x.0 (Some d)) k d there) (omega (arith, l, f))
        | inr ne ↦
            let there : slot (set slots x.0 (Some d)) k ≡ slot slots k = slot-set slots x.0 (Some d) h k ∙ (rw (ne_eqb k x.0 ne) refl) in
            let l = rw (ne_eqb x.0 k (λ q. ne (sym q))) at (left k x free rest p) in
            rw (same_free slots (set slots x.0 (Some d)) k same there) (omega (arith, l, a.each_once k))
      ];
      total = omega (arith, a.total, len, same, more');
    } in
    rw e all

-- the least free number n leaves the heap
pub popped : (slots : Slots) (x : Reverse ℕ) (free rest : Free) (n : ℕ) → AreFree slots free → IsLeastFree (slot slots) n → IsPermutation free (x ∷ rest) → IsHeap cmp rest × IsUpperBound cmp x free
    → (n < length slots) × ((d : Observation) → AreFree (put_at slots n (Some d)) rest)
popped slots x free rest n a least p heap =
    let some = often_after x free rest p in
    let same : x.0 ≡ n = same_least (slot slots) x.0 n (least_is slots x free a heap.1 some) least in
    let within = top_within slots x free a some in
    (omega (arith, same, within), λ d. subst (λ (m : ℕ). AreFree (put_at slots m (Some d)) rest) same (rest_is_free slots x free rest a p heap.0 d))

-- n joins the heap
joined : (k n : ℕ) (free more : Free) → IsPermutation (record { 0 = n } ∷ free) more → often k more ≡ cond (n == k) 1 0 + often k free
joined k n free more p = sum_by-IsPermutation (λ y. cond (y.0 == k) 1 0) (record { 0 = n } ∷ free) more p ∙ sum_by-cons (λ y. cond (y.0 == k) 1 0) (record { 0 = n }) free

-- n is let go
pub freed : (slots : Slots) (n : ℕ) (d : Observation) (free more : Free) → AreFree slots free → slot slots n ≡ Some d → IsPermutation (record { 0 = n } ∷ free) more → IsHeap cmp more → AreFree (set slots n None) more
freed slots n d free more a e p heap =
    let h : n < length slots = slot-within slots n d e in
    let same : length (set slots n None) ≡ length slots = length-set slots n None in
    let fewer = count-clear slots n d e in
    let len = length_permutation (record { 0 = n } ∷ free) more p in
    record {
      order = heap;
      each_once = λ k. elim (cases_eq k n) [
        | inl eq ↦
            let there : slot (set slots n None) k ≡ None = slot-set slots n None h k ∙ (rw (eq-eqb k n eq) refl) in
            let l = rw (eq-eqb n k (sym eq)) at (joined k n free more p) in
            let was : slot slots k ≡ Some d = rw eq e in
            let f = rw (is_free-some slots k d was) at (a.each_once k) in
            rw (is_free-none (set slots n None) k (omega (arith, same, h, eq)) there) (omega (arith, l, f))
        | inr ne ↦
            let there : slot (set slots n None) k ≡ slot slots k = slot-set slots n None h k ∙ (rw (ne_eqb k n ne) refl) in
            let l = rw (ne_eqb n k (λ q. ne (sym q))) at (joined k n free more p) in
            rw (same_free slots (set slots n None) k same there) (omega (arith, l, a.each_once k))
      ];
      total = omega (arith, a.total, len, same, fewer);
    }

-- there is room for the number that is let go
pub room_for : (slots : Slots) (n : ℕ) (d : Observation) (free : Free) → AreFree slots free → slot slots n ≡ Some d → length free < length slots
room_for slots n d free a e = omega (arith, a.total, count-clear slots n d e)
