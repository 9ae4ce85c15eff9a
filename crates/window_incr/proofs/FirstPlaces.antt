-- The first place that passes a test.
use Rattle.std.proofs.Common.{◌≡◌, ℕ, zero, suc, ◌+◌, ◌<◌, ◌≤◌, Bool, true, false, Option, Some, None, refl, sym, ap, ◌∙◌, subst, arith}
use Rattle.std.proofs.lemmas.Bool.{cases_Bool, cases_eq}
use Rattle.std.specs.List.{find, range_with_len}
use mathlib.Core.Logic.{inl, inr}
use Rattle.window_incr.specs.Asked.{first_place}

shifted : (a k : ℕ) → a + suc k ≡ (a + 1) + k
shifted a k = omega arith

from_place : (p : ℕ → Bool) (a n i : ℕ) → i < n → p (a + i) ≡ true → ((k : ℕ) → k < i → p (a + k) ≡ false) → find p (range_with_len a n) ≡ Some (a + i)
from_place p a zero i h t f = absurd (omega arith)
from_place p a (suc n) zero h t f = let e : a + 0 ≡ a = omega arith in let t' : p a ≡ true = rw e at t in rw (t', e) refl
from_place p a (suc n) (suc i) h t f =
    let e : a + 0 ≡ a = omega arith in
    let no : p a ≡ false = rw e at (f 0 (omega arith)) in
    let t' : p ((a + 1) + i) ≡ true = ap p (sym (shifted a i)) ∙ t in
    let rest = from_place p (a + 1) n i (omega arith) t' (λ k l. ap p (sym (shifted a k)) ∙ f (suc k) (omega arith)) in
    rw (no, shifted a i) rest

none_from : (p : ℕ → Bool) (a n : ℕ) → ((k : ℕ) → k < n → p (a + k) ≡ false) → find p (range_with_len a n) ≡ None
none_from p a zero f = refl
none_from p a (suc n) f =
    let e : a + 0 ≡ a = omega arith in
    let no : p a ≡ false = rw e at (f 0 (omega arith)) in
    rw no (none_from p (a + 1) n (λ k l. ap p (sym (shifted a k)) ∙ f (suc k) (omega arith)))

-- no place below n passes
abbrev pub NonePass : (ℕ → Bool) → ℕ → Type 0
NonePass p n = (k : ℕ) → k < n → p k ≡ false

pub none_yet : (p : ℕ → Bool) (i : ℕ) → i ≡ 0 → NonePass p i
none_yet p i e = λ k h. absurd (omega (arith, e, h))

pub none_more : (p : ℕ → Bool) (i : ℕ) → NonePass p i → p i ≡ false → NonePass p (i + 1)
none_more p i none fails k h = elim (cases_eq k i) [
  | inl e ↦ rw e fails
  | inr ne ↦ none k (omega (arith, h, ne))
]

from_zero : (p : ℕ → Bool) (k : ℕ) (b : Bool) → p k ≡ b → p (0 + k) ≡ b
from_zero p k b h = let e : 0 + k ≡ k = omega arith in rw e h

pub place_found : (p : ℕ → Bool) (n i : ℕ) → i < n → p i ≡ true → NonePass p i → first_place p n ≡ Some i
place_found p n i h t none =
    let e : 0 + i ≡ i = omega arith in
    from_place p 0 n i h (from_zero p i true t) (λ k l. from_zero p k false (none k l)) ∙ ap (λ (k : ℕ). Some k) e

pub place_missing : (p : ℕ → Bool) (n m : ℕ) → n ≤ m → NonePass p m → first_place p n ≡ None
place_missing p n m e none = none_from p 0 n (λ k l. from_zero p k false (none k (omega (arith, e, l))))

never_from : (p : ℕ → Bool) (a n k : ℕ) → find p (range_with_len a n) ≡ None → k < n → p (a + k) ≡ true → ⊥
never_from p a zero k e h t = absurd (omega arith)
never_from p a (suc n) zero e h t =
    let same : a + 0 ≡ a = omega arith in
    let here : p a ≡ true = rw same at t in
    let first : Some a ≡ None = rw here at e in
    cc
never_from p a (suc n) (suc k) e h t = elim (cases_Bool (p a)) [
  | inl t' ↦ (let first : Some a ≡ None = rw t' at e in cc)
  | inr f ↦ never_from p (a + 1) n k (rw f at e) (omega arith) (ap p (sym (shifted a k)) ∙ t)
]

-- where a search finds none, no place passes
pub never_passes : (p : ℕ → Bool) (n k : ℕ) → first_place p n ≡ None → k < n → p k ≡ true → ⊥
never_passes p n k e h t = never_from p 0 n k e h (from_zero p k true t)
