-- Among finitely many things one is the greatest by a total and transitive relation.
use Rattle.std.proofs.Common.{◌≡◌, ℕ, ◌<◌, subst, arith}
use Rattle.std.proofs.lemmas.Bool.{cases_lt}
use Prim.Native.Nat.{zero, suc}
use mathlib.Core.Logic.{◌⊎◌, inl, inr}

-- total and transitive on the things that are fine
pub record IsOrder {A : Type 0} (R : A → A → Type 0) (Fine : A → Type 0) : Type 0 where
  pub same : (a : A) → R a a
  pub total : (a b : A) → Fine a → Fine b → R a b ⊎ R b a
  pub chain : (a b c : A) → Fine a → Fine b → Fine c → R a b → R b c → R a c

-- f `top` is the greatest of f 0 .. f n
pub record Greatest {A : Type 0} (R : A → A → Type 0) (f : ℕ → A) (n : ℕ) : Type 0 where
  pub top : ℕ
  pub within : top < suc n
  pub upper : (k : ℕ) → k < suc n → R (f k) (f top)

pub greatest : {A : Type 0} (R : A → A → Type 0) (Fine : A → Type 0) → IsOrder R Fine → (f : ℕ → A) (n : ℕ) → ((i : ℕ) → i < suc n → Fine (f i)) → Greatest R f n
greatest R Fine o f zero fine = record { top = zero; within = omega arith; upper = λ k h. let e : zero ≡ k = omega arith in subst (λ (m : ℕ). R (f m) (f zero)) e (o.same (f zero)) }
greatest R Fine o f (suc n) fine =
    let before = greatest R Fine o f n (λ i h. fine i (omega arith)) in
    let i : ℕ = before.top in
    let within : i < suc n = before.within in
    elim (o.total (f i) (f (suc n)) (fine i (omega arith)) (fine (suc n) (omega arith))) as (λ _. Greatest R f (suc n)) [
      | inl r ↦ record {
        top = suc n;
        within = omega arith;
        upper = λ k h. elim (cases_lt k (suc n)) as (λ _. R (f k) (f (suc n))) [
          | inl l ↦ o.chain (f k) (f i) (f (suc n)) (fine k h) (fine i (omega arith)) (fine (suc n) (omega arith)) (before.upper k l) r
          | inr l ↦ let e : suc n ≡ k = omega arith in subst (λ (m : ℕ). R (f m) (f (suc n))) e (o.same (f (suc n)))
        ];
      }
      | inr r ↦ record {
        top = i;
        within = omega arith;
        upper = λ k h. elim (cases_lt k (suc n)) as (λ _. R (f k) (f i)) [
          | inl l ↦ before.upper k l
          | inr l ↦ let e : suc n ≡ k = omega arith in subst (λ (m : ℕ). R (f m) (f i)) e r
        ];
      }
    ]

-- g `left` `right` is the greatest of the g k l with k < l < 2 + n
pub record GreatestPair {A : Type 0} (R : A → A → Type 0) (g : ℕ → ℕ → A) (n : ℕ) : Type 0 where
  pub left : ℕ
  pub right : ℕ
  pub rising : left < right
  pub within : right < suc (suc n)
  pub upper : (k l : ℕ) → k < l → l < suc (suc n) → R (g k l) (g left right)

pub greatest_pair : {A : Type 0} (R : A → A → Type 0) (Fine : A → Type 0) → IsOrder R Fine → (g : ℕ → ℕ → A) (n : ℕ) → ((i j : ℕ) → i < j → j < suc (suc n) → Fine (g i j)) → GreatestPair R g n
greatest_pair R Fine o g zero fine = record {
  left = zero;
  right = suc zero;
  rising = omega arith;
  within = omega arith;
  upper = λ k l h m.
      let e : zero ≡ k = omega arith in
      let e' : suc zero ≡ l = omega arith in
      subst (λ (u : ℕ). R (g u l) (g zero (suc zero))) e (subst (λ (u : ℕ). R (g zero u) (g zero (suc zero))) e' (o.same (g zero (suc zero))));
}
greatest_pair R Fine o g (suc n) fine =
    let row = greatest R Fine o (λ (i : ℕ). g i (suc (suc n))) (suc n) (λ i h. fine i (suc (suc n)) h (omega arith)) in
    let before = greatest_pair R Fine o g n (λ i j h m. fine i j h (omega arith)) in
    let i : ℕ = before.left in
    let j : ℕ = before.right in
    let ij : i < j = before.rising in
    let jn : j < suc (suc n) = before.within in
    let r : ℕ = row.top in
    let rn : r < suc (suc n) = row.within in
    elim (o.total (g i j) (g r (suc (suc n))) (fine i j ij (omega arith)) (fine r (suc (suc n)) rn (omega arith))) as (λ _. GreatestPair R g (suc n)) [
      | inl t ↦ record {
        left = r;
        right = suc (suc n);
        rising = rn;
        within = omega arith;
        upper = λ k l h m. elim (cases_lt l (suc (suc n))) as (λ _. R (g k l) (g r (suc (suc n)))) [
          | inl s ↦ o.chain (g k l) (g i j) (g r (suc (suc n))) (fine k l h m) (fine i j ij (omega arith)) (fine r (suc (suc n)) rn (omega arith)) (before.upper k l h s) t
          | inr s ↦ let e : suc (suc n) ≡ l = omega arith in subst (λ (u : ℕ). R (g k u) (g r (suc (suc n)))) e (row.upper k (omega arith))
        ];
      }
      | inr t ↦ record {
        left = i;
        right = j;
        rising = ij;
        within = omega arith;
        upper = λ k l h m. elim (cases_lt l (suc (suc n))) as (λ _. R (g k l) (g i j)) [
          | inl s ↦ before.upper k l h s
          | inr s ↦ let e : suc (suc n) ≡ l = omega arith in subst (λ (u : ℕ). R (g k u) (g i j)) e (o.chain (g k (suc (suc n))) (g r (suc (suc n))) (g i j) (fine k (suc (suc n)) (omega arith) (omega arith)) (fine r (suc (suc n)) rn (omega arith)) (fine i j ij (omega arith)) (row.upper k (omega arith)) t)
        ];
      }
    ]
