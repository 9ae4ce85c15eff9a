-- The first choice that isn't admitted, found place by place.
use Rattle.std.proofs.Common.{◌≡◌, ℕ, ◌+◌, ◌<◌, ◌≤◌, List, [], ◌∷◌, refl, sym, subst, ap, suc, arith}
use Rattle.std.proofs.lemmas.Bool.{cases_lt, cases_order}
use Rattle.std.specs.Cmp.{nat_cmp_is}
use Rattle.std.specs.Ordering.{nat_cmp}
use Rattle.std.specs.Prelude.{MatchOption, Option, Some, None}
use Rattle.std.specs.declared.cmp.Ordering.TheVariants.{Less, Equal, Greater}
use mathlib.Core.Logic.{◌⊎◌, inl, inr}
use Rattle.refusal_cert.specs.Certificates.{AllAdmitted, ComesBefore, IsChoice, IsFirstRefused}

-- ---- the order of two choices
greater_is_not_less : Greater ≡ Less → ⊥
greater_is_not_less e = cc

equal_is_not_less : Equal ≡ Less → ⊥
equal_is_not_less e = cc

-- a choice that comes before another one begins with an earlier place, or with the same one and the rest comes before
pub before_cases : (p q : ℕ) (ps qs : List ℕ) → ComesBefore (p ∷ ps) (q ∷ qs) → (p < q) ⊎ ((p ≡ q) × ComesBefore ps qs)
before_cases p q ps qs h = elim (cases_order p q) as (λ _. (p < q) ⊎ ((p ≡ q) × ComesBefore ps qs)) [
  | inl e ↦
      let same : nat_cmp p q ≡ Equal = sym (nat_cmp_is p q Equal e) in
      inr (e, rw same at h)
  | inr c ↦ elim c as (λ _. (p < q) ⊎ ((p ≡ q) × ComesBefore ps qs)) [
    | inl l ↦ inl l
    | inr l ↦
        let more : nat_cmp p q ≡ Greater = sym (nat_cmp_is p q Greater l) in
        absurd (greater_is_not_less (rw more at h))
  ]
]

-- ---- a search
-- the choices of one place and so many behind it, whose first place is before `at`, are admitted
pub record ArePassed (IsAdmitted : List ℕ → Type 0) (from n count at : ℕ) : Type 0 where
  pub passed : (p : ℕ) (rest : List ℕ) → from ≤ p → p < at → p < n → IsChoice (p + 1) n count rest → IsAdmitted (p ∷ rest)

pub none_passed : (IsAdmitted : List ℕ → Type 0) (from n count : ℕ) → ArePassed IsAdmitted from n count from
none_passed IsAdmitted from n count = record { passed = λ p rest l h q c. absurd (omega arith) }

pub one_passed : (IsAdmitted : List ℕ → Type 0) (from n count at : ℕ) → ArePassed IsAdmitted from n count at → AllAdmitted (λ rest. IsAdmitted (at ∷ rest)) (at + 1) n count → ArePassed IsAdmitted from n count (at + 1)
one_passed IsAdmitted from n count at before all = record {
  passed = λ p rest l h q c. elim (cases_lt p at) as (λ _. IsAdmitted (p ∷ rest)) [
    | inl less ↦ before.passed p rest l less q c
    | inr more ↦
        let e : at ≡ p = omega arith in
        subst (λ (k : ℕ). IsAdmitted (k ∷ rest)) e (all rest (subst (λ (k : ℕ). IsChoice (k + 1) n count rest) (sym e) c))
  ];
}

pub all_passed : (IsAdmitted : List ℕ → Type 0) (from n count at : ℕ) → n ≤ at → ArePassed IsAdmitted from n count at → AllAdmitted IsAdmitted from n (suc count)
all_passed IsAdmitted from n count at end passed [] c = absurd (omega (arith, c.1))
all_passed IsAdmitted from n count at end passed (p ∷ rest) c = passed.passed p rest c.0.0 (omega (arith, c.0.1)) c.0.1 (c.0.2, omega (arith, c.1))

pub first_found : (IsAdmitted : List ℕ → Type 0) (from n count at : ℕ) (rest : List ℕ) → from ≤ at → at < n → ArePassed IsAdmitted from n count at → IsFirstRefused (λ rest. IsAdmitted (at ∷ rest)) (at + 1) n count rest → IsFirstRefused IsAdmitted from n (suc count) (at ∷ rest)
first_found IsAdmitted from n count at rest low high before found = record {
  choice = ((low, high, found.choice.0), ap (λ (k : ℕ). suc k) found.choice.1);
  refused = found.refused;
  first = earlier;
}
  where
    earlier : (other : List ℕ) → IsChoice from n (suc count) other → ComesBefore other (at ∷ rest) → IsAdmitted other
    earlier [] c h = absurd (omega (arith, c.1))
    earlier (p ∷ ps) c h =
        let k : IsChoice (p + 1) n count ps = (c.0.2, omega (arith, c.1)) in
        elim (before_cases p at ps rest h) as (λ _. IsAdmitted (p ∷ ps)) [
          | inl less ↦ before.passed p ps c.0.0 less c.0.1 k
          | inr same ↦
              let e : at ≡ p = sym same.0 in
              subst (λ (q : ℕ). IsAdmitted (q ∷ ps)) e (found.first ps (subst (λ (q : ℕ). IsChoice (q + 1) n count ps) same.0 k) same.1)
        ]

-- ---- the last place of a choice
pub last_admitted : (IsAdmitted : List ℕ → Type 0) (n at : ℕ) → IsAdmitted (at ∷ []) → AllAdmitted (λ rest. IsAdmitted (at ∷ rest)) (at + 1) n 0
last_admitted IsAdmitted n at w [] c = w
last_admitted IsAdmitted n at w (p ∷ rest) c = absurd (omega (arith, c.1))

pub last_refused : (IsAdmitted : List ℕ → Type 0) (n at : ℕ) → ¬ IsAdmitted (at ∷ []) → IsFirstRefused (λ rest. IsAdmitted (at ∷ rest)) (at + 1) n 0 []
last_refused IsAdmitted n at not = record { choice = (tt, refl); refused = not; first = only }
  where
    only : (other : List ℕ) → IsChoice (at + 1) n 0 other → ComesBefore other [] → IsAdmitted (at ∷ other)
    only [] c h = absurd (equal_is_not_less h)
    only (p ∷ rest) c h = absurd (omega (arith, c.1))

-- what an option that is none tells
pub none_told : {X : Type 0} (Nothing : Type 0) (Something : X → Type 0) (result : Option X) → MatchOption result Nothing Something → result ≡ None → Nothing
none_told Nothing Something None told e = told
none_told Nothing Something (Some x) told e = cc
