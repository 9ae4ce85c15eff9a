-- The last greatest number of a list, found from the front.
use Rattle.std.proofs.Common.{◌≡◌, ℕ, ◌+◌, ◌<◌, ◌≤◌, true, false, List, [], ◌∷◌, length, get_or, refl, subst, ap, arith}
use Rattle.std.specs.List.{list_all}
use Rattle.std.specs.Prelude.{nat_lt}
use Rattle.std.proofs.lemmas.Bool.{cases_Bool, cases_lt, lt-ltb, ltb-true}
use Rattle.std.proofs.lemmas.List.Sums.{AllPass-from_list_all}
use Prim.Native.Nat.{zero, suc}
use mathlib.Core.Logic.{inl, inr}
use Rattle.purge.specs.Purging.{last_greatest}

-- of the numbers before the place n, the greatest stands at `at`, the last one of several; before any was seen it is 0
pub record IsLastGreatest (xs : List ℕ) (n at value : ℕ) : Type 0 where
  pub within : 0 < n → at < n
  pub is : 0 < n → value ≡ get_or xs at 0
  pub none : n ≡ 0 → value ≡ 0
  pub upper : (i : ℕ) → i < n → get_or xs i 0 ≤ value
  pub last : (i : ℕ) → at < i → i < n → get_or xs i 0 < value

pub nothing_yet : (xs : List ℕ) → IsLastGreatest xs 0 0 0
nothing_yet xs = record { within = λ h. absurd (omega arith); is = λ h. absurd (omega arith); none = λ h. refl; upper = λ i h. absurd (omega arith); last = λ i h k. absurd (omega arith) }

pub at_least : (xs : List ℕ) (n at value next : ℕ) → next ≡ get_or xs n 0 → value ≤ next → IsLastGreatest xs n at value → IsLastGreatest xs (n + 1) n next
at_least xs n at value next e h so = record {
  within = λ z. omega arith;
  is = λ z. e;
  none = λ z. absurd (omega arith);
  upper = λ i l. elim (cases_lt i n) as (λ _. get_or xs i 0 ≤ next) [
    | inl s ↦ let u = so.upper i s in omega arith
    | inr s ↦ let f : n ≡ i = omega arith in subst (λ (k : ℕ). get_or xs k 0 ≤ next) f (omega arith)
  ];
  last = λ i l m. absurd (omega arith);
}

pub below : (xs : List ℕ) (n at value next : ℕ) → next ≡ get_or xs n 0 → next < value → IsLastGreatest xs n at value → IsLastGreatest xs (n + 1) at value
below xs n at value next e h so =
    let some : 0 < n = (elim (cases_lt 0 n) as (λ _. 0 < n) [ inl s ↦ s | inr s ↦ let z = so.none (omega arith) in absurd (omega arith) ]) in
    record {
      within = λ z. let w = so.within some in omega arith;
      is = λ z. so.is some;
      none = λ z. absurd (omega arith);
      upper = λ i l. elim (cases_lt i n) as (λ _. get_or xs i 0 ≤ value) [
        | inl s ↦ so.upper i s
        | inr s ↦ let f : n ≡ i = omega arith in subst (λ (k : ℕ). get_or xs k 0 ≤ value) f (omega arith)
      ];
      last = λ i l m. elim (cases_lt i n) as (λ _. get_or xs i 0 < value) [
        | inl s ↦ so.last i l s
        | inr s ↦ let f : n ≡ i = omega arith in subst (λ (k : ℕ). get_or xs k 0 < value) f (omega arith)
      ];
    }

-- ---- the whole list
all_less : (x : ℕ) (rest : List ℕ) → ((i : ℕ) → i < length rest → get_or rest i 0 < x) → list_all (λ y. nat_lt y x) rest ≡ true
all_less x [] h = refl
all_less x (y ∷ rest) h =
    let t : nat_lt y x ≡ true = lt-ltb y x (h zero (omega arith)) in
    rw t (all_less x rest (λ i l. h (suc i) (omega arith)))

not_all_less : (x : ℕ) (rest : List ℕ) (i : ℕ) → i < length rest → x ≤ get_or rest i 0 → list_all (λ y. nat_lt y x) rest ≡ false
not_all_less x rest i h k = elim (cases_Bool (list_all (λ y. nat_lt y x) rest)) as (λ _. list_all (λ y. nat_lt y x) rest ≡ false) [
  | inl t ↦
      let all = AllPass-from_list_all (λ y. nat_lt y x) rest t in
      let l : get_or rest i 0 < x = ltb-true (get_or rest i 0) x (all i 0 h) in
      absurd (omega arith)
  | inr f ↦ f
]

pub is_last_greatest : (xs : List ℕ) (at : ℕ) → at < length xs → ((i : ℕ) → i < length xs → get_or xs i 0 ≤ get_or xs at 0) → ((i : ℕ) → at < i → i < length xs → get_or xs i 0 < get_or xs at 0) → at ≡ last_greatest xs
is_last_greatest [] at h upper last = absurd (omega arith)
is_last_greatest (x ∷ rest) zero h upper last =
    let t = all_less x rest (λ i l. last (suc i) (omega arith) (omega arith)) in
    rw t refl
is_last_greatest (x ∷ rest) (suc at) h upper last =
    let f = not_all_less x rest at (omega arith) (upper zero (omega arith)) in
    let others = is_last_greatest rest at (omega arith) (λ i l. upper (suc i) (omega arith)) (λ i l m. last (suc i) (omega arith) (omega arith)) in
    rw f (ap suc others)

pub found_last : (xs : List ℕ) (n at value : ℕ) → n ≡ length xs → 0 < n → IsLastGreatest xs n at value → at ≡ last_greatest xs
found_last xs n at value e some so =
    let v = so.is some in
    let w = so.within some in
    is_last_greatest xs at (omega arith) (λ i l. let u = so.upper i (omega arith) in omega arith) (λ i l m. let u = so.last i l (omega arith) in omega arith)
