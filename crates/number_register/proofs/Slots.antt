-- Slots by number: what a change of one leaves, how many are held, and which numbers are free.
use Rattle.std.proofs.Common.{◌≡◌, ℕ, ◌+◌, ◌<◌, ◌≤◌, ◌==◌, nat_lt, true, false, cond, Option, Some, None, List, [], ◌∷◌, ◌++◌, length, get_or, set, refl, arith, IsSome, zero, suc, inl, inr, get_or-set_same, get_or-set_other, eq-eqb, length-append}
use Rattle.std.specs.Option.{is_some}
use Rattle.std.proofs.Math.ListN.{length-set}
use Rattle.std.proofs.lemmas.List.Sums.{sum_by-set, sum_by-append}
use Rattle.std.proofs.lemmas.Bool.{cases_lt, cases_eq, lt-ltb, le-ltb, ne_eqb}
use Rattle.std.proofs.lemmas.Option.{slice_get_read, get_or_from_slice_get}
use Rattle.std.proofs.lemmas.Bool.Decides.{nat_tests}
use Rattle.miti_text.specs.Observation.{Observation}
use Rattle.number_register.specs.Numbering.{with_at, slot, count_held, put_at}

abbrev Slots : Type 0
Slots = List (Option Observation)

-- past the end nothing is held
pub slot-past : (slots : Slots) (n : ℕ) → length slots ≤ n → slot slots n ≡ None
slot-past [] n h = refl
slot-past (x ∷ xs) zero h = absurd (omega arith)
slot-past (x ∷ xs) (suc n) h = slot-past xs n (omega arith)

-- what is held stands in a slot
pub slot-within : (slots : Slots) (n : ℕ) (d : Observation) → slot slots n ≡ Some d → n < length slots
slot-within slots n d e = elim (cases_lt n (length slots)) [ inl h ↦ h | inr h ↦ let f = slot-past slots n h in cc ]

pub slot-set : (slots : Slots) (n : ℕ) (held : Option Observation) → n < length slots → (k : ℕ) → slot (set slots n held) k ≡ with_at (slot slots) n held k
slot-set slots n held h k = elim (cases_eq k n) [
  | inl e ↦ let t : (k == n) ≡ true = eq-eqb k n e in rw (t, e) (get_or-set_same slots n held None h)
  | inr e ↦ let t : (k == n) ≡ false = ne_eqb k n e in rw t (get_or-set_other slots n k held None e)
]

suc_eq : (k n : ℕ) → (suc k == suc n) ≡ (k == n)
suc_eq k n = grind (arith, nat_tests)

refl_of_ne : (k : ℕ) → (suc k == 0) ≡ false
refl_of_ne k = ne_eqb (suc k) 0 (λ e. omega arith)

one_behind : (slots : Slots) (held : Option Observation) (k : ℕ) → slot (slots ++ held ∷ []) k ≡ with_at (slot slots) (length slots) held k
one_behind [] held zero = refl
one_behind [] held (suc k) = let t : (suc k == 0) ≡ false = refl_of_ne k in rw t refl
one_behind (x ∷ xs) held zero = let t : (0 == suc (length xs)) ≡ false = ne_eqb 0 (suc (length xs)) (λ e. omega arith) in rw t refl
one_behind (x ∷ xs) held (suc k) =
    let e : (suc k == suc (length xs)) ≡ (k == length xs) = suc_eq k (length xs) in
    rw e (one_behind xs held k)

pub slot-put : (slots : Slots) (n : ℕ) (held : Option Observation) → n ≤ length slots → (k : ℕ) → slot (put_at slots n held) k ≡ with_at (slot slots) n held k
slot-put slots n held h k = elim (cases_lt n (length slots)) [
  | inl lt ↦ let t : nat_lt n (length slots) ≡ true = lt-ltb n (length slots) lt in rw t (slot-set slots n held lt k)
  | inr ge ↦
      let t : nat_lt n (length slots) ≡ false = le-ltb n (length slots) ge in
      let e : n ≡ length slots = omega arith in
      rw t (rw e (one_behind slots held k))
]

-- ---- how many are held

pub count-clear : (slots : Slots) (n : ℕ) (d : Observation) → slot slots n ≡ Some d → count_held (set slots n None) + 1 ≡ count_held slots
count-clear slots n d e =
    let s = sum_by-set (λ held. cond (is_some held) 1 0) slots n None None (slot-within slots n d e) in
    let f = rw e at s in
    omega (arith, f)

pub count-put : (slots : Slots) (n : ℕ) (d : Observation) → slot slots n ≡ None → n ≤ length slots → count_held (put_at slots n (Some d)) ≡ count_held slots + 1
count-put slots n d e h = elim (cases_lt n (length slots)) [
  | inl lt ↦
      let t : nat_lt n (length slots) ≡ true = lt-ltb n (length slots) lt in
      let s = sum_by-set (λ held. cond (is_some held) 1 0) slots n (Some d) None lt in
      let f = rw e at s in
      rw t (omega (arith, f))
  | inr ge ↦
      let t : nat_lt n (length slots) ≡ false = le-ltb n (length slots) ge in
      let s = sum_by-append (λ held. cond (is_some held) 1 0) slots (Some d ∷ []) in
      rw t (omega (arith, s))
]

pub length-put : (slots : Slots) (n : ℕ) (held : Option Observation) → n ≤ length slots → (length slots ≤ length (put_at slots n held)) × (n < length (put_at slots n held))
length-put slots n held h = elim (cases_lt n (length slots)) [
  | inl lt ↦
      let t : nat_lt n (length slots) ≡ true = lt-ltb n (length slots) lt in
      let s : length (set slots n held) ≡ length slots = length-set slots n held in
      rw t (omega (arith, s), omega (arith, s))
  | inr ge ↦
      let t : nat_lt n (length slots) ≡ false = le-ltb n (length slots) ge in
      let s : length (slots ++ held ∷ []) ≡ length slots + 1 = length-append slots (held ∷ []) in
      rw t (omega (arith, s), omega (arith, s))
]

held_is_some : (held : Option Observation) → IsSome held → (d : Observation) × (held ≡ Some d)
held_is_some None h = cc
held_is_some (Some d) h = (d, refl)

pub within_from_some : (slots : Slots) (n : ℕ) → IsSome (slot slots n) → n < length slots
within_from_some slots n h = let d = held_is_some (slot slots n) h in slot-within slots n d.0 d.1

-- what is read is what stands in the slot, whatever the default
pub read_is : (slots : Slots) (n : ℕ) (x : Option Observation) → n < length slots → x ≡ get_or slots n x → slot slots n ≡ x
read_is slots n x h e = get_or_from_slice_get slots n x None (slice_get_read slots (length slots) n x refl h e)
