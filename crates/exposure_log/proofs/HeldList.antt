-- The held detections as a list, and as what stands in the slots.
use Rattle.std.proofs.Common.{◌≡◌, ℕ, ◌+◌, ◌<◌, ◌≤◌, ◌==◌, Bool, true, false, ◌||◌, cond, Option, Some, None, IsSome, List, [], ◌∷◌, ◌++◌, length, get_or, map, refl, sym, ap, ◌∙◌, arith, zero, suc, inl, inr, eq-eqb, length-append}
use Rattle.std.specs.List.{list_any, slice_index, All, sum_by}
use Rattle.std.specs.Option.{option_map}
use Rattle.std.specs.Map.{lookup}
use Rattle.std.proofs.lemmas.Bool.{cases_Bool, eqb-true, or_left, or_right, or_from, or_cases}
use Rattle.std.proofs.lemmas.List.Elements.{All-head, All-tail}
use Rattle.std.proofs.lemmas.List.Sums.{sum_by-cons}
use Rattle.std.proofs.lemmas.List.Folds.{list_any-append}
use Rattle.miti_text.specs.Observation.{Observation}
use Rattle.exposure_log.specs.declared.numbered.NumberedExposure.{NumberedExposure}
use Rattle.number_register.specs.Numbering.{slot, count_held}
use Rattle.exposure_log.specs.Held.{detections_of, held_at}
use Rattle.exposure_log.specs.Numbered.{entries_of, exposure_of, IsNumbered, AreListed}

abbrev Slots : Type 0
Slots = List (Option Observation)

abbrev Entry : Type 0
Entry = ℕ × Observation

-- what the first number adds
entry_of : Slots → ℕ → Option Entry
entry_of slots n = option_map (λ d. (n, d)) (slot slots n)

abbrev pub held_list : Slots → List NumberedExposure → List Entry
held_list slots listed = detections_of (map (exposure_of slots) listed)

abbrev among : ℕ → List ℕ → Bool
among k numbers = list_any (λ n. n == k) numbers

-- ---- a look-up by number

either : Option Observation → Option Observation → Option Observation
either (Some d) held = Some d
either None held = held

lookup_append : (test : ℕ → Bool) (xs ys : List Entry) → lookup test (xs ++ ys) ≡ either (lookup test xs) (lookup test ys)
unfolding either
lookup_append test [] ys = refl
lookup_append test (x ∷ xs) ys = elim (cases_Bool (test x.0)) [
  | inl t ↦ rw t refl
  | inr f ↦ rw f (lookup_append test xs ys)
]

none_either : (b : Bool) (held : Option Observation) → held ≡ None → cond b held None ≡ None
none_either true held e = e
none_either false held e = refl

step : (slots : Slots) (m : ℕ) (ms : List ℕ) (n : ℕ) (held : Option Observation) → slot slots m ≡ held → lookup (λ k. k == n) (entries_of slots ms) ≡ cond (among n ms) (slot slots n) None
    → lookup (λ k. k == n) (entries_of slots (m ∷ ms)) ≡ cond (among n (m ∷ ms)) (slot slots n) None
step slots m ms n None e rest = rw e (elim (cases_Bool (m == n)) [
  | inl t ↦
      let same : slot slots n ≡ None = ap (slot slots) (sym (eqb-true m n t)) ∙ e in
      rest ∙ (none_either (among n ms) (slot slots n) same ∙ sym (none_either ((m == n) || among n ms) (slot slots n) same))
  | inr f ↦ rw f rest
])
step slots m ms n (Some d) e rest = rw e (elim (cases_Bool (m == n)) [
  | inl t ↦
      let same : slot slots n ≡ Some d = ap (slot slots) (sym (eqb-true m n t)) ∙ e in
      rw (t, same) refl
  | inr f ↦ rw f rest
])

in_entries : (slots : Slots) (numbers : List ℕ) (n : ℕ) → lookup (λ k. k == n) (entries_of slots numbers) ≡ cond (among n numbers) (slot slots n) None
in_entries slots [] n = refl
in_entries slots (m ∷ ms) n = step slots m ms n (slot slots m) refl (in_entries slots ms n)

either_cond : (a b : Bool) (held : Option Observation) → either (cond a held None) (cond b held None) ≡ cond (a || b) held None
unfolding either
either_cond true b (Some d) = refl
either_cond true true None = refl
either_cond true false None = refl
either_cond false b held = refl

in_listed : (slots : Slots) (listed : List NumberedExposure) (n : ℕ) → lookup (λ k. k == n) (held_list slots listed) ≡ cond (list_any (λ g. among n g.numbers.items) listed) (slot slots n) None
in_listed slots [] n = refl
in_listed slots (g ∷ gs) n =
    lookup_append (λ k. k == n) (entries_of slots g.numbers.items) (held_list slots gs)
    ∙ (rw (in_entries slots g.numbers.items n, in_listed slots gs n) (either_cond (among n g.numbers.items) (list_any (λ g. among n g.numbers.items) gs) (slot slots n)))

pub any_at : {X : Type 0} (p : X → Bool) (xs : List X) (k : ℕ) (x : X) → k < length xs → get_or xs k x ≡ x → p x ≡ true → list_any p xs ≡ true
any_at p [] k x h e t = absurd (omega arith)
any_at p (y ∷ ys) zero x h e t = or_left (p y) (list_any p ys) (rw e t)
any_at p (y ∷ ys) (suc k) x h e t = or_right (p y) (list_any p ys) (any_at p ys k x (omega arith) e t)

pub in_a_numbered : (slots : Slots) (listed : List NumberedExposure) → AreListed slots listed → (n : ℕ) (d : Observation) → slot slots n ≡ Some d → list_any (λ g. among n g.numbers.items) listed ≡ true
in_a_numbered slots listed a n d held =
    let there = a.none_else n d held in
    any_at (λ (g : NumberedExposure). among n g.numbers.items) listed there.1.0 there.0 there.1.1 there.1.2
    (any_at (λ k. k == n) there.0.numbers.items there.2.0 n there.2.1 there.2.2 (eq-eqb n n refl))

by_slot : (b : Bool) (held : Option Observation) → ((d : Observation) → held ≡ Some d → b ≡ true) → cond b held None ≡ held
by_slot b None h = none_either b None refl
by_slot b (Some d) h = rw (h d refl) refl

-- the held detection of a number is what stands in its slot
pub held_is : (slots : Slots) (listed : List NumberedExposure) → AreListed slots listed → (n : ℕ) → held_at (map (exposure_of slots) listed) n ≡ slot slots n
held_is slots listed a n = in_listed slots listed n ∙ by_slot (list_any (λ g. among n g.numbers.items) listed) (slot slots n) (λ d held. in_a_numbered slots listed a n d held)

-- ---- how many are held

length_one : (slots : Slots) (m : ℕ) (ms : List ℕ) (held : Option Observation) → slot slots m ≡ held → IsSome held → length (entries_of slots (m ∷ ms)) ≡ 1 + length (entries_of slots ms)
length_one slots m ms None e h = cc
length_one slots m ms (Some d) e h = rw e (omega arith)

pub length_entries : (slots : Slots) (numbers : List ℕ) → ((k : ℕ) → k < length numbers → IsSome (slot slots (slice_index numbers k))) → length (entries_of slots numbers) ≡ length numbers
length_entries slots [] h = refl
length_entries slots (m ∷ ms) h =
    let rest = length_entries slots ms (λ k l. h (suc k) (omega arith)) in
    omega (arith, length_one slots m ms (slot slots m) refl (h 0 (omega arith)), rest)

some_from : (held : Option Observation) (d : Observation) → held ≡ Some d → IsSome held
some_from held d e = rw e refl

pub each_is_held : (slots : Slots) (g : NumberedExposure) → IsNumbered slots g → (k : ℕ) → k < length g.numbers.items → IsSome (slot slots (slice_index g.numbers.items k))
each_is_held slots g is k h = let d = is.held k h in some_from (slot slots (slice_index g.numbers.items k)) d.0 d.1

pub length_held : (slots : Slots) (listed : List NumberedExposure) → All (IsNumbered slots) listed → length (held_list slots listed) ≡ sum_by (λ g. length g.numbers.items) listed
length_held slots [] all = refl
length_held slots (g ∷ gs) all =
    let first = length_entries slots g.numbers.items (each_is_held slots g (All-head (IsNumbered slots) g gs all)) in
    let rest = length_held slots gs (All-tail (IsNumbered slots) g gs all) in
    omega (arith, length-append (entries_of slots g.numbers.items) (held_list slots gs), first, rest, sum_by-cons (λ (x : NumberedExposure). length x.numbers.items) g gs)

pub count_is : (slots : Slots) (listed : List NumberedExposure) → AreListed slots listed → length (held_list slots listed) ≡ count_held slots
count_is slots listed a = length_held slots listed a.each ∙ sym a.count

-- no more exposures than held detections
pub few_listed : (slots : Slots) (listed : List NumberedExposure) → All (IsNumbered slots) listed → length listed ≤ sum_by (λ g. length g.numbers.items) listed
few_listed slots [] all = omega arith
few_listed slots (g ∷ gs) all =
    let some = (All-head (IsNumbered slots) g gs all).some in
    omega (arith, some, few_listed slots gs (All-tail (IsNumbered slots) g gs all), sum_by-cons (λ (x : NumberedExposure). length x.numbers.items) g gs)

-- ---- a test on each

any_one : (p : Entry → Bool) (slots : Slots) (m : ℕ) (ms : List ℕ) (held : Option Observation) → slot slots m ≡ held → ((d : Observation) → held ≡ Some d → p (m, d) ≡ false)
    → list_any p (entries_of slots ms) ≡ false → list_any p (entries_of slots (m ∷ ms)) ≡ false
any_one p slots m ms None e h rest = rw e rest
any_one p slots m ms (Some d) e h rest = rw e (or_from (p (m, d)) (list_any p (entries_of slots ms)) (h d refl) rest)

no_entry : (p : Entry → Bool) (slots : Slots) (numbers : List ℕ) → ((n : ℕ) (d : Observation) → slot slots n ≡ Some d → p (n, d) ≡ false) → list_any p (entries_of slots numbers) ≡ false
no_entry p slots [] h = refl
no_entry p slots (m ∷ ms) h = any_one p slots m ms (slot slots m) refl (λ d e. h m d e) (no_entry p slots ms h)

pub none_held : (p : Entry → Bool) (slots : Slots) (listed : List NumberedExposure) → ((n : ℕ) (d : Observation) → slot slots n ≡ Some d → p (n, d) ≡ false) → list_any p (held_list slots listed) ≡ false
none_held p slots [] h = refl
none_held p slots (g ∷ gs) h = list_any-append p (entries_of slots g.numbers.items) (held_list slots gs) ∙ or_from (list_any p (entries_of slots g.numbers.items)) (list_any p (held_list slots gs)) (no_entry p slots g.numbers.items h) (none_held p slots gs h)

later : (p : Entry → Bool) (slots : Slots) (m : ℕ) (ms : List ℕ) (held : Option Observation) → slot slots m ≡ held → list_any p (entries_of slots ms) ≡ true → list_any p (entries_of slots (m ∷ ms)) ≡ true
later p slots m ms None e h = rw e h
later p slots m ms (Some d) e h = rw e (or_right (p (m, d)) (list_any p (entries_of slots ms)) h)

found_one : (p : Entry → Bool) (slots : Slots) (m : ℕ) (ms : List ℕ) (n : ℕ) (d : Observation) (held : Option Observation) → slot slots m ≡ held → slot slots n ≡ Some d → p (n, d) ≡ true
    → among n (m ∷ ms) ≡ true → (among n ms ≡ true → list_any p (entries_of slots ms) ≡ true) → list_any p (entries_of slots (m ∷ ms)) ≡ true
found_one p slots m ms n d held e s t h rest = elim (cases_Bool (m == n)) [
  | inl y ↦
      let same : slot slots m ≡ Some d = ap (slot slots) (eqb-true m n y) ∙ s in
      let here : p (m, d) ≡ true = ap (λ (k : ℕ). p (k, d)) (eqb-true m n y) ∙ t in
      rw same (or_left (p (m, d)) (list_any p (entries_of slots ms)) here)
  | inr f ↦ later p slots m ms held e (rest (rw f at h))
]

in_numbers : (p : Entry → Bool) (slots : Slots) (numbers : List ℕ) (n : ℕ) (d : Observation) → slot slots n ≡ Some d → p (n, d) ≡ true → among n numbers ≡ true → list_any p (entries_of slots numbers) ≡ true
in_numbers p slots [] n d s t h = cc
in_numbers p slots (m ∷ ms) n d s t h = found_one p slots m ms n d (slot slots m) refl s t h (in_numbers p slots ms n d s t)

among_listed : (p : Entry → Bool) (slots : Slots) (listed : List NumberedExposure) (n : ℕ) (d : Observation) → slot slots n ≡ Some d → p (n, d) ≡ true → list_any (λ g. among n g.numbers.items) listed ≡ true → list_any p (held_list slots listed) ≡ true
among_listed p slots [] n d s t h = cc
among_listed p slots (g ∷ gs) n d s t h = list_any-append p (entries_of slots g.numbers.items) (held_list slots gs) ∙ (elim (or_cases (among n g.numbers.items) (list_any (λ g. among n g.numbers.items) gs) h) [
  | inl y ↦ or_left (list_any p (entries_of slots g.numbers.items)) (list_any p (held_list slots gs)) (in_numbers p slots g.numbers.items n d s t y)
  | inr y ↦ or_right (list_any p (entries_of slots g.numbers.items)) (list_any p (held_list slots gs)) (among_listed p slots gs n d s t y)
])

pub some_held : (p : Entry → Bool) (slots : Slots) (listed : List NumberedExposure) → AreListed slots listed → (n : ℕ) (d : Observation) → slot slots n ≡ Some d → p (n, d) ≡ true → list_any p (held_list slots listed) ≡ true
some_held p slots listed a n d held t = among_listed p slots listed n d held t (in_a_numbered slots listed a n d held)
