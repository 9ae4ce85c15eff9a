-- Entries of the table that are written one after another, and marks that are set.
use Rattle.std.proofs.Common.{◌≡◌, ℕ, zero, suc, ◌+◌, ◌<◌, ◌≤◌, ℤ, Bool, true, false, Some, List, [], ◌∷◌, ◌++◌, inl, inr, length, refl, sym, subst, ap, ◌∙◌, arith}
use Rattle.std.proofs.lemmas.Bool.{cases_eq, cases_order, false≢true}
use Rattle.std.proofs.lemmas.List.{length-set}
use Rattle.std.proofs.lemmas.List.Elements.{Contains-append_left, Contains-push, Contains-push_cases}
use Rattle.std.proofs.Math.ListN.{set}
use Rattle.std.specs.List.{Contains, slice_get}
use Rattle.set_grow.proofs.Members.{in_none}
use Rattle.set_grow.specs.declared.places.Place.{Place}
use Rattle.tracklet_register.proofs.Lists.{get_other, get_same, same_place}
use Rattle.tracklet_register.specs.Registers.{is_taken}
use Rattle.tracklet_register.specs.Replacing.{AreDifferent}

abbrev pub place_at : ℤ → ℕ → Place
place_at night place = record { night = night; place = place }

-- the table once the first of some numbers are written
pub record AreWritten (old table : List Place) (night : ℤ) (numbers : List ℕ) (count : ℕ) : Type 0 where
  pub len : length table ≡ length old
  pub leads : (place number : ℕ) → place < count → slice_get numbers place ≡ Some number → slice_get table number ≡ Some (place_at night place)
  pub others : (number : ℕ) → ¬ (Contains numbers number) → slice_get table number ≡ slice_get old number

pub written_none : (old : List Place) (night : ℤ) (numbers : List ℕ) → AreWritten old old night numbers 0
written_none old night numbers = record { len = refl; leads = λ place number l e. absurd (omega (arith, l)); others = λ number n. refl }

pub written_more : (old table : List Place) (night : ℤ) (numbers : List ℕ) (count number : ℕ) → AreDifferent numbers → AreWritten old table night numbers count → slice_get numbers count ≡ Some number → Contains numbers number → number < length old
    → AreWritten old (set table number (place_at night count)) night numbers (count + 1)
written_more old table night numbers count number once w here has within = record {
  len = length-set table number (place_at night count) ∙ w.len;
  leads = λ place other l e. elim (cases_eq other number) [
    | inl s ↦
        let same : place ≡ count = same_place numbers place count number once (e ∙ ap (λ n. Some n) s) here in
        let at_number : slice_get (set table number (place_at night count)) number ≡ Some (place_at night count) = get_same table number (place_at night count) (subst (λ n. number < n) (sym w.len) within) in
        ap (λ n. slice_get (set table number (place_at night count)) n) s ∙ (at_number ∙ ap (λ p. Some (place_at night p)) (sym same))
    | inr differ ↦
        let earlier : place < count = elim (cases_order place count) [
          | inl s ↦ absurd (differ (same_number numbers place count other number s e here))
          | inr d ↦ elim d [ inl less ↦ less | inr more ↦ absurd (omega (arith, l, more)) ]
        ] in
        get_other table number other (place_at night count) differ ∙ w.leads place other earlier e
  ];
  others = λ other n. get_other table number other (place_at night count) (λ s. n (subst (Contains numbers) (sym s) has)) ∙ w.others other n;
}
  where
    same_number : (numbers : List ℕ) (place count other number : ℕ) → place ≡ count → slice_get numbers place ≡ Some other → slice_get numbers count ≡ Some number → other ≡ number
    same_number numbers place count other number s e here = (let both : Some other ≡ Some number = sym e ∙ (ap (slice_get numbers) s ∙ here) in cc)

-- ---- marks
pub record AreMarked (old taken : List Bool) (numbers : List ℕ) (value : Bool) : Type 0 where
  pub len : length taken ≡ length old
  pub listed : (number : ℕ) → Contains numbers number → number < length old → is_taken taken number ≡ value
  pub others : (number : ℕ) → ¬ (Contains numbers number) → is_taken taken number ≡ is_taken old number

pub marked_none : (old : List Bool) (value : Bool) → AreMarked old old [] value
marked_none old value = record { len = refl; listed = λ number c l. absurd (in_none number c); others = λ number n. refl }

pub marked_more : (old taken now : List Bool) (numbers : List ℕ) (value : Bool) (number : ℕ) → AreMarked old taken numbers value
    → length now ≡ length taken → (number < length taken → is_taken now number ≡ value) → ((other : ℕ) → ¬ (other ≡ number) → is_taken now other ≡ is_taken taken other)
    → AreMarked old now (numbers ++ number ∷ []) value
marked_more old taken now numbers value number m len here others = record {
  len = len ∙ m.len;
  listed = λ other c l. elim (cases_eq other number) [
    | inl s ↦ subst (λ n. is_taken now n ≡ value) (sym s) (here (subst (λ n. n < length taken) s (subst (λ n. other < n) (sym m.len) l)))
    | inr differ ↦ elim (Contains-push_cases numbers number other c) [
      | inl d ↦ others other differ ∙ m.listed other d l
      | inr e ↦ absurd (differ (sym e))
    ]
  ];
  others = λ other n.
      others other (λ s. n (subst (Contains (numbers ++ number ∷ [])) (sym s) (Contains-push numbers number))) ∙ m.others other (λ c. n (Contains-append_left numbers (number ∷ []) other c));
}

-- what lies behind the end is free
pub free_behind : (taken : List Bool) (number : ℕ) → length taken ≤ number → is_taken taken number ≡ false
free_behind [] number l = refl
free_behind (b ∷ taken) zero l = absurd (omega (arith, l))
free_behind (b ∷ taken) (suc number) l = free_behind taken number (omega (arith, l))

pub taken_within : (taken : List Bool) (number : ℕ) → is_taken taken number ≡ true → number < length taken
taken_within [] number e = absurd (false≢true e)
taken_within (b ∷ taken) zero e = omega arith
taken_within (b ∷ taken) (suc number) e = (let l = taken_within taken number e in omega (arith, l))
