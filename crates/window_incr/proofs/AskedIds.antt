-- Which asked ids are held.
use Rattle.std.proofs.Common.{◌≡◌, ◌≢◌, ℕ, ◌+◌, ◌<◌, ◌≤◌, Bool, true, false, not, Option, Some, None, List, [], ◌∷◌, ◌++◌, map, length, take, get_or, refl, sym, ap, ap₂, ◌∙◌, subst, arith}
use Rattle.std.specs.Prelude.{IsSome, nat_eq}
use Rattle.std.specs.Cmp.Lexicographic.{pointwise, bytes_decides}
use Rattle.std.specs.List.{All, Contains, list_any}
use Rattle.std.proofs.lemmas.Bool.{cases_Bool, false≢true}
use Rattle.std.proofs.lemmas.List.{get_or_default, map-append, take_all}
use Rattle.std.proofs.lemmas.List.Elements.{All-append, All-cons, All-nil}
use mathlib.Core.Logic.{inl, inr}
use Rattle.miti_text.specs.Observation.{Observation}
use Rattle.exposure_log.specs.Held.{LogData, detections_of, held_at, is_held_id}
use Rattle.exposure_log.specs.Orderly.{IsOrderly}
use Rattle.kept_nights.proofs.HeldNights.{held_is}
use Rattle.plain_tracks.proofs.Entries.{in_front, in_rest, front_or_rest}
use Rattle.plain_tracks.proofs.Steps.{in_none, taken}
use Rattle.window_incr.specs.Answers.{id_of_number}
use Rattle.window_incr.specs.Asked.{first_repeated, first_unknown, id_at, is_among}
use Rattle.window_incr.specs.Asking.{AreNumbersOf, IsUnknown}
use Rattle.window_incr.proofs.AskedNumbers.{held_entry, id_is}
use Rattle.window_incr.proofs.FirstPlaces.{NonePass, none_more, place_found, place_missing}

any_true : {X : Type 0} (p : X → Bool) (xs : List X) (x : X) → Contains xs x → p x ≡ true → list_any p xs ≡ true
any_true p [] x c t = absurd (in_none x c)
any_true p (y ∷ xs) x c t = elim (cases_Bool (p y)) [
  | inl e ↦ rw e refl
  | inr f ↦ elim (front_or_rest y xs x c) [
    | inl e ↦ absurd (false≢true (sym f ∙ (ap p e ∙ t)))
    | inr d ↦ rw f (any_true p xs x d t)
  ]
]

any_false : {X : Type 0} (p : X → Bool) (xs : List X) → ((x : X) → Contains xs x → p x ≡ false) → list_any p xs ≡ false
any_false p [] h = refl
any_false p (x ∷ xs) h = rw (h x (in_front x xs)) (any_false p xs (λ y c. h y (in_rest x xs y c)))

-- an id is held where a held detection has it
held_test : (log : LogData) (n : ℕ) (d : Observation) (id : List ℕ) → held_at log.exposures n ≡ Some d → d.id ≡ id → is_held_id log.exposures id ≡ true
held_test log n d id held same = any_true (λ e. pointwise nat_eq e.1.id id) (detections_of log.exposures) (n, d) (held_entry log n d held) ((bytes_decides d.id id).1 same)

unheld_test : (log : LogData) (id : List ℕ) → IsOrderly log → ((n : ℕ) (d : Observation) → held_at log.exposures n ≡ Some d → d.id ≢ id) → is_held_id log.exposures id ≡ false
unheld_test log id o none = any_false (λ e. pointwise nat_eq e.1.id id) (detections_of log.exposures) other
  where
    other : (e : ℕ × Observation) → Contains (detections_of log.exposures) e → pointwise nat_eq e.1.id id ≡ false
    other e c = elim (cases_Bool (pointwise nat_eq e.1.id id)) [
      | inl t ↦ absurd (none e.0 e.1 (held_is log.exposures e.0 e.1 o.numbers c) ((bytes_decides e.1.id id).0 t))
      | inr f ↦ f
    ]

-- the ids before a place are held, by these numbers
pub record AreKnown (log : LogData) (ids : List (List ℕ)) (place : ℕ) (numbers : List ℕ) : Type 0 where
  pub none : NonePass (λ p. not (is_held_id log.exposures (id_at ids p))) place
  pub are : AreNumbersOf log (take place ids) numbers

pub none_known : (log : LogData) (ids : List (List ℕ)) → AreKnown log ids 0 []
none_known log ids = record { none = λ k h. absurd (omega (arith, h)); are = record { ids_are = refl; held = All-nil (λ n. IsSome (held_at log.exposures n)) } }

here : (ids : List (List ℕ)) (i : ℕ) (id : List ℕ) → i < length ids → id ≡ get_or ids i id → id_at ids i ≡ id
here ids i id l e = get_or_default ids i [] id l ∙ sym e

pub one_known : (log : LogData) (ids : List (List ℕ)) (i : ℕ) (id : List ℕ) (numbers : List ℕ) (n : ℕ) (d : Observation) → i < length ids → id ≡ get_or ids i id
    → held_at log.exposures n ≡ Some d → d.id ≡ id → AreKnown log ids i numbers → AreKnown log ids (i + 1) (numbers ++ n ∷ [])
one_known log ids i id numbers n d l e held same known =
    let test : not (is_held_id log.exposures (id_at ids i)) ≡ false = ap not (held_test log n d (id_at ids i) held (same ∙ sym (here ids i id l e))) in
    let some : IsSome (held_at log.exposures n) = rw held refl in
    record {
      none = none_more (λ p. not (is_held_id log.exposures (id_at ids p))) i known.none test;
      are = record {
        ids_are = map-append (id_of_number log) numbers (n ∷ []) ∙ (ap₂ (λ (front : List (List ℕ)) (last : List ℕ). front ++ last ∷ []) known.are.ids_are (id_is log n d held ∙ same) ∙ sym (taken ids i id l e));
        held = All-append (λ m. IsSome (held_at log.exposures m)) numbers (n ∷ []) known.are.held (All-cons (λ m. IsSome (held_at log.exposures m)) n [] some (All-nil (λ m. IsSome (held_at log.exposures m))));
      };
    }

pub unknown_at : (log : LogData) (ids : List (List ℕ)) (i : ℕ) (id : List ℕ) (numbers : List ℕ) → IsOrderly log → i < length ids → id ≡ get_or ids i id
    → ((n : ℕ) (d : Observation) → held_at log.exposures n ≡ Some d → d.id ≢ id) → AreKnown log ids i numbers → first_unknown log ids ≡ Some i
unknown_at log ids i id numbers o l e none known =
    let unheld : is_held_id log.exposures (id_at ids i) ≡ false = ap (is_held_id log.exposures) (here ids i id l e) ∙ unheld_test log id o none in
    place_found (λ p. not (is_held_id log.exposures (id_at ids p))) (length ids) i l (ap not unheld) known.none

pub all_known : (log : LogData) (ids : List (List ℕ)) (i : ℕ) (numbers : List ℕ) → length ids ≤ i → AreKnown log ids i numbers → (first_unknown log ids ≡ None) × AreNumbersOf log ids numbers
all_known log ids i numbers e known = (
  place_missing (λ p. not (is_held_id log.exposures (id_at ids p))) (length ids) i e known.none,
  subst (λ list. AreNumbersOf log list numbers) (take_all i ids (omega (arith, e))) known.are,
)

pub repeated_at : (ids : List (List ℕ)) (i : ℕ) (id : List ℕ) → i < length ids → id ≡ get_or ids i id → is_among (take i ids) id ≡ true → NonePass (λ p. is_among (take p ids) (id_at ids p)) i → first_repeated ids ≡ Some i
repeated_at ids i id l e t none = place_found (λ p. is_among (take p ids) (id_at ids p)) (length ids) i l (ap (is_among (take i ids)) (here ids i id l e) ∙ t) none

pub none_repeated : (ids : List (List ℕ)) (i : ℕ) → length ids ≤ i → NonePass (λ p. is_among (take p ids) (id_at ids p)) i → first_repeated ids ≡ None
none_repeated ids i l none = place_missing (λ p. is_among (take p ids) (id_at ids p)) (length ids) i l none
