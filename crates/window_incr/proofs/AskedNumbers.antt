-- The asked spots of a night, by the numbers of the asked ids.
use Rattle.std.proofs.Common.{◌≡◌, ◌==◌, ℕ, Bool, true, false, Option, Some, None, List, [], ◌∷◌, map, refl, sym, ap, ap₂, ◌∙◌, subst, eq-eqb, ◌||◌}
use Rattle.std.specs.Prelude.{IsSome, nat_eq}
use Rattle.std.specs.Cmp.Lexicographic.{pointwise, bytes_decides}
use Rattle.std.specs.List.{All, Contains, filter, list_any}
use Rattle.std.specs.Map.{lookup}
use Rattle.std.proofs.lemmas.Bool.{cases_Bool, eqb-true, false≢true}
use Rattle.std.proofs.lemmas.List.Elements.{All-head, All-tail, All-contains}
use mathlib.Core.Logic.{inl, inr}
use Rattle.miti_text.specs.Observation.{Observation}
use Rattle.exposure_log.specs.Held.{LogData, HeldExposure, detections_of, held_at, spots_of_night}
use Rattle.exposure_log.specs.Orderly.{IsOrderly}
use Rattle.sky_units.specs.SpotData.{SpotData}
use Rattle.plain_tracks.proofs.Entries.{in_front, in_rest}
use Rattle.kept_nights.proofs.HeldNights.{IsSpotOf, spots_are_of, held_there}
use Rattle.window_incr.specs.Answers.{id_of_number}
use Rattle.window_incr.specs.Asked.{asked_of, has_number, is_among, is_asked}
use Rattle.window_incr.specs.Asking.{AreNumbersOf}

-- what a look-up finds is an entry
lookup_in : (n : ℕ) (es : List (ℕ × Observation)) (d : Observation) → lookup (λ k. k == n) es ≡ Some d → Contains es (n, d)
lookup_in n [] d e = cc
lookup_in n (x ∷ es) d e = elim (cases_Bool (x.0 == n)) [
  | inl t ↦
      let here : Some x.1 ≡ Some d = rw t at e in
      let same : x.1 ≡ d = cc in
      let number : x.0 ≡ n = eqb-true x.0 n t in
      subst (Contains (x ∷ es)) (ap₂ (λ (m : ℕ) (o : Observation). (m, o)) number same) (in_front x es)
  | inr f ↦ in_rest x es (n, d) (lookup_in n es d (rw f at e))
]

pub held_entry : (log : LogData) (n : ℕ) (d : Observation) → held_at log.exposures n ≡ Some d → Contains (detections_of log.exposures) (n, d)
held_entry log n d e = lookup_in n (detections_of log.exposures) d e

pub id_is : (log : LogData) (n : ℕ) (d : Observation) → held_at log.exposures n ≡ Some d → id_of_number log n ≡ d.id
id_is log n d e = rw e refl

detection_of : (o : Option Observation) → IsSome o → (d : Observation) × (o ≡ Some d)
detection_of None h = absurd (false≢true h)
detection_of (Some d) h = (d, refl)

-- two held detections have one id exactly where they have one number
same_test : (log : LogData) (m n : ℕ) → IsOrderly log → IsSome (held_at log.exposures m) → IsSome (held_at log.exposures n) → (m == n) ≡ pointwise nat_eq (id_of_number log n) (id_of_number log m)
same_test log m n o hm hn = elim (cases_Bool (m == n)) [
  | inl t ↦
      let e : m ≡ n = eqb-true m n t in
      t ∙ sym ((bytes_decides (id_of_number log n) (id_of_number log m)).1 (ap (id_of_number log) (sym e)))
  | inr f ↦ elim (cases_Bool (pointwise nat_eq (id_of_number log n) (id_of_number log m))) [
    | inl t ↦
        let d = detection_of (held_at log.exposures m) hm in
        let e = detection_of (held_at log.exposures n) hn in
        let same : e.0.id ≡ d.0.id = sym (id_is log n e.0 e.1) ∙ ((bytes_decides (id_of_number log n) (id_of_number log m)).0 t ∙ id_is log m d.0 d.1) in
        let number : n ≡ m = o.ids_apart n m e.0 d.0 (held_entry log n e.0 e.1) (held_entry log m d.0 d.1) same in
        absurd (false≢true (sym f ∙ eq-eqb m n (sym number)))
    | inr g ↦ f ∙ sym g
  ]
]

same_tests : (log : LogData) (numbers : List ℕ) (n : ℕ) → IsOrderly log → All (λ m. IsSome (held_at log.exposures m)) numbers → IsSome (held_at log.exposures n)
    → has_number numbers n ≡ is_among (map (id_of_number log) numbers) (id_of_number log n)
same_tests log [] n o held here = refl
same_tests log (m ∷ numbers) n o held here =
    ap₂ (λ (a b : Bool). a || b) (same_test log m n o (All-head (λ k. IsSome (held_at log.exposures k)) m numbers held) here)
    (same_tests log numbers n o (All-tail (λ k. IsSome (held_at log.exposures k)) m numbers held) here)

filter_same : {X : Type 0} (p q : X → Bool) (xs : List X) → ((x : X) → Contains xs x → p x ≡ q x) → filter p xs ≡ filter q xs
filter_same p q [] h = refl
filter_same p q (x ∷ xs) h =
    let rest = filter_same p q xs (λ y c. h y (in_rest x xs y c)) in
    rw (h x (in_front x xs), rest) refl

pub asked_by_number : (log : LogData) (ids : List (List ℕ)) (numbers : List ℕ) (night : _) → IsOrderly log → AreNumbersOf log ids numbers
    → filter (λ (spot : SpotData). has_number numbers spot.num) (spots_of_night log night) ≡ asked_of log ids night
asked_by_number log ids numbers night o are =
    filter_same (λ (spot : SpotData). has_number numbers spot.num) (is_asked log ids) (spots_of_night log night) (λ spot c.
    let of : IsSpotOf log night spot = All-contains (IsSpotOf log night) (spots_of_night log night) spot (spots_are_of log night) c in
    let held : held_at log.exposures spot.num ≡ Some of.entry.1 = held_there log night spot of o.numbers in
    let some : IsSome (held_at log.exposures spot.num) = rw held refl in
    same_tests log numbers spot.num o are.held some ∙ ap (λ list. is_among list (id_of_number log spot.num)) are.ids_are)
