-- The least numbers that are left: there are some, and they are determined. So a log has one way to take an exposure.
use Rattle.std.proofs.Common.{◌≡◌, ℕ, ◌+◌, ◌<◌, ◌≤◌, ◌==◌, ℤ, Option, Some, None, IsSome, List, [], ◌∷◌, map, refl, sym, ap, ◌∙◌, arith, zero, suc, inl, inr}
use Rattle.std.specs.Map.{lookup}
use Rattle.std.proofs.lemmas.Bool.{cases_lt, ne_eqb}
use Rattle.miti_text.specs.Observation.{Observation}
use Rattle.exposure_log.specs.Held.{HeldExposure, LogData, ExposureData, TakesIn, detections_of, held_at, with_exposure}
use Rattle.number_register.specs.Numbering.{with_at, IsLeastFree, TakeLeast}
use Rattle.number_register.proofs.FreeNumbers.{same_least, some_or}
use Rattle.number_register.proofs.Takings.{at_other}
use Rattle.exposure_log.proofs.Fronts.{first_same, rest_same}

abbrev At : Type 0
At = ℕ → Option Observation

-- ---- the numbers are determined

numbers_agree : (at : At) (ns ms : List ℕ) (ds : List Observation) → TakeLeast at ns ds → TakeLeast at ms ds → ns ≡ ms
numbers_agree at [] [] ds p q = refl
numbers_agree at [] (m ∷ ms) [] p q = absurd q
numbers_agree at [] (m ∷ ms) (d ∷ ds) p q = absurd p
numbers_agree at (n ∷ ns) ms [] p q = absurd p
numbers_agree at (n ∷ ns) [] (d ∷ ds) p q = absurd q
numbers_agree at (n ∷ ns) (m ∷ ms) (d ∷ ds) p q =
    let first : n ≡ m = same_least at n m p.0 q.0 in
    let after : TakeLeast (with_at at n (Some d)) ms ds = rw first q.1 in
    let rest : ns ≡ ms = numbers_agree (with_at at n (Some d)) ns ms ds p.1 after in
    cc

abbrev pair_of : {A B : Type 0} → A → B → A × B
pair_of a b = (a, b)

-- a list of pairs is known by its two columns
columns_agree : {A B : Type 0} (xs ys : List (A × B)) → map (λ p. p.0) xs ≡ map (λ p. p.0) ys → map (λ p. p.1) xs ≡ map (λ p. p.1) ys → xs ≡ ys
columns_agree [] [] p q = refl
columns_agree [] (y ∷ ys) p q = cc
columns_agree (x ∷ xs) [] p q = cc
columns_agree (x ∷ xs) (y ∷ ys) p q =
    let left = first_same x.0 y.0 (map (λ z. z.0) xs) (map (λ z. z.0) ys) p in
    let right = first_same x.1 y.1 (map (λ z. z.1) xs) (map (λ z. z.1) ys) q in
    let rest = columns_agree xs ys (rest_same x.0 y.0 (map (λ z. z.0) xs) (map (λ z. z.0) ys) p) (rest_same x.1 y.1 (map (λ z. z.1) xs) (map (λ z. z.1) ys) q) in
    ap (λ a. pair_of a x.1 ∷ xs) left ∙ (ap (λ b. pair_of y.0 b ∷ xs) right ∙ ap (λ zs. y ∷ zs) rest)

abbrev held_as : ℤ → List ℕ → List (ℕ × Observation) → HeldExposure
held_as epoch site detections = record { epoch = epoch; site = site; detections = detections }

held_agree : (one other : HeldExposure) → one.epoch ≡ other.epoch → one.site ≡ other.site → one.detections ≡ other.detections → one ≡ other
held_agree one other e s d =
    ap (λ (z : ℤ). held_as z one.site one.detections) e ∙ (ap (λ (z : List ℕ). held_as other.epoch z one.detections) s ∙ ap (held_as other.epoch other.site) d)

pub add_is_unique : (old one other : LogData) (x : ExposureData) → TakesIn old one x → TakesIn old other x → one ≡ other
add_is_unique old one other x p q =
    let seconds = p.detections ∙ sym q.detections in
    let firsts = numbers_agree (held_at old.exposures) (map (λ d. d.0) p.held.detections) (map (λ d. d.0) q.held.detections) x.detections p.numbers q.numbers in
    let held = held_agree p.held q.held (p.epoch ∙ sym q.epoch) (p.site ∙ sym q.site) (columns_agree p.held.detections q.held.detections firsts seconds) in
    p.is ∙ (ap (λ (h : HeldExposure). record old { exposures = with_exposure h old.exposures }) held ∙ sym q.is)

-- ---- there are some

-- a number above all that are taken
abbrev above : List (ℕ × Observation) → ℕ
above [] = 0
above (e ∷ es) = e.0 + 1 + above es

above_is_free : (es : List (ℕ × Observation)) (n : ℕ) → above es ≤ n → lookup (λ k. k == n) es ≡ None
above_is_free [] n h = refl
above_is_free (e ∷ es) n h = rw (ne_eqb e.0 n (λ q. omega (arith, q, h))) (above_is_free es n (omega (arith, h)))

-- from the latest number on nothing is held
abbrev EndsBy : At → ℕ → Type 0
EndsBy at last = (k : ℕ) → last ≤ k → at k ≡ None

-- the search from n upwards ends at the latest there
search_up : (at : At) (last fuel n : ℕ) → EndsBy at last → last ≤ n + fuel → ((k : ℕ) → k < n → IsSome (at k)) → (m : ℕ) × IsLeastFree at m
search_up at last zero n ends h lower = (n, record { is_free = ends n (omega (arith, h)); lower_are_taken = lower })
search_up at last (suc fuel) n ends h lower = elim (some_or (at n)) [
  | inl free ↦ (n, record { is_free = free; lower_are_taken = lower })
  | inr here ↦ search_up at last fuel (n + 1) ends (omega (arith, h)) (λ k l. elim (cases_lt k n) [
    | inl below ↦ lower k below
    | inr level ↦ let e : k ≡ n = omega (arith, level, l) in rw e here
  ])
]

-- the detections with the numbers that they take
abbrev AreNumbered : At → List Observation → List (ℕ × Observation) → Type 0
AreNumbered at ds numbered = (map (λ d. d.1) numbered ≡ ds) × TakeLeast at (map (λ d. d.0) numbered) ds

some_numbers : (at : At) (last : ℕ) → EndsBy at last → (ds : List Observation) → (numbered : List (ℕ × Observation)) × AreNumbered at ds numbered
some_numbers at last ends [] = ([], (refl, tt))
some_numbers at last ends (d ∷ ds) =
    let first = search_up at last last 0 ends (omega arith) (λ k h. absurd (omega (arith, h))) in
    let ends' : EndsBy (with_at at first.0 (Some d)) (last + first.0 + 1) = λ k h. at_other at first.0 k (Some d) (λ e. omega (arith, e, h)) ∙ ends k (omega (arith, h)) in
    let rest = some_numbers (with_at at first.0 (Some d)) (last + first.0 + 1) ends' ds in
    ((first.0, d) ∷ rest.0, (ap (λ (xs : List Observation). d ∷ xs) rest.1.0, (first.1, rest.1.1)))

pub add_exists : (old : LogData) (x : ExposureData) → (new : LogData) × TakesIn old new x
add_exists old x =
    let numbered = some_numbers (held_at old.exposures) (above (detections_of old.exposures)) (above_is_free (detections_of old.exposures)) x.detections in (
      record old { exposures = with_exposure (held_as x.epoch x.site numbered.0) old.exposures },
      record {
        held = held_as x.epoch x.site numbered.0;
        epoch = refl;
        site = refl;
        detections = numbered.1.0;
        numbers = numbered.1.1;
        is = refl;
      },
    )
