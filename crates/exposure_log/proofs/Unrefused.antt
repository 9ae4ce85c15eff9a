-- What holds of an exposure that nothing stands against: its night lies in the window, its place is free, its ids are new and
-- apart, and there is room for it.
use Rattle.std.proofs.Common.{◌≡◌, ◌≢◌, ℕ, ◌+◌, ◌<◌, ◌≤◌, ℤ, Bool, true, false, if◌then◌else◌, nat_le, nat_lt, nat_eq, Option, Some, None, List, length, get_or, take, zero, suc, refl, sym, ap, ◌∙◌, inl, inr, arith, length-take}
use Rattle.std.specs.Int.Signed.{lt_z}
use Rattle.std.specs.List.{Contains, find, list_any, range_with_len}
use Rattle.std.specs.Option.{option_map_or}
use Rattle.std.specs.Cmp.Lexicographic.{pointwise, bytes_decides}
use Rattle.std.proofs.lemmas.Bool.{cases_Bool, or_parts, true≢false}
use Rattle.std.proofs.lemmas.Bool.Decides.{nat_tests}
use Rattle.std.proofs.lemmas.List.{get_or-take, get_or_default}
use Rattle.std.proofs.lemmas.List.Folds.{list_any_at}
use Rattle.std.proofs.lemmas.Option.{slice_get-get_or}
use Rattle.sky_math.specs.Night.{night_at}
use Rattle.miti_text.specs.Observation.{Observation}
use Rattle.exposure_log.specs.Held.{LogData, HeldExposure, ExposureData, detections_of, stands_at, of_night, is_held_id, is_taken, first_taken, room_refusal, held_refusal, refusal, most_of_a_night, most_detections}
use Rattle.exposure_log.specs.declared.errors.AddError.{AddError}
use Rattle.exposure_log.specs.declared.errors.AddError.TheVariants.{NoWindow, Old, New, Held, Id, NightFull, Full}

-- ---- one cause after another

pub unless : {A : Type 0} (b : Bool) (a : A) (o : Option A) → (if b then Some a else o) ≡ None → (b ≡ false) × (o ≡ None)
unless true a o h = absurd (cc)
unless false a o h = (refl, h)

neither_cause : {A B : Type 0} (f : A → B) (o : Option A) (rest : Option B) → option_map_or (λ x. Some (f x)) o rest ≡ None → (o ≡ None) × (rest ≡ None)
neither_cause f None rest h = (refl, h)
neither_cause f (Some x) rest h = absurd (cc)

abbrev pub outside : ℤ → Option AddError → ℤ × ℤ → Option AddError
outside night rest window = if lt_z night window.0 then Some Old else (if lt_z window.1 night then Some New else rest)

in_window : (night : ℤ) (window : Option (ℤ × ℤ)) (rest : Option AddError) → option_map_or (outside night rest) window (Some NoWindow) ≡ None → rest ≡ None
in_window night None rest h = absurd (cc)
in_window night (Some w) rest h = (unless (lt_z w.1 night) New rest (unless (lt_z night w.0) Old (if lt_z w.1 night then Some New else rest) h).1).1

-- ---- ids

found_nowhere : (p : ℕ → Bool) (a n : ℕ) → find p (range_with_len a n) ≡ None → (k : ℕ) → k < n → p (a + k) ≡ false
found_nowhere p a zero h k l = absurd (omega arith)
found_nowhere p a (suc n) h zero l = elim (cases_Bool (p a)) [
  | inl t ↦ let no = rw t at h in cc
  | inr f ↦ let e : a + 0 ≡ a = omega arith in rw e f
]
found_nowhere p a (suc n) h (suc k) l = elim (cases_Bool (p a)) [
  | inl t ↦ let no = rw t at h in cc
  | inr f ↦ let e : a + suc k ≡ (a + 1) + k = omega arith in rw e (found_nowhere p (a + 1) n (rw f at h) k (omega arith))
]

pub fails_each : {X : Type 0} (p : X → Bool) (xs : List X) (x : X) → list_any p xs ≡ false → Contains xs x → p x ≡ false
fails_each p xs x none there = elim (cases_Bool (p x)) [
  | inl t ↦ absurd (true≢false (sym (list_any_at p xs there.0 x there.1 (ap p there.2 ∙ t)) ∙ none))
  | inr f ↦ f
]

other_id : (x y : List ℕ) → pointwise nat_eq x y ≡ false → x ≢ y
other_id x y f e = true≢false (sym ((bytes_decides x y).1 e) ∙ f)

module _ (exposures : List HeldExposure) (ds : List Observation) (none : first_taken exposures ds ≡ None) where
  untaken : (k : ℕ) (e : Observation) → k < length ds → (is_held_id exposures (get_or ds k e).id ≡ false) × (list_any (λ d. pointwise nat_eq d.id (get_or ds k e).id) (take k ds) ≡ false)
  untaken k e l =
      let here : 0 + k ≡ k = omega arith in
      let free : is_taken exposures ds k ≡ false = rw here at (found_nowhere (is_taken exposures ds) 0 (length ds) none k l) in
      or_parts (is_held_id exposures (get_or ds k e).id) (list_any (λ d. pointwise nat_eq d.id (get_or ds k e).id) (take k ds)) (rw (slice_get-get_or ds k e l) at free)

  -- an id is none of a held detection
  pub fresh_ids : (k : ℕ) (e : Observation) → k < length ds → (n : ℕ) (d : Observation) → Contains (detections_of exposures) (n, d) → d.id ≢ (get_or ds k e).id
  fresh_ids k e l n d there = other_id d.id (get_or ds k e).id (fails_each (λ (x : ℕ × Observation). pointwise nat_eq x.1.id (get_or ds k e).id) (detections_of exposures) (n, d) (untaken k e l).0 there)

  -- and none of an earlier one
  pub apart_ids : (j k : ℕ) (e : Observation) → j < k → k < length ds → (get_or ds j e).id ≢ (get_or ds k e).id
  apart_ids j k e lt l =
      let within : j < length (take k ds) = omega (arith, length-take k ds) in
      let there : Contains (take k ds) (get_or ds j e) = (j, within, get_or_default (take k ds) j (get_or ds j e) e within ∙ get_or-take k ds j e lt) in
      other_id (get_or ds j e).id (get_or ds k e).id (fails_each (λ (x : Observation). pointwise nat_eq x.id (get_or ds k e).id) (take k ds) (get_or ds j e) (untaken k e l).1 there)

-- ---- all of it

pub record IsUnrefused (log : LogData) (x : ExposureData) : Type 0 where
  pub unheld : list_any (stands_at x.epoch x.site) log.exposures ≡ false
  pub untaken : first_taken log.exposures x.detections ≡ None
  pub room : length (detections_of log.exposures) + length x.detections ≤ most_detections

pub unrefused : (log : LogData) (x : ExposureData) → refusal log x ≡ None → IsUnrefused log x
unrefused log x h =
    let held : held_refusal log x ≡ None = in_window (night_at log.night_shift x.epoch) log.window (held_refusal log x) h in
    let place = unless (list_any (stands_at x.epoch x.site) log.exposures) Held (option_map_or (λ (i : ℕ). Some (Id i)) (first_taken log.exposures x.detections) (room_refusal log x)) held in
    let ids = neither_cause (λ (i : ℕ). Id i) (first_taken log.exposures x.detections) (room_refusal log x) place.1 in
    let night = length (of_night log.night_shift (night_at log.night_shift x.epoch) log.exposures) in
    let many = length (detections_of log.exposures) + length x.detections in
    let full = (unless (nat_le most_of_a_night night) NightFull (if nat_lt most_detections many then Some Full else None) ids.1).1 in
    let not_more : nat_lt most_detections (length (detections_of log.exposures) + length x.detections) ≡ false = (unless (nat_lt most_detections many) Full None full).0 in
    record { unheld = place.0; untaken = ids.0; room = grind (arith, nat_tests) }
