-- An exposure that nothing stands against is held: its exposure stands at its place, its detections have their numbers.
use Rattle.std.proofs.Common.{◌≡◌, ◌≢◌, ℕ, ◌+◌, ◌<◌, ◌^◌, ◌==◌, ℤ, true, false, Option, Some, None, IsTrue, List, [], ◌∷◌, length, get_or, map, sym, subst, ap, ◌∙◌, arith, suc, inl, inr}
use Rattle.std.specs.List.{All, Contains, list_any}
use Rattle.std.specs.Map.{lookup}
use Rattle.std.proofs.lemmas.Bool.{cases_Bool, eqb-true}
use Rattle.miti_text.specs.Observation.{Observation, is_id}
use Rattle.exposure_log.specs.declared.numbered.NumberedExposure.{NumberedExposure}
use Rattle.number_register.specs.Numbering.{slot, count_held}
use Rattle.exposure_log.specs.Held.{ExposureData, TakesIn, held_at, detections_of, with_exposure, refusal}
use Rattle.exposure_log.specs.Exposures.{IsExposure}
use Rattle.exposure_log.specs.Numbered.{IsNumbered, AreListed, exposure_of}
use Rattle.number_register.specs.Numbering.{Takes, TakeLeast}
use Rattle.exposure_log.specs.Nights.{PutsIn}
use Rattle.exposure_log.specs.Orderly.{IsOrderly}
use Rattle.exposure_log.proofs.Cutting.{one_exposure}
use Rattle.exposure_log.proofs.HeldList.{held_is, count_is}
use Rattle.exposure_log.proofs.Inserting.{listed_with, exposures_with, same_exposures}
use Rattle.exposure_log.proofs.Keeping.{taking_keeps_order}
use Rattle.exposure_log.proofs.Logs.{with_held}
use Rattle.exposure_log.proofs.NewlyNumbered.{new_numbered, has, entry_numbers, entry_detections}
use Rattle.number_register.proofs.Takings.{taken_was_free, other_stays, as_many}
use Rattle.exposure_log.proofs.Unrefused.{IsUnrefused, unrefused, fresh_ids, apart_ids}

abbrev Slots : Type 0
Slots = List (Option Observation)

-- what a look-up finds is in the list
looked_up : (n : ℕ) (d : Observation) (es : List (ℕ × Observation)) → lookup (λ k. k == n) es ≡ Some d → Contains es (n, d)
looked_up n d [] h = cc
looked_up n d (e ∷ es) h = elim (cases_Bool (e.0 == n)) [
  | inl t ↦ let same : Some e.1 ≡ Some d = rw t at h in (0, omega arith, pair e (eqb-true e.0 n t) same)
  | inr f ↦ let rest = looked_up n d es (rw f at h) in (suc rest.0, omega (arith, rest.1), rest.2)
]
  where
    pair : (e : ℕ × Observation) → e.0 ≡ n → Some e.1 ≡ Some d → ◌≡◌ {A = ℕ × Observation} e (n, d)
    pair e p q = let d' : e.1 ≡ d = cc in ap (λ (m : ℕ). (m, e.1)) p ∙ ap (λ (x : Observation). (n, x)) d'

module _ (shift : ℤ) (window : Option (ℤ × ℤ)) (slots : Slots) (listed : List NumberedExposure) (a : AreListed slots listed) (x : ExposureData) (none : refusal (with_held shift window (map (exposure_of slots) listed)) x ≡ None) where
  free : IsUnrefused (with_held shift window (map (exposure_of slots) listed)) x
  free = unrefused (with_held shift window (map (exposure_of slots) listed)) x none

  pub fresh_in_slots : (k n : ℕ) (d e : Observation) → k < length x.detections → slot slots n ≡ Some d → d.id ≢ (get_or x.detections k e).id
  fresh_in_slots k n d e h held =
      fresh_ids (map (exposure_of slots) listed) x.detections free.untaken k e h n d (looked_up n d (detections_of (map (exposure_of slots) listed)) (held_is slots listed a n ∙ held))

  pub apart_in_list : (j k : ℕ) (e : Observation) → j < k → k < length x.detections → (get_or x.detections j e).id ≢ (get_or x.detections k e).id
  apart_in_list = apart_ids (map (exposure_of slots) listed) x.detections free.untaken

  pub few_in_slots : count_held slots + length x.detections < 2 ^ 32
  few_in_slots = let room = free.room in omega (arith, room, count_is slots listed a)

  module _ (slots' : Slots) (listed' : List NumberedExposure) (g : NumberedExposure) (is : IsExposure x) (epoch : g.epoch ≡ x.epoch) (site : g.site ≡ x.site)
      (t : Takes (slot slots) g.numbers.items x.detections (slot slots')) (put : PutsIn listed g listed') where
    many : length g.numbers.items ≡ length x.detections
    many = as_many (slot slots) g.numbers.items x.detections t.least

    is_numbered : IsNumbered slots' g
    is_numbered = new_numbered slots slots' x g is epoch site t.least t.is apart_in_list

    was_free : (n : ℕ) → list_any (λ k. k == n) g.numbers.items ≡ true → slot slots n ≡ None
    was_free = taken_was_free (slot slots) g.numbers.items x.detections t.least

    others : (n : ℕ) → list_any (λ k. k == n) g.numbers.items ≡ false → slot slots' n ≡ slot slots n
    others n f = ap (λ (h : ℕ → Option Observation). h n) t.is ∙ other_stays (slot slots) g.numbers.items x.detections n f

    pub listed_hold : count_held slots' ≡ count_held slots + length x.detections → AreListed slots' listed'
    listed_hold count =
        let room = free.room in
        rw put.2 (listed_with slots slots' listed g put.0 put.1.0 a is_numbered put.1.1 was_free others (omega (arith, count, many)) (omega (arith, count, room, count_is slots listed a)))

    pub takes_in : TakesIn (with_held shift window (map (exposure_of slots) listed)) (with_held shift window (map (exposure_of slots') listed')) x
    takes_in =
        let each = has slots slots' x g is epoch site t.least t.is apart_in_list in
        let kept = same_exposures slots slots' listed g put.0 put.1.0 a is_numbered put.1.1 was_free others in
        let numbers = entry_numbers slots' g.numbers.items (λ k h. let d = each k h in (d.0, d.1.0)) in
        let least : TakeLeast (held_at (map (exposure_of slots) listed)) g.numbers.items x.detections = subst (λ at. TakeLeast at g.numbers.items x.detections) (λ i n. sym (held_is slots listed a n) i) t.least in
        let xs : map (exposure_of slots') listed' ≡ with_exposure (exposure_of slots' g) (map (exposure_of slots) listed) =
        rw put.2 (exposures_with listed g put.0 put.1.0 a.in_order put.1.1 slots slots' kept) in
        record {
          held = exposure_of slots' g;
          epoch = epoch;
          site = site;
          detections = entry_detections slots' g.numbers.items x.detections many each;
          numbers = rw numbers least;
          is = ap (with_held shift window) xs;
        }

    pub holding_keeps_order : All (λ d. IsTrue (is_id d.id)) x.detections → IsOrderly (with_held shift window (map (exposure_of slots) listed)) → IsOrderly (with_held shift window (map (exposure_of slots') listed'))
    holding_keeps_order ids o =
        taking_keeps_order (with_held shift window (map (exposure_of slots) listed)) (with_held shift window (map (exposure_of slots') listed')) x (one_exposure x is) ids o none takes_in
