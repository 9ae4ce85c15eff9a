-- The exposure that an exposure becomes, once its detections have numbers.
use Rattle.std.proofs.Common.{◌≡◌, ◌≢◌, ℕ, ◌<◌, false, Option, Some, List, [], ◌∷◌, length, get_or, map, refl, sym, ap, ◌∙◌, arith, zero, suc}
use Rattle.std.specs.List.{slice_index}
use Rattle.std.specs.declared.cmp.Ordering.{Ordering}
use Rattle.std.specs.declared.cmp.Ordering.TheVariants.{Less, Equal, Greater}
use Rattle.std.specs.Ordering.{nat_cmp, is_gt}
use Rattle.std.specs.Cmp.Lexicographic.{slice_cmp}
use Rattle.std.proofs.lemmas.Map.Lookups.{exact_bytes}
use Rattle.miti_text.specs.Observation.{Observation}
use Rattle.exposure_log.specs.declared.numbered.NumberedExposure.{NumberedExposure}
use Rattle.number_register.specs.Numbering.{slot, count_held, with_at}
use Rattle.exposure_log.specs.Held.{ExposureData}
use Rattle.exposure_log.specs.Exposures.{IsExposure}
use Rattle.exposure_log.specs.Numbered.{entries_of, exposure_of, IsNumbered, AreListed}
use Rattle.number_register.specs.Numbering.{TakeLeast, with_all}
use Rattle.number_register.proofs.Takings.{other_stays, not_again, as_many, at_here}
use Rattle.exposure_log.proofs.Leaving.{kept_numbered, same_entries}

abbrev Slots : Type 0
Slots = List (Option Observation)

abbrev At : Type 0
At = ℕ → Option Observation

-- the detection of the number at place k
abbrev HasAt : At → List ℕ → List Observation → ℕ → Type 0
HasAt at ns ds k = (d : Observation) × ((at (slice_index ns k) ≡ Some d) × ((e : Observation) → get_or ds k e ≡ d))

pub each_has : (at : At) (ns : List ℕ) (ds : List Observation) → TakeLeast at ns ds → (k : ℕ) → k < length ns → HasAt (with_all at ns ds) ns ds k
each_has at [] ds t k h = absurd (omega arith)
each_has at (n ∷ ns) [] t k h = absurd t
each_has at (n ∷ ns) (d ∷ ds) t zero h = (d, (other_stays (with_at at n (Some d)) ns ds n (not_again at ns ds n d t.1) ∙ at_here at n n (Some d) refl, λ e. refl))
each_has at (n ∷ ns) (d ∷ ds) t (suc k) h = each_has (with_at at n (Some d)) ns ds t.1 k (omega arith)

less_from : (r : Ordering) → is_gt r ≡ false → (r ≡ Equal → ⊥) → r ≡ Less
less_from Less g e = refl
less_from Equal g e = absurd (e refl)
less_from Greater g e = cc

same_some : (d e : Observation) → Some d ≡ Some e → d ≡ e
same_some d e h = cc

module _ (slots slots' : Slots) (x : ExposureData) (g : NumberedExposure) (is : IsExposure x) (epoch : g.epoch ≡ x.epoch) (site : g.site ≡ x.site)
    (least : TakeLeast (slot slots) g.numbers.items x.detections) (after : slot slots' ≡ with_all (slot slots) g.numbers.items x.detections)
    (apart : (j k : ℕ) (e : Observation) → j < k → k < length x.detections → (get_or x.detections j e).id ≢ (get_or x.detections k e).id) where
  many : length g.numbers.items ≡ length x.detections
  many = as_many (slot slots) g.numbers.items x.detections least

  pub has : (k : ℕ) → k < length g.numbers.items → HasAt (slot slots') g.numbers.items x.detections k
  has k h =
      let d = each_has (slot slots) g.numbers.items x.detections least k h in
      (d.0, (ap (λ (f : At). f (slice_index g.numbers.items k)) after ∙ d.1.0, d.1.1))

  in_order : (j k : ℕ) (d e : Observation) → j < k → k < length g.numbers.items → slot slots' (slice_index g.numbers.items j) ≡ Some d → slot slots' (slice_index g.numbers.items k) ≡ Some e → slice_cmp nat_cmp d.id e.id ≡ Less
  in_order j k d e lt h hd he =
      let x_j = has j (omega (arith, lt, h)) in
      let x_k = has k h in
      let l : k < length x.detections = omega (arith, many, h) in
      let at_j : get_or x.detections j d ≡ d = x_j.1.1 d ∙ same_some x_j.0 d (sym x_j.1.0 ∙ hd) in
      let at_k : get_or x.detections k d ≡ e = x_k.1.1 d ∙ same_some x_k.0 e (sym x_k.1.0 ∙ he) in
      let up : is_gt (slice_cmp nat_cmp d.id e.id) ≡ false = rw (at_j, at_k) at (is.by_id j k d lt l) in
      less_from (slice_cmp nat_cmp d.id e.id) up (λ q. apart j k d lt l (ap (λ (o : Observation). o.id) at_j ∙ (exact_bytes d.id e.id q ∙ ap (λ (o : Observation). o.id) (sym at_k))))

  pub new_numbered : IsNumbered slots' g
  new_numbered = record {
    some = omega (arith, many, is.some);
    epoch_in_range = rw epoch is.epoch_in_range;
    held = λ k h.
        let d = has k h in
        let l : k < length x.detections = omega (arith, many, h) in
        (d.0, d.1.0, ap (λ (o : Observation). o.epoch) (sym (d.1.1 d.0)) ∙ (is.one_epoch k d.0 l ∙ sym epoch), ap (λ (o : Observation). o.site) (sym (d.1.1 d.0)) ∙ (is.one_site k d.0 l ∙ sym site));
    by_id = λ j k d e lt h hd he. in_order j k d e lt h hd he;
  }

-- ---- what the entries are

pub entry_numbers : (slots : Slots) (ns : List ℕ) → ((k : ℕ) → k < length ns → (d : Observation) × (slot slots (slice_index ns k) ≡ Some d)) → map (λ d. d.0) (entries_of slots ns) ≡ ns
entry_numbers slots [] h = refl
entry_numbers slots (n ∷ ns) h = rw ((h 0 (omega arith)).1, entry_numbers slots ns (λ k l. h (suc k) (omega arith))) refl

pub entry_detections : (slots : Slots) (ns : List ℕ) (ds : List Observation) → length ns ≡ length ds → ((k : ℕ) → k < length ns → HasAt (slot slots) ns ds k) → map (λ d. d.1) (entries_of slots ns) ≡ ds
entry_detections slots [] [] l h = refl
entry_detections slots [] (d ∷ ds) l h = absurd (omega arith)
entry_detections slots (n ∷ ns) [] l h = absurd (omega arith)
entry_detections slots (n ∷ ns) (d ∷ ds) l h =
    let first = h 0 (omega arith) in
    rw (first.1.0, entry_detections slots ns ds (omega arith) (λ k m. h (suc k) (omega arith))) (ap (λ (o : Observation). o ∷ ds) (sym (first.1.1 d)))

-- ---- the same slots

pub same_listed : (slots slots' : Slots) (listed : List NumberedExposure) → slot slots' ≡ slot slots → count_held slots' ≡ count_held slots → AreListed slots listed → AreListed slots' listed
same_listed slots slots' listed e c a = record {
  in_order = a.in_order;
  each = λ k d h. kept_numbered slots slots' (get_or listed k d) (a.each k d h) (λ j l. ap (λ (f : At). f (slice_index (get_or listed k d).numbers.items j)) e);
  none_else = λ n d held. a.none_else n d (sym (ap (λ (f : At). f n) e) ∙ held);
  count = c ∙ a.count;
  few = omega (arith, c, a.few);
}

pub same_list : (slots slots' : Slots) (listed : List NumberedExposure) → slot slots' ≡ slot slots → map (exposure_of slots') listed ≡ map (exposure_of slots) listed
same_list slots slots' [] e = refl
same_list slots slots' (g ∷ gs) e = rw (same_entries slots slots' g.numbers.items (λ k h. ap (λ (f : At). f (slice_index g.numbers.items k)) e), same_list slots slots' gs e) refl
