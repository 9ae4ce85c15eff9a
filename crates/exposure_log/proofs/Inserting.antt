-- An exposure more, at its place.
use Rattle.std.proofs.Common.{◌≡◌, ℕ, ◌+◌, ◌<◌, ◌≤◌, ◌==◌, Bool, true, false, Option, Some, None, List, [], ◌∷◌, ◌++◌, length, get_or, take, drop, map, refl, sym, ap, ◌∙◌, arith, zero, suc, inl, inr}
use Rattle.std.specs.List.{list_any, slice_index, insert, All, Contains, AllPairs}
use Rattle.std.specs.List.Sorted.{IsPartitionPoint}
use Rattle.std.specs.declared.cmp.Ordering.{Ordering}
use Rattle.std.specs.declared.cmp.Ordering.TheVariants.{Less, Greater}
use Rattle.std.specs.Ordering.{ordering_reverse, is_lt, is_gt}
use Rattle.std.proofs.lemmas.Bool.{cases_lt, cases_Bool}
use Rattle.std.proofs.lemmas.List.Edits.{get_or-insert_at, get_or-insert_below, get_or-insert_above, length-insert}
use Rattle.std.proofs.lemmas.List.Elements.{All-append, All-cons, All-take, All-drop}
use Rattle.std.proofs.lemmas.List.Kept.{AllPairs-cons}
use Rattle.std.proofs.lemmas.List.Sorted.{IsPermutation-insert, sum_by-IsPermutation}
use Rattle.std.proofs.lemmas.List.Sums.{sum_by-cons}
use Rattle.miti_text.specs.Observation.{Observation}
use Rattle.exposure_log.specs.declared.numbered.NumberedExposure.{NumberedExposure}
use Rattle.number_register.specs.Numbering.{slot, count_held}
use Rattle.exposure_log.specs.Held.{HeldExposure, stands_before, stands_after, with_exposure, most_detections}
use Rattle.exposure_log.specs.Numbered.{numbered_cmp, IsNumbered, AreListed, RiseStrictly, exposure_of}
use Rattle.exposure_log.proofs.Order.{place_total, place_of, by_place}
use Rattle.exposure_log.proofs.Leaving.{kept_numbered, same_entries, among_index, clash}
use Rattle.exposure_log.proofs.Searching.{filter_map_is, filter_take, filter_drop}

abbrev Slots : Type 0
Slots = List (Option Observation)

abbrev among : ℕ → List ℕ → Bool
among k numbers = list_any (λ n. n == k) numbers

flipped : (a b : Ordering) → a ≡ ordering_reverse b → b ≡ Greater → a ≡ Less
flipped a b e h = e ∙ ap ordering_reverse h

abbrev goes_before : NumberedExposure → NumberedExposure → Type 0
goes_before g h = numbered_cmp h.epoch h.site g ≡ Less

rises : (xs : List NumberedExposure) (i : ℕ) (g : NumberedExposure) → i ≤ length xs → AllPairs goes_before xs → ((k : ℕ) (d : NumberedExposure) → k < i → k < length xs → goes_before (get_or xs k d) g) → ((k : ℕ) (d : NumberedExposure) → i ≤ k → k < length xs → goes_before g (get_or xs k d)) → AllPairs goes_before (insert xs i g)
rises xs zero g h p before after = AllPairs-cons goes_before g xs (λ k d l. after k d (omega arith) l) p
rises [] (suc i) g h p before after = absurd (omega arith)
rises (x ∷ xs) (suc i) g h p before after =
    let first : All (goes_before x) xs = λ k d l. p 0 (suc k) d (omega arith) (omega arith) in
    AllPairs-cons goes_before x (insert xs i g)
    (All-append (goes_before x) (take i xs) (g ∷ drop i xs) (All-take (goes_before x) i xs first) (All-cons (goes_before x) g (drop i xs) (before 0 x (omega arith) (omega arith)) (All-drop (goes_before x) i xs first)))
    (rises xs i g (omega arith) (λ j k d lt l. p (suc j) (suc k) d (omega arith) (omega arith)) (λ k d low high. before (suc k) d (omega arith) (omega arith)) (λ k d low high. after (suc k) d (omega arith) (omega arith)))

map_same : (slots slots' : Slots) (xs : List NumberedExposure) → ((k : ℕ) (d : NumberedExposure) → k < length xs → exposure_of slots' (get_or xs k d) ≡ exposure_of slots (get_or xs k d)) → map (exposure_of slots') xs ≡ map (exposure_of slots) xs
map_same slots slots' [] h = refl
map_same slots slots' (x ∷ xs) h = rw (h 0 x (omega arith), map_same slots slots' xs (λ k d l. h (suc k) d (omega arith))) refl

map_insert : (slots slots' : Slots) (xs : List NumberedExposure) (i : ℕ) (g : NumberedExposure) → ((k : ℕ) (d : NumberedExposure) → k < length xs → exposure_of slots' (get_or xs k d) ≡ exposure_of slots (get_or xs k d))
    → map (exposure_of slots') (insert xs i g) ≡ map (exposure_of slots) (take i xs) ++ exposure_of slots' g ∷ map (exposure_of slots) (drop i xs)
map_insert slots slots' xs zero g h = rw (map_same slots slots' xs h) refl
map_insert slots slots' [] (suc i) g h = refl
map_insert slots slots' (x ∷ xs) (suc i) g h = rw (h 0 x (omega arith), map_insert slots slots' xs i g (λ k d l. h (suc k) d (omega arith))) refl

abbrev with_detections : NumberedExposure → List (ℕ × Observation) → HeldExposure
with_detections g ds = record { epoch = g.epoch; site = g.site; detections = ds }

at_index : (ns : List ℕ) (k n : ℕ) → k < length ns → slice_index ns k ≡ n → get_or ns k n ≡ n
at_index [] k n h e = absurd (omega arith)
at_index (m ∷ ms) zero n h e = e
at_index (m ∷ ms) (suc k) n h e = at_index ms k n (omega arith) e

-- ---- the order of the exposures

module _ (listed : List NumberedExposure) (g : NumberedExposure) (i : ℕ) (h : i ≤ length listed) (rise : RiseStrictly listed)
    (parts : IsPartitionPoint (λ x. numbered_cmp g.epoch g.site x ≡ Less) (λ x. numbered_cmp g.epoch g.site x ≡ Greater) listed i) where
  at_end : (k : ℕ) (d : NumberedExposure) → i ≤ k → k < length listed → goes_before g (get_or listed k d)
  at_end k d low high = flipped (by_place (place_of g) (place_of (get_or listed k d))) (by_place (place_of (get_or listed k d)) (place_of g)) (place_total.antisymm (place_of g) (place_of (get_or listed k d))) (parts.1 k d low high)

  pub still_rises : RiseStrictly (insert listed i g)
  still_rises = rises listed i g h rise (λ k d low high. parts.0 k d (omega arith) low) at_end

  pub exposures_with : (slots slots' : Slots) → ((k : ℕ) (d : NumberedExposure) → k < length listed → exposure_of slots' (get_or listed k d) ≡ exposure_of slots (get_or listed k d))
      → map (exposure_of slots') (insert listed i g) ≡ with_exposure (exposure_of slots' g) (map (exposure_of slots) listed)
  exposures_with slots slots' same =
      let before = filter_map_is (stands_before g.epoch g.site) (exposure_of slots) listed ∙ ap (map (exposure_of slots)) (filter_take (λ (x : NumberedExposure). is_lt (numbered_cmp g.epoch g.site x)) listed i (λ k d low high. ap is_lt (parts.0 k d (omega arith) low)) (λ k d low high. ap is_lt (parts.1 k d low high))) in
      let after = filter_map_is (stands_after g.epoch g.site) (exposure_of slots) listed ∙ ap (map (exposure_of slots)) (filter_drop (λ (x : NumberedExposure). is_gt (numbered_cmp g.epoch g.site x)) listed i (λ k d low high. ap is_gt (parts.0 k d (omega arith) low)) (λ k d low high. ap is_gt (parts.1 k d low high))) in
      rw (before, after) (map_insert slots slots' listed i g same)

module _ (slots slots' : Slots) (listed : List NumberedExposure) (g : NumberedExposure) (i : ℕ) (h : i ≤ length listed) (a : AreListed slots listed) (is : IsNumbered slots' g)
    (parts : IsPartitionPoint (λ x. numbered_cmp g.epoch g.site x ≡ Less) (λ x. numbered_cmp g.epoch g.site x ≡ Greater) listed i)
    (fresh : (n : ℕ) → among n g.numbers.items ≡ true → slot slots n ≡ None)
    (same : (n : ℕ) → among n g.numbers.items ≡ false → slot slots' n ≡ slot slots n) where
  not_new : (n : ℕ) (d : Observation) → slot slots n ≡ Some d → among n g.numbers.items ≡ false
  not_new n d held = elim (cases_Bool (among n g.numbers.items)) [
    | inl y ↦ absurd (clash (slot slots n) d held (fresh n y))
    | inr f ↦ f
  ]

  keeps : (k : ℕ) (d : NumberedExposure) → k < length listed → (j : ℕ) → j < length (get_or listed k d).numbers.items → slot slots' (slice_index (get_or listed k d).numbers.items j) ≡ slot slots (slice_index (get_or listed k d).numbers.items j)
  keeps k d l j m =
      let held = (a.each k d l).held j m in
      same (slice_index (get_or listed k d).numbers.items j) (not_new (slice_index (get_or listed k d).numbers.items j) held.0 held.1)

  pub same_exposures : (k : ℕ) (d : NumberedExposure) → k < length listed → exposure_of slots' (get_or listed k d) ≡ exposure_of slots (get_or listed k d)
  same_exposures k d l = ap (with_detections (get_or listed k d)) (same_entries slots slots' (get_or listed k d).numbers.items (keeps k d l))

  old_listed : All (IsNumbered slots') listed
  old_listed k d l = kept_numbered slots slots' (get_or listed k d) (a.each k d l) (keeps k d l)

  new_there : Contains (insert listed i g) g
  new_there = (i, omega (arith, length-insert listed i g h), get_or-insert_at listed i g g h)

  old_there : (x : NumberedExposure) → Contains listed x → Contains (insert listed i g) x
  old_there x there = elim (cases_lt there.0 i) [
    | inl lt ↦ (there.0, omega (arith, length-insert listed i g h, there.1), get_or-insert_below listed i g x there.0 lt h ∙ there.2)
    | inr ge ↦ (there.0 + 1, omega (arith, length-insert listed i g h, there.1), get_or-insert_above listed i g x there.0 ge h ∙ there.2)
  ]

  old_or_new : (n : ℕ) (d : Observation) → slot slots' n ≡ Some d → (x : NumberedExposure) × Contains (insert listed i g) x × Contains x.numbers.items n
  old_or_new n d held = elim (cases_Bool (among n g.numbers.items)) [
    | inl y ↦
        let there = among_index g.numbers.items n y in
        (g, new_there, (there.0, there.1.0, at_index g.numbers.items there.0 n there.1.0 there.1.1))
    | inr f ↦
        let there = a.none_else n d (sym (same n f) ∙ held) in
        (there.0, old_there there.0 there.1, there.2)
  ]

  pub listed_with : count_held slots' ≡ count_held slots + length g.numbers.items → count_held slots' ≤ most_detections → AreListed slots' (insert listed i g)
  listed_with count few =
      let sum = sum_by-IsPermutation (λ (x : NumberedExposure). length x.numbers.items) (g ∷ listed) (insert listed i g) (IsPermutation-insert listed i g) in
      record {
        in_order = still_rises listed g i h a.in_order parts;
        each = All-append (IsNumbered slots') (take i listed) (g ∷ drop i listed) (All-take (IsNumbered slots') i listed old_listed) (All-cons (IsNumbered slots') g (drop i listed) is (All-drop (IsNumbered slots') i listed old_listed));
        none_else = old_or_new;
        count = omega (arith, sum, count, a.count, sum_by-cons (λ (x : NumberedExposure). length x.numbers.items) g listed);
        few = few;
      }
