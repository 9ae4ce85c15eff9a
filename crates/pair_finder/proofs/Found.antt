-- The pairs that a join finds: their places stand in the list, and they are the pairs of the night.
use Rattle.std.proofs.Common.{◌≡◌, ℕ, ◌<◌, Bool, true, List, length, Option, Some, None, refl, arith, inl, inr}
use Rattle.std.specs.List.{All, slice_get}
use Rattle.std.proofs.lemmas.Bool.{cases_lt}
use Rattle.std.proofs.lemmas.Option.{slice_get_past}
use Rattle.std.proofs.lemmas.List.Elements.{All-weaker, filter_agree, filter_passes}
use Rattle.sky_units.specs.SpotData.{SpotData}
use Rattle.sky_units.specs.SettingsData.{SettingsData}
use Rattle.sky_units.specs.Pairs.{are_pair, are_pair_at, are_some_pair, pairs_of, all_pairs}
use Rattle.box_tree.specs.Joins.{at_two, of_two, pairs_that}

-- nothing is wanted past the end of a list
none_first : {X : Type 0} (test : X → X → Bool) (one other : Option X) → one ≡ None → of_two test one other ≡ true → ⊥
none_first test (Some x) other e h = absurd (cc)
none_first test None other e h = absurd (cc)

none_second : {X : Type 0} (test : X → X → Bool) (one other : Option X) → other ≡ None → of_two test one other ≡ true → ⊥
none_second test (Some x) (Some y) e h = absurd (cc)
none_second test (Some x) None e h = absurd (cc)
none_second test None other e h = absurd (cc)

first_stands : {X : Type 0} (test : X → X → Bool) (xs : List X) (places : ℕ × ℕ) → at_two test xs xs places ≡ true → places.0 < length xs
first_stands test xs places h = elim (cases_lt places.0 (length xs)) [
  | inl less ↦ less
  | inr past ↦ absurd (none_first test (slice_get xs places.0) (slice_get xs places.1) (slice_get_past xs places.0 past) h)
]

second_stands : {X : Type 0} (test : X → X → Bool) (xs : List X) (places : ℕ × ℕ) → at_two test xs xs places ≡ true → places.1 < length xs
second_stands test xs places h = elim (cases_lt places.1 (length xs)) [
  | inl less ↦ less
  | inr past ↦ absurd (none_second test (slice_get xs places.0) (slice_get xs places.1) (slice_get_past xs places.1 past) h)
]

pub places_are_small : {X : Type 0} (test : X → X → Bool) (xs : List X) (most : ℕ) → length xs < most → All (λ (places : ℕ × ℕ). (places.0 < most) × (places.1 < most)) (pairs_that test xs xs)
places_are_small test xs most h =
    All-weaker (λ (places : ℕ × ℕ). at_two test xs xs places ≡ true) (λ (places : ℕ × ℕ). (places.0 < most) × (places.1 < most))
    (λ places passes. (let first = first_stands test xs places passes in omega arith, let second = second_stands test xs places passes in omega arith))
    (pairs_that test xs xs) (filter_passes (at_two test xs xs) (all_pairs (length xs) (length xs)))

same_test : (s : SettingsData) (one other : Option SpotData) → of_two (are_pair s) one other ≡ are_some_pair s one other
same_test s (Some x) (Some y) = refl
same_test s (Some x) None = refl
same_test s None other = refl

pub are_the_pairs : (s : SettingsData) (spots : List SpotData) → pairs_that (are_pair s) spots spots ≡ pairs_of s spots
are_the_pairs s spots =
    filter_agree (at_two (are_pair s) spots spots) (are_pair_at s spots) (λ (places : ℕ × ℕ). same_test s (slice_get spots places.0) (slice_get spots places.1)) (all_pairs (length spots) (length spots))
