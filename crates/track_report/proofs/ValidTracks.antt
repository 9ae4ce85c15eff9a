-- What the rules of a valid track say of its text.
use Rattle.std.proofs.Common.{◌≡◌, ℕ, ℤ, pos, negsuc, ◌≤ℤ◌, ◌^◌, true, not, List, [], ◌∷◌, ◌++◌, length, refl, arith, append_assoc, FitsSigned, w64, IsTrue, suc, nat_lt, nat_le}
use Rattle.std.specs.List.{All, list_all}
use Rattle.std.proofs.lemmas.Int.{ints}
use Rattle.std.proofs.lemmas.Bool.Decides.{nat_tests}
use Rattle.sky_units.specs.QuadData.{QuadData}
use Rattle.sky_units.specs.Ranges.{IsBetween, IsRightAscension, IsDeclination}
use Rattle.miti_text.specs.Observation.{is_id, is_visible, is_word, is_shown, begins_other_line}
use Rattle.miti_text.specs.ValidReports.{IsValidQuad}
use Rattle.track_report.specs.Reading.{IsTold, is_separator, is_unparted}
use Rattle.track_report.proofs.Parting.{both_true}

small_between : (low high z : ℤ) → negsuc (10 ^ 18) ≤ℤ low → high ≤ℤ pos (10 ^ 18) → IsBetween low high z → FitsSigned w64 z
small_between low high (pos n) from to range = record { sfits = omega (arith, ints, to, range.to) }
small_between low high (negsuc n) from to range = record { sfits = omega (arith, ints, from, range.from) }

pub told_ra : (quad : QuadData) → IsValidQuad IsRightAscension quad → IsTold quad
told_ra quad valid = record {
  base = small_between _ _ quad.base (omega (arith, ints)) (omega (arith, ints)) valid.base;
  start = small_between _ _ quad.start (omega (arith, ints)) (omega (arith, ints)) valid.start;
  numbers = valid.numbers;
}

pub told_dec : (quad : QuadData) → IsValidQuad IsDeclination quad → IsTold quad
told_dec quad valid = record {
  base = small_between _ _ quad.base (omega (arith, ints)) (omega (arith, ints)) valid.base;
  start = small_between _ _ quad.start (omega (arith, ints)) (omega (arith, ints)) valid.start;
  numbers = valid.numbers;
}

visible_unparted : (b : ℕ) → is_visible b ≡ true → not (is_separator b) ≡ true
visible_unparted b shown = grind (arith, nat_tests)

all_unparted : (word : List ℕ) → list_all is_visible word ≡ true → is_unparted word ≡ true
all_unparted [] all = refl
all_unparted (b ∷ word) all =
    let both = both_true (is_visible b) (list_all is_visible word) all in rw (visible_unparted b both.0, all_unparted word both.1) refl

id_unparted : (word : List ℕ) → IsTrue (is_id word) → is_unparted word ≡ true
id_unparted word id =
    let of_word = both_true (is_word 64 word) (not (begins_other_line word)) id in
    let of_shown = both_true (is_shown word) (nat_le (length word) 64) of_word.0 in
    let of_bytes = both_true (nat_lt 0 (length word)) (list_all is_visible word) of_shown.0 in
    all_unparted word of_bytes.1

pub ids_unparted : (ids : List (List ℕ)) → All (λ id. IsTrue (is_id id)) ids → list_all is_unparted ids ≡ true
ids_unparted [] all = refl
ids_unparted (id ∷ ids) all =
    let first : is_unparted id ≡ true = id_unparted id (all 0 id (omega arith)) in
    let rest : list_all is_unparted ids ≡ true = ids_unparted ids (λ k d within. all (suc k) d (omega (arith, within))) in
    rw (first, rest) refl

pub regrouped : (text a b c d more : List ℕ) → text ≡ (((a ++ b) ++ c) ++ d) ++ more → text ≡ a ++ (b ++ (c ++ (d ++ more)))
regrouped text a b c d more is = rw is (simp append_assoc)
