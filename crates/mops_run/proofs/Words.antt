-- How many words there are, and which form they have.
use Rattle.std.proofs.Common.{◌≡◌, ℕ, suc, ◌≤◌, ◌<◌, List, [], ◌∷◌, ◌∙◌, length, get_or, sym, ap, refl, arith, Bool, true, false}
use Rattle.std.specs.Prelude.{◌==◌, ◌&&◌, Option, None, if◌then◌else◌, nat_lt, nat_le, slice_index}
use Rattle.std.specs.Char.{is_ascii_digit}
use Rattle.std.specs.List.{list_all}
use Rattle.std.specs.Str.Parse.{digits_value, starts_with_minus}
use Rattle.std.proofs.lemmas.Bool.Decides.{nat_tests}
use Rattle.miti_text.specs.Numerals.{number_of, size_of, with_sign}
use Rattle.mops_run.specs.Forms.{form_of}

-- a list of one word
pub one_word : (words : List (List ℕ)) (word : List ℕ) → 1 ≤ length words → length words < 2 → word ≡ get_or words 0 word → words ≡ word ∷ []
one_word [] word least below is = absurd (omega arith)
one_word (w ∷ []) word least below is = ap (λ x. x ∷ []) (sym is)
one_word (w ∷ x ∷ xs) word least below is = absurd (omega arith)

-- a list of four
pub four_words : (words : List (List ℕ)) (a b c d : List ℕ) → 4 ≤ length words → length words < 5 → a ≡ get_or words 0 a → b ≡ get_or words 1 b → c ≡ get_or words 2 c → d ≡ get_or words 3 d
    → words ≡ a ∷ b ∷ c ∷ d ∷ []
four_words [] a b c d least below p q r s = absurd (omega arith)
four_words (w ∷ []) a b c d least below p q r s = absurd (omega arith)
four_words (w ∷ x ∷ []) a b c d least below p q r s = absurd (omega arith)
four_words (w ∷ x ∷ y ∷ []) a b c d least below p q r s = absurd (omega arith)
four_words (w ∷ x ∷ y ∷ z ∷ []) a b c d least below p q r s = rw (p, q, r, s) refl
four_words (w ∷ x ∷ y ∷ z ∷ v ∷ vs) a b c d least below p q r s = absurd (omega arith)

-- words of another number have no form
pub no_form : (words : List (List ℕ)) → (length words ≡ 1 → ⊥) → (length words ≡ 4 → ⊥) → form_of words ≡ None
unfolding form_of
no_form [] not_one not_four = refl
no_form (w ∷ []) not_one not_four = absurd (not_one refl)
no_form (w ∷ x ∷ []) not_one not_four = refl
no_form (w ∷ x ∷ y ∷ []) not_one not_four = refl
no_form (w ∷ x ∷ y ∷ z ∷ []) not_one not_four = absurd (not_four refl)
no_form (w ∷ x ∷ y ∷ z ∷ v ∷ vs) not_one not_four = refl

-- ---- numbers without a sign

third_false : (a b : Bool) (x : Option ℕ) → (if a && (b && false) then x else None) ≡ None
third_false true true x = refl
third_false true false x = refl
third_false false b x = refl

-- a minus is no digit
pub minus_has_no_size : (word : List ℕ) → starts_with_minus word ≡ true → None ≡ with_sign false (size_of word)
minus_has_no_size [] minus = cc
minus_has_no_size (b ∷ bs) minus =
    let no_digit : is_ascii_digit b ≡ false = grind (arith, nat_tests) in
    let none : size_of (b ∷ bs) ≡ None = rw no_digit (third_false (nat_lt 0 (suc (length bs))) (nat_le (suc (length bs)) 18) _) in
    rw none refl

-- a number that no minus begins
pub number_without_minus : (word : List ℕ) → starts_with_minus word ≡ false → number_of word ≡ with_sign false (size_of word)
unfolding number_of
number_without_minus word plain = rw plain refl
