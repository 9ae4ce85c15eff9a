-- Words that are joined by spaces are parted again.
use Rattle.std.proofs.Common.{◌≡◌, ℕ, ◌*◌, ◌≤◌, true, false, List, [], ◌∷◌, ◌++◌, length, refl, ap, ◌∙◌, arith, filter, nat_lt, length-append}
use Rattle.std.specs.List.{list_all, slice_split, join_with_byte}
use Rattle.std.proofs.lemmas.List.Folds.{list_all-append}
use Rattle.std.proofs.lemmas.Bool.Decides.{nat_tests}
use Rattle.miti_text.specs.Words.{is_blank, is_filled, words}
use Rattle.miti_text.specs.Observation.{is_visible, is_shown}
use Rattle.miti_text.specs.Lines.{is_text}
use Rattle.miti_text.proofs.DigitTexts.{both_true}
use Rattle.miti_text.proofs.Shown.{first_shown, rest_shown}

not_blank : (b : ℕ) → is_visible b ≡ true → is_blank b ≡ false
not_blank b shown = grind (arith, nat_tests)

seen_text : (b : ℕ) → is_visible b ≡ true → is_text b ≡ true
seen_text b shown = grind (arith, nat_tests)

split_last : (word : List ℕ) → list_all is_visible word ≡ true → slice_split is_blank word ≡ word ∷ []
split_last [] shown = refl
split_last (b ∷ word) shown =
    let parts = both_true (is_visible b) (list_all is_visible word) shown in
    rw (not_blank b parts.0, split_last word parts.1) refl

split_front : (word rest : List ℕ) → list_all is_visible word ≡ true → slice_split is_blank (word ++ 32 ∷ rest) ≡ word ∷ slice_split is_blank rest
split_front [] rest shown = refl
split_front (b ∷ word) rest shown =
    let parts = both_true (is_visible b) (list_all is_visible word) shown in
    rw (not_blank b parts.0, split_front word rest parts.1) refl

all_visible : (word : List ℕ) → is_shown word ≡ true → list_all is_visible word ≡ true
all_visible word shown = (both_true (nat_lt 0 (length word)) (list_all is_visible word) shown).1

filled : (word : List ℕ) (parts : List (List ℕ)) → is_shown word ≡ true → filter is_filled (word ∷ parts) ≡ word ∷ filter is_filled parts
filled [] parts shown = absurd (cc)
filled (b ∷ word) parts shown = refl

split_joined : (word : List ℕ) (parts : List (List ℕ)) → list_all is_shown (word ∷ parts) ≡ true
    → slice_split is_blank (join_with_byte 32 (word ∷ parts)) ≡ word ∷ parts
split_joined word [] all = split_last word (all_visible word (first_shown word [] all))
split_joined word (next ∷ parts) all =
    split_front word (join_with_byte 32 (next ∷ parts)) (all_visible word (first_shown word (next ∷ parts) all))
    ∙ ap (λ ps. word ∷ ps) (split_joined next parts (rest_shown word (next ∷ parts) all))

filter_all : (parts : List (List ℕ)) → list_all is_shown parts ≡ true → filter is_filled parts ≡ parts
filter_all [] all = refl
filter_all (word ∷ parts) all = filled word parts (first_shown word parts all) ∙ ap (λ ps. word ∷ ps) (filter_all parts (rest_shown word parts all))

pub words_joined : (word : List ℕ) (parts : List (List ℕ)) → list_all is_shown (word ∷ parts) ≡ true → words (join_with_byte 32 (word ∷ parts)) ≡ word ∷ parts
unfolding words
words_joined word parts all = ap (filter is_filled) (split_joined word parts all) ∙ filter_all (word ∷ parts) all

visible_text : (word : List ℕ) → list_all is_visible word ≡ true → list_all is_text word ≡ true
visible_text [] shown = refl
visible_text (b ∷ word) shown =
    let parts = both_true (is_visible b) (list_all is_visible word) shown in rw (seen_text b parts.0, visible_text word parts.1) refl

pub text_joined : (word : List ℕ) (parts : List (List ℕ)) → list_all is_shown (word ∷ parts) ≡ true → list_all is_text (join_with_byte 32 (word ∷ parts)) ≡ true
text_joined word [] all = visible_text word (all_visible word (first_shown word [] all))
text_joined word (next ∷ parts) all =
    list_all-append is_text word (32 ∷ join_with_byte 32 (next ∷ parts))
    ∙ rw (visible_text word (all_visible word (first_shown word (next ∷ parts) all)), text_joined next parts (rest_shown word (next ∷ parts) all)) refl

-- words of at most 64 bytes each
abbrev pub AreShort : List (List ℕ) → Type 0
AreShort [] = Unit {0}
AreShort (word ∷ parts) = (length word ≤ 64) × AreShort parts

pub short_joined : (word : List ℕ) (parts : List (List ℕ)) → AreShort (word ∷ parts) → length (join_with_byte 32 (word ∷ parts)) ≤ 65 * length (word ∷ parts)
short_joined word [] short = omega (arith, short.0)
short_joined word (next ∷ parts) short =
    let rest = short_joined next parts short.1 in
    let len = length-append word (32 ∷ join_with_byte 32 (next ∷ parts)) in omega (arith, short.0, rest, len)
