-- The words of a line that has no foreign byte are shown.
use Rattle.std.proofs.Common.{◌≡◌, ℕ, Bool, true, false, List, [], ◌∷◌, length, refl, ap, sym, ◌∙◌, arith, filter, nat_lt}
use Rattle.std.specs.List.{list_all, slice_split, onto_first}
use Rattle.std.proofs.lemmas.Bool.Decides.{nat_tests}
use Rattle.miti_text.specs.Words.{is_blank, is_filled, words}
use Rattle.miti_text.specs.Observation.{is_visible, is_shown}
use Rattle.miti_text.specs.Lines.{is_text}
use Rattle.miti_text.specs.Parts.{AreFirst}
use Rattle.miti_text.specs.declared.reading.Seven.{Seven}
use Rattle.miti_text.proofs.DigitTexts.{both_true}

visible : (b : ℕ) → is_text b ≡ true → is_blank b ≡ false → is_visible b ≡ true
visible b text filled = grind (arith, nat_tests)

onto_shown : (b : ℕ) (parts : List (List ℕ)) → is_visible b ≡ true → list_all (list_all is_visible) parts ≡ true → list_all (list_all is_visible) (onto_first b parts) ≡ true
onto_shown b [] here all = rw here refl
onto_shown b (part ∷ parts) here all = rw here all

split_step : (b : ℕ) (line : List ℕ) (x : Bool) → is_blank b ≡ x → is_text b ≡ true → list_all (list_all is_visible) (slice_split is_blank line) ≡ true
    → list_all (list_all is_visible) (slice_split is_blank (b ∷ line)) ≡ true
split_step b line true e text all = rw e all
split_step b line false e text all = rw e (onto_shown b (slice_split is_blank line) (visible b text e) all)

split_shown : (line : List ℕ) → list_all is_text line ≡ true → list_all (list_all is_visible) (slice_split is_blank line) ≡ true
split_shown [] text = refl
split_shown (b ∷ line) text =
    let parts = both_true (is_text b) (list_all is_text line) text in split_step b line (is_blank b) refl parts.0 (split_shown line parts.1)

filled_shown : (b : ℕ) (part : List ℕ) → list_all is_visible (b ∷ part) ≡ true → is_shown (b ∷ part) ≡ true
filled_shown b part all = let some : nat_lt 0 (length (b ∷ part)) ≡ true = grind (arith, nat_tests) in rw some all

filter_shown : (parts : List (List ℕ)) → list_all (list_all is_visible) parts ≡ true → list_all is_shown (filter is_filled parts) ≡ true
filter_shown [] all = refl
filter_shown ([] ∷ parts) all = filter_shown parts all
filter_shown ((b ∷ part) ∷ parts) all =
    let both = both_true (list_all is_visible (b ∷ part)) (list_all (list_all is_visible) parts) all in
    rw (filled_shown b part both.0, filter_shown parts both.1) refl

pub words_shown : (line : List ℕ) → list_all is_text line ≡ true → list_all is_shown (words line) ≡ true
unfolding words
words_shown line text = filter_shown (slice_split is_blank line) (split_shown line text)

pub first_shown : (word : List ℕ) (rest : List (List ℕ)) → list_all is_shown (word ∷ rest) ≡ true → is_shown word ≡ true
first_shown word rest all = (both_true (is_shown word) (list_all is_shown rest) all).0

pub rest_shown : (word : List ℕ) (rest : List (List ℕ)) → list_all is_shown (word ∷ rest) ≡ true → list_all is_shown rest ≡ true
rest_shown word rest all = (both_true (is_shown word) (list_all is_shown rest) all).1

-- of a line's first seven words, the three that are kept
pub seven_shown : (line : List ℕ) (s : Seven) → list_all is_text line ≡ true → AreFirst s (words line)
    → (is_shown s.id.now ≡ true) × (is_shown s.site.now ≡ true) × (is_shown s.name.now ≡ true)
seven_shown line s text first =
    let end : List (List ℕ) = s.site.now ∷ s.name.now ∷ first.more in
    let numbers : List (List ℕ) = first.epoch ∷ first.ra ∷ first.dec ∷ first.mag ∷ end in
    let all : list_all is_shown (s.id.now ∷ numbers) ≡ true = ap (list_all is_shown) (sym first.words_are) ∙ words_shown line text in
    let last : list_all is_shown end ≡ true = rest_shown first.mag end (rest_shown first.dec (first.mag ∷ end) (rest_shown first.ra (first.dec ∷ first.mag ∷ end)
    (rest_shown first.epoch (first.ra ∷ first.dec ∷ first.mag ∷ end) (rest_shown s.id.now numbers all)))) in (
      first_shown s.id.now numbers all,
      first_shown s.site.now (s.name.now ∷ first.more) last,
      first_shown s.name.now first.more (rest_shown s.site.now (s.name.now ∷ first.more) last),
    )
