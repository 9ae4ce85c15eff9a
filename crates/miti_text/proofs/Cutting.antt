-- Words are cut off from the front.
use Rattle.std.proofs.Common.{◌≡◌, ℕ, ◌+◌, ◌<◌, Bool, true, false, not, cond, List, [], ◌∷◌, take, drop, refl, ap, sym, ◌∙◌, filter, arith, suc}
use Rattle.std.specs.List.{slice_split, prefix_len, position_or_len}
use Rattle.miti_text.specs.Words.{is_blank, is_filled, words}

-- the words of a text, where any test parts them
abbrev pub words_by : (ℕ → Bool) → List ℕ → List (List ℕ)
words_by p text = filter is_filled (slice_split p text)

pub drop_more : (n x : ℕ) (xs : List ℕ) → drop (1 + n) (x ∷ xs) ≡ drop n xs
drop_more n x xs = let e : 1 + n ≡ suc n = omega arith in rw e refl

pub take_more : (n x : ℕ) (xs : List ℕ) → take (1 + n) (x ∷ xs) ≡ x ∷ take n xs
take_more n x xs = let e : 1 + n ≡ suc n = omega arith in rw e refl

after_blank : (p : ℕ → Bool) (b : ℕ) (text : List ℕ) (x : Bool) → p b ≡ x → words_by p (drop (prefix_len p text) text) ≡ words_by p text → words_by p (drop (prefix_len p (b ∷ text)) (b ∷ text)) ≡ words_by p (b ∷ text)
after_blank p b text true e ih = rw (e, drop_more (prefix_len p text) b text) ih
after_blank p b text false e ih = rw (e, e) refl

pub words_after_blanks : (p : ℕ → Bool) (text : List ℕ) → words_by p (drop (prefix_len p text) text) ≡ words_by p text
words_after_blanks p [] = refl
words_after_blanks p (b ∷ text) = after_blank p b text (p b) refl (words_after_blanks p text)

blank_cut_at : (p : ℕ → Bool) (b : ℕ) (text : List ℕ) (x : Bool) → p b ≡ x → prefix_len p (drop (prefix_len p text) text) ≡ 0 → prefix_len p (drop (prefix_len p (b ∷ text)) (b ∷ text)) ≡ 0
blank_cut_at p b text true e ih = rw (e, drop_more (prefix_len p text) b text) ih
blank_cut_at p b text false e ih = rw (e, e) refl

pub blank_cut : (p : ℕ → Bool) (text : List ℕ) → prefix_len p (drop (prefix_len p text) text) ≡ 0
blank_cut p [] = refl
blank_cut p (b ∷ text) = blank_cut_at p b text (p b) refl (blank_cut p text)

nothing_in_front : (m n : ℕ) (x : Bool) → cond x (1 + m) 0 ≡ 0 → cond (not x) (1 + n) 0 ≡ 0 → ⊥
nothing_in_front m n true e f = omega arith
nothing_in_front m n false e f = omega arith

-- where no blank and no word stands in front, nothing is left
pub no_word : (p : ℕ → Bool) (text : List ℕ) → prefix_len p text ≡ 0 → position_or_len p text ≡ 0 → words_by p text ≡ []
no_word p [] blanks bytes = refl
no_word p (b ∷ text) blanks bytes = absurd (nothing_in_front _ _ (p b) blanks bytes)

-- the first part, and what the other parts give
abbrev Cut : (ℕ → Bool) → List ℕ → Type 0
Cut p text = let n = position_or_len p text in
    (parts : List (List ℕ)) × (slice_split p text ≡ take n text ∷ parts) × (filter is_filled parts ≡ words_by p (drop n text))

cut_at : (p : ℕ → Bool) (b : ℕ) (text : List ℕ) (x : Bool) → p b ≡ x → Cut p text → Cut p (b ∷ text)
cut_at p b text true e (parts, split, rest) = (slice_split p text, rw e refl, rw (e, e) refl)
cut_at p b text false e (parts, split, rest) = (
  parts,
  rw (e, take_more (position_or_len p text) b text, split) refl,
  rw (e, drop_more (position_or_len p text) b text) rest,
)

cut : (p : ℕ → Bool) (text : List ℕ) → Cut p text
cut p [] = ([], refl, refl)
cut p (b ∷ text) = cut_at p b text (p b) refl (cut p text)

first_word_at : (p : ℕ → Bool) (b : ℕ) (text : List ℕ) (x : Bool) → p b ≡ x → 0 < position_or_len p (b ∷ text) → Cut p (b ∷ text) → let n = position_or_len p (b ∷ text) in words_by p (b ∷ text) ≡ take n (b ∷ text) ∷ words_by p (drop n (b ∷ text))
first_word_at p b text true e some c = absurd (omega (arith, rw e at some))
first_word_at p b text false e some (parts, split, rest) =
    let n : ℕ = position_or_len p text in
    let len : position_or_len p (b ∷ text) ≡ 1 + n = rw e refl in
    let front : take (position_or_len p (b ∷ text)) (b ∷ text) ≡ b ∷ take n text = ap (λ m. take m (b ∷ text)) len ∙ take_more n b text in
    ap (filter is_filled) (split ∙ ap (λ w. w ∷ parts) front) ∙ ap (λ ws. (b ∷ take n text) ∷ ws) rest ∙ ap (λ w. w ∷ words_by p (drop (position_or_len p (b ∷ text)) (b ∷ text))) (sym front)

pub first_word : (p : ℕ → Bool) (text : List ℕ) → 0 < position_or_len p text → let n = position_or_len p text in words_by p text ≡ take n text ∷ words_by p (drop n text)
first_word p [] some = absurd (omega arith)
first_word p (b ∷ text) some = first_word_at p b text (p b) refl some (cut p (b ∷ text))

pub next_none : (text rest : List ℕ) (n k : ℕ) → n ≡ prefix_len is_blank text → rest ≡ drop n text → k ≡ position_or_len is_blank rest → k ≡ 0 → words text ≡ []
unfolding words
next_none text rest n k blanks is bytes none =
    let cut_off : rest ≡ drop (prefix_len is_blank text) text = is ∙ ap (λ m. drop m text) blanks in
    sym (words_after_blanks is_blank text) ∙ ap (words_by is_blank) (sym cut_off)
    ∙ no_word is_blank rest (ap (prefix_len is_blank) cut_off ∙ blank_cut is_blank text) (sym bytes ∙ none)

pub next_some : (text rest : List ℕ) (n k : ℕ) → n ≡ prefix_len is_blank text → rest ≡ drop n text → k ≡ position_or_len is_blank rest → 0 < k → words text ≡ take k rest ∷ words (drop k rest)
unfolding words
next_some text rest n k blanks is bytes some =
    let cut_off : rest ≡ drop (prefix_len is_blank text) text = is ∙ ap (λ m. drop m text) blanks in
    let filled : 0 < position_or_len is_blank rest = omega arith in
    sym (words_after_blanks is_blank text) ∙ ap (words_by is_blank) (sym cut_off)
    ∙ first_word is_blank rest filled ∙ ap (λ m. take m rest ∷ words_by is_blank (drop m rest)) (sym bytes)
