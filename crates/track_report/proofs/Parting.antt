-- The first word of what is left of a text.
use Rattle.std.proofs.Common.{◌≡◌, ℕ, ◌+◌, ◌&&◌, Bool, true, false, not, List, [], ◌∷◌, ◌++◌, codes, length, take, drop, refl, ap, ◌∙◌, arith, append_assoc}
use Rattle.std.proofs.Math.Seq.{take-append_seam, drop-append-add}
use Rattle.std.specs.List.{position_or_len, before_first, after_first, join_with_byte}
use Rattle.track_report.specs.Reading.{is_separator, is_unparted, from_words}

pub both_true : (a b : Bool) → (a && b) ≡ true → (a ≡ true) × (b ≡ true)
both_true true true h = (refl, refl)
both_true true false h = (refl, h)
both_true false b h = (h, absurd (cc))

word_length : (word rest : List ℕ) (s : ℕ) → is_unparted word ≡ true → is_separator s ≡ true → position_or_len is_separator (word ++ s ∷ rest) ≡ length word
word_length [] rest s plain parts = rw parts refl
word_length (b ∷ word) rest s plain parts =
    let both = both_true (not (is_separator b)) (is_unparted word) plain in
    rw (both.0, word_length word rest s both.1 parts) (omega arith)

before_is : (word rest : List ℕ) (s : ℕ) → is_unparted word ≡ true → is_separator s ≡ true → before_first is_separator (word ++ s ∷ rest) ≡ word
before_is word rest s plain parts = ap (λ n. take n (word ++ s ∷ rest)) (word_length word rest s plain parts) ∙ take-append_seam word (s ∷ rest)

after_is : (word rest : List ℕ) (s : ℕ) → is_unparted word ≡ true → is_separator s ≡ true → after_first is_separator (word ++ s ∷ rest) ≡ rest
after_is word rest s plain parts = ap (λ n. drop (n + 1) (word ++ s ∷ rest)) (word_length word rest s plain parts) ∙ drop-append-add word (s ∷ rest) 1

last_left : (word more : List ℕ) → (word ++ codes "\n") ++ more ≡ word ++ 10 ∷ more
last_left word more = append_assoc word (codes "\n") more

regrouped : (word rest end more : List ℕ) → ((word ++ rest) ++ end) ++ more ≡ word ++ ((rest ++ end) ++ more)
regrouped word rest end more = simp append_assoc

-- the first word, and what follows the byte behind it
pub parted : (text word : List ℕ) (words : List (List ℕ)) (more : List ℕ) → is_unparted word ≡ true → text ≡ from_words (word ∷ words) more
    → (before_first is_separator text ≡ word) × (after_first is_separator text ≡ from_words words more)
parted text word [] more plain is =
    let here : text ≡ word ++ 10 ∷ more = is ∙ last_left word more in
    (ap (before_first is_separator) here ∙ before_is word more 10 plain refl, ap (after_first is_separator) here ∙ after_is word more 10 plain refl)
parted text word (next ∷ words) more plain is =
    let rest = from_words (next ∷ words) more in
    let here : text ≡ word ++ 32 ∷ rest = is ∙ regrouped word (32 ∷ join_with_byte 32 (next ∷ words)) (codes "\n") more in
    (ap (before_first is_separator) here ∙ before_is word rest 32 plain refl, ap (after_first is_separator) here ∙ after_is word rest 32 plain refl)
