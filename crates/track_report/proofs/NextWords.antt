-- The next of some words that are read one after the other.
use Rattle.std.proofs.Common.{◌≡◌, ℕ, zero, suc, ◌+◌, ◌<◌, true, List, [], ◌∷◌, ◌++◌, length, take, drop, refl, ap, ◌∙◌, arith, nat_eq}
use Rattle.std.proofs.Math.Seq.{take-length, drop-length}
use Rattle.std.proofs.lemmas.Bool.Decides.{nat_tests}
use Rattle.std.specs.List.{list_all}
use Rattle.track_report.specs.Reading.{is_unparted, from_words}
use Rattle.track_report.proofs.Counts.{few_words}
use Rattle.track_report.proofs.Parting.{both_true}

-- the word at place i, and what stands before and behind it
pub record IsNext (words : List (List ℕ)) (i : ℕ) : Type 0 where
  pub word : List ℕ
  pub plain : is_unparted word ≡ true
  pub rest : drop i words ≡ word ∷ drop (suc i) words
  pub taken : take (suc i) words ≡ take i words ++ word ∷ []

pub next_of : (words : List (List ℕ)) (i : ℕ) → i < length words → list_all is_unparted words ≡ true → IsNext words i
next_of [] i within all = absurd (omega (arith, within))
next_of (w ∷ ws) zero within all = record { word = w; plain = (both_true (is_unparted w) (list_all is_unparted ws) all).0; rest = refl; taken = refl }
next_of (w ∷ ws) (suc i) within all =
    let next = next_of ws i (omega (arith, within)) (both_true (is_unparted w) (list_all is_unparted ws) all).1 in
    record { word = next.word; plain = next.plain; rest = next.rest; taken = ap (λ xs. w ∷ xs) next.taken }

pub text_next : (words : List (List ℕ)) (more text : List ℕ) (i : ℕ) (next : IsNext words i) → text ≡ from_words (drop i words) more
    → text ≡ from_words (next.word ∷ drop (suc i) words) more
text_next words more text i next is = is ∙ ap (λ ws. from_words ws more) next.rest

pub pushed : (words read : List (List ℕ)) (item : List ℕ) (i : ℕ) (next : IsNext words i) → read ≡ take i words → item ≡ next.word → read ++ item ∷ [] ≡ take (i + 1) words
pushed words read item i next before is =
    let one : i + 1 ≡ suc i = omega arith in rw (one, next.taken, before, is) refl

pub rest_of : (words : List (List ℕ)) (more text : List ℕ) (i : ℕ) → text ≡ from_words (drop (suc i) words) more → text ≡ from_words (drop (i + 1) words) more
rest_of words more text i is = let one : i + 1 ≡ suc i = omega arith in rw one is

pub not_empty : (words : List (List ℕ)) (more text : List ℕ) (i : ℕ) (next : IsNext words i) → text ≡ from_words (drop i words) more → nat_eq (length text) 0 ≡ true → ⊥
not_empty words more text i next is empty =
    let here : text ≡ from_words (next.word ∷ drop (suc i) words) more = text_next words more text i next is in
    let long = few_words (next.word ∷ drop (suc i) words) more in
    let same : length text ≡ length (from_words (next.word ∷ drop (suc i) words) more) = ap length here in
    let none : length text ≡ 0 = grind (arith, nat_tests) in omega (arith, long, same, none)

pub at_end : (words read : List (List ℕ)) (more text : List ℕ) (i : ℕ) → i ≡ length words → read ≡ take i words → text ≡ from_words (drop i words) more → (read ≡ words) × (text ≡ more)
at_end words read more text i end before is =
    let whole : take i words ≡ words = ap (λ n. take n words) end ∙ take-length words in
    let none : drop i words ≡ [] = ap (λ n. drop n words) end ∙ drop-length words in
    (before ∙ whole, is ∙ ap (λ ws. from_words ws more) none)
