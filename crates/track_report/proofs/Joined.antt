-- A line's words joined by spaces are the first word, and the others each behind a space.
use Rattle.std.proofs.Common.{◌≡◌, refl, ℕ, List, [], ◌∷◌, ◌++◌, ap, append-nil, append_assoc}
use Rattle.std.specs.List.{join_with_byte, flat_map}
use Rattle.track_report.specs.Words.{spaced}

pub join_spaced : (word : List ℕ) (words : List (List ℕ)) → join_with_byte 32 (word ∷ words) ≡ word ++ flat_map spaced words
join_spaced word [] = rw append-nil refl
join_spaced word (next ∷ words) = ap (λ rest. word ++ 32 ∷ rest) (join_spaced next words)

-- a text to which eight pieces were added one after the other is the text and the pieces, the last one apart
pub eight_added : (text a b c d e f g last : List ℕ) → (((((((text ++ a) ++ b) ++ c) ++ d) ++ e) ++ f) ++ g) ++ last
    ≡ text ++ ((a ++ (b ++ (c ++ (d ++ (e ++ (f ++ g)))))) ++ last)
eight_added text a b c d e f g last = simp append_assoc

-- a text to which four pieces were added one after the other
pub four_added : (text a b c d : List ℕ) → (((text ++ a) ++ b) ++ c) ++ d ≡ text ++ (((a ++ b) ++ c) ++ d)
four_added text a b c d = simp append_assoc
