-- How the lines of bytes begin: at a line feed, or with a last line.
use Rattle.std.proofs.Common.{◌≡◌, ℕ, ◌<◌, cond, List, [], ◌∷◌, ◌++◌, length, ap, ◌∙◌, refl, arith, ne_eqb}
use Rattle.std.proofs.lemmas.List.Splits.{slice_split_at, slice_split_none, length-slice_split}
use Rattle.std.specs.Prelude.{◌==◌}
use Rattle.std.specs.List.{slice_split}
use Rattle.std.specs.Str.Lines.{lines, lines_of_parts, strip_carriage_return}
use Rattle.outer_io.specs.Seen.{NoFeed}

lines_of_parts-cons : (part : List ℕ) (parts : List (List ℕ)) → 0 < length parts → lines_of_parts (part ∷ parts) ≡ strip_carriage_return part ∷ lines_of_parts parts
lines_of_parts-cons part [] some = absurd (omega arith)
lines_of_parts-cons part (next ∷ more) some = refl

-- bytes before a line feed are a line without its carriage return, and the lines behind it follow
pub lines_at_feed : (raw rest : List ℕ) → NoFeed raw → lines (raw ++ 10 ∷ rest) ≡ strip_carriage_return raw ∷ lines rest
lines_at_feed raw rest none =
    let parts = slice_split (λ b. b == 10) in
    ap lines_of_parts (slice_split_at (λ b. b == 10) raw 10 rest none refl)
    ∙ lines_of_parts-cons raw (parts rest) (omega (arith, length-slice_split (λ b. b == 10) rest))

-- bytes with no line feed are one line, as they are
pub lines_of_last : (bytes : List ℕ) → NoFeed bytes → 0 < length bytes → lines bytes ≡ bytes ∷ []
lines_of_last bytes none some =
    ap lines_of_parts (slice_split_none (λ b. b == 10) bytes none)
    ∙ ap (λ t. cond t [] (bytes ∷ [])) (ne_eqb (length bytes) 0 (λ z. omega arith))
