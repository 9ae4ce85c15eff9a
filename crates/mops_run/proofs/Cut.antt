-- A line longer than 1,024 bytes is a comment or too long, however it goes on.
use Rattle.std.proofs.Common.{◌≡◌, ℕ, suc, ◌≤◌, List, [], ◌∷◌, length, refl, ap, arith, Bool, true, false, take}
use Rattle.std.specs.Prelude.{nat_lt, slice_index}
use Rattle.std.proofs.lemmas.List.{take_all, length-take-le}
use Rattle.std.proofs.lemmas.Bool.Decides.{nat_tests}
use Rattle.script_text.specs.Script.{script_line_of}

first-take : (n : ℕ) (line : List ℕ) → slice_index (take (suc n) line) 0 ≡ slice_index line 0
first-take n [] = refl
first-take n (b ∷ bs) = refl

by_length : (line : List ℕ) (b : Bool) → nat_lt 1024 (length line) ≡ b → script_line_of (take 1025 line) ≡ script_line_of line
unfolding script_line_of
by_length line true long =
    let above : 1025 ≤ length line = grind (arith, nat_tests) in
    let kept : length (take 1025 line) ≡ 1025 = length-take-le 1025 line above in
    let still : nat_lt 1024 (length (take 1025 line)) ≡ true = rw kept refl in
    rw (first-take 1024 line, still, long) refl
by_length line false short =
    let within : length line ≤ 1025 = grind (arith, nat_tests) in
    ap script_line_of (take_all 1025 line within)

-- what a line says shows in its first 1,025 bytes
pub script_line_of-take : (line : List ℕ) → script_line_of (take 1025 line) ≡ script_line_of line
script_line_of-take line = by_length line (nat_lt 1024 (length line)) refl
