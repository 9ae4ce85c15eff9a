-- The cases of a script line.
use Rattle.std.proofs.Common.{◌≡◌, ℕ, ◌≤◌, Bool, true, false, not, List, [], ◌∷◌, length, refl, ◌∙◌, arith, nat_lt, nat_le, Option, Some, None, Result, Ok, Err, ℤ, if◌then◌else◌}
use Rattle.std.specs.Bool.{◌==◌}
use Rattle.std.specs.Prelude.{slice_index, bytes_eq, codes}
use Rattle.std.specs.List.{list_all}
use Rattle.std.proofs.lemmas.Bool.Decides.{nat_tests}
use Rattle.miti_text.specs.Words.{is_blank}
use Rattle.miti_text.specs.Numerals.{number_of}
use Rattle.miti_text.specs.Lines.{is_text, detection_of}
use Rattle.miti_text.specs.declared.errors.LineError.{LineError}
use Rattle.miti_text.specs.declared.errors.LineError.TheVariants.{Byte, NoMemory}
use Rattle.script_text.specs.Commands.{command_of, ask_of, alone, one_of, two_of, or_error, ◌>>=◌, IsAnswer}
use Rattle.script_text.specs.Script.{script_line_of, detection_line}
use Rattle.script_text.specs.declared.lines.Line.{Line}
use Rattle.script_text.specs.declared.lines.Line.TheVariants.{Bad, Set, Window, Tracklets, Report, Stats}
use Rattle.script_text.specs.declared.errors.ScriptError.{ScriptError}
use Rattle.script_text.specs.declared.errors.ScriptError.TheVariants as errors

byte_case : (line : List ℕ) (x : Bool) → nat_le (length line) 1024 ≡ true → list_all is_text line ≡ x
    → (if not (list_all is_text line) then Ok (Bad Byte) else detection_line (detection_of line)) ≡ detection_line (detection_of line)
unfolding detection_of
byte_case line true short e = rw e refl
byte_case line false short e = rw (e, short) refl

-- a line that begins with neither `#` nor `!`, neither blank nor too long
pub detection_case : (line : List ℕ) → (slice_index line 0 == 35) ≡ false → length line ≤ 1024 → list_all is_blank line ≡ false → (slice_index line 0 == 33) ≡ false
    → script_line_of line ≡ detection_line (detection_of line)
unfolding script_line_of
detection_case line comment short blanks command =
    let long : nat_lt 1024 (length line) ≡ false = grind (arith, nat_tests) in
    let within : nat_le (length line) 1024 ≡ true = grind (arith, nat_tests) in
    rw (comment, long, blanks, command) (byte_case line (list_all is_text line) within refl)

-- no command is a bad line
one_number : (o : Option ℤ) (f : ℤ → Line) (e : LineError) → ((n : ℤ) → f n ≡ Bad e → ⊥) → (or_error errors.Number o >>= (λ n. Ok (f n))) ≡ Ok (Bad e) → ⊥
one_number (Some n) f e other is = other n cc
one_number None f e other is = cc

set_case : (pair : Option (List ℕ × List ℕ)) (e : LineError)
    → (or_error errors.Words pair >>= (λ p. or_error errors.Number (number_of p.1) >>= (λ n. Ok (Set p.0 n)))) ≡ Ok (Bad e) → ⊥
set_case (Some pair) e is = one_number (number_of pair.1) (λ n. Set pair.0 n) e (λ n h. cc) is
set_case None e is = cc

window_high : (o : Option ℤ) (high : Option ℤ) (e : LineError)
    → (or_error errors.Number o >>= (λ low. or_error errors.Number high >>= (λ n. Ok (Window low n)))) ≡ Ok (Bad e) → ⊥
window_high (Some low) high e is = one_number high (λ n. Window low n) e (λ n h. cc) is
window_high None high e is = cc

window_case : (pair : Option (List ℕ × List ℕ)) (e : LineError)
    → (or_error errors.Words pair >>= (λ p. or_error errors.Number (number_of p.0) >>= (λ low. or_error errors.Number (number_of p.1) >>= (λ n. Ok (Window low n))))) ≡ Ok (Bad e) → ⊥
window_case (Some pair) e is = window_high (number_of pair.0) (number_of pair.1) e is
window_case None e is = cc

tracklets_case : (word : Option (List ℕ)) (e : LineError) → (or_error errors.Words word >>= (λ w. or_error errors.Number (number_of w) >>= (λ n. Ok (Tracklets n)))) ≡ Ok (Bad e) → ⊥
tracklets_case (Some word) e is = one_number (number_of word) (λ n. Tracklets n) e (λ n h. cc) is
tracklets_case None e is = cc

alone_case : (command : Line) (words : List (List ℕ)) (e : LineError) → (command ≡ Bad e → ⊥) → alone command words ≡ Ok (Bad e) → ⊥
alone_case command [] e other is = other cc
alone_case command (word ∷ words) e other is = cc

ask_case : (words : List (List ℕ)) (e : LineError) → ask_of words ≡ Ok (Bad e) → ⊥
ask_case [] e is = cc
ask_case (id ∷ ids) e is = cc

chosen : (x : Bool) (a b : Result Line ScriptError) (e : LineError) → (a ≡ Ok (Bad e) → ⊥) → (b ≡ Ok (Bad e) → ⊥) → (if x then a else b) ≡ Ok (Bad e) → ⊥
chosen true a b e no_a no_b is = no_a is
chosen false a b e no_a no_b is = no_b is

command_case : (words : List (List ℕ)) (e : LineError) → command_of words ≡ Ok (Bad e) → ⊥
unfolding command_of
command_case [] e is = cc
command_case (name ∷ words) e is =
    chosen (bytes_eq name (codes "!set")) _ _ e (set_case (two_of words) e)
    (chosen (bytes_eq name (codes "!window")) _ _ e (window_case (two_of words) e)
    (chosen (bytes_eq name (codes "!tracklets")) _ _ e (tracklets_case (one_of words) e)
    (chosen (bytes_eq name (codes "!report")) _ _ e (alone_case Report words e (λ h. cc))
    (chosen (bytes_eq name (codes "!ask")) _ _ e (ask_case words e)
    (chosen (bytes_eq name (codes "!stats")) _ _ e (alone_case Stats words e (λ h. cc)) (λ h. cc)))))) is

pub no_bad_command : (words : List (List ℕ)) (r : Result Line ScriptError) → IsAnswer (command_of words) r → r ≡ Ok (Bad NoMemory) → ⊥
no_bad_command words (Ok line) answer is = command_case words NoMemory (answer ∙ is)
no_bad_command words (Err e) answer is = cc
