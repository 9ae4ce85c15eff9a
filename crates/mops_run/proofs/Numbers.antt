-- What a line says keeps to its rules: the numbers of a command are below 10^18, as they have at most eighteen digits, asked ids are few, and the id of
-- a detection keeps the rule of ids.
use Rattle.std.proofs.Common.{◌≡◌, ℕ, ◌<◌, ◌≤◌, ◌^◌, ℤ, List, [], ◌∷◌, length, refl, arith, Bool, true, false, cond}
use Rattle.std.specs.Prelude.{neg_ℤ, ◌<ℤ◌, pos, IsTrue, Option, Some, None, Result, Ok, Err, ◌&&◌, nat_lt, nat_le, bytes_eq, codes, not, ◌==◌, slice_index}
use Rattle.std.specs.List.{list_all, slice_split}
use Rattle.std.specs.Char.{is_ascii_digit}
use Rattle.std.specs.Str.Parse.{digits_value, starts_with_minus}
use Rattle.std.proofs.lemmas.Int.{ints}
use Rattle.std.proofs.Math.Nat.{pow-le-pow_right}
use Rattle.std.proofs.lemmas.Bool.Decides.{nat_tests}
use Rattle.std.proofs.lemmas.List.Filters.{length-filter_both}
use Rattle.std.proofs.lemmas.List.Splits.{length-slice_split}
use Rattle.std.proofs.lemmas.List.Sums.{count_by-le-length}
use Rattle.miti_text.specs.Numerals.{number_of, signed, with_sign, without_minus}
use Rattle.miti_text.specs.Observation.{Observation, is_id, is_site, is_name}
use Rattle.miti_text.specs.Words.{is_blank, is_filled, words}
use Rattle.miti_text.specs.Lines.{is_text, fields_of, observation_of, detection_of, check as check_rule, or_error as or_line_error, ◌>>=◌ as ◌>>>=◌}
use Rattle.miti_text.specs.declared.errors.LineError.{LineError}
use Rattle.miti_text.specs.declared.errors.LineError.TheVariants.{Id, Epoch, Ra, Dec, Mag, Site, Name, Long, Byte}
use Rattle.miti_text.proofs.DigitTexts.{value_below}
use Rattle.script_text.specs.Commands.{command_of, ask_of, alone, one_of, two_of, or_error, ◌>>=◌}
use Rattle.script_text.specs.Script.{script_line_of, detection_line}
use Rattle.script_text.specs.declared.lines.Line.{Line}
use Rattle.script_text.specs.declared.lines.Line.TheVariants as lines
use Rattle.script_text.specs.declared.errors.ScriptError.{ScriptError}
use Rattle.script_text.specs.declared.errors.ScriptError.TheVariants.{Words, Number}
use Rattle.mops_run.specs.declared.lines.Said.{Said}
use Rattle.mops_run.specs.declared.lines.Said.TheVariants.{Nothing, Waits, Refused, Asks, Malformed}
use Rattle.mops_run.specs.Lines.{said_of, said_by, IsNearCommand, IsNearLine}

-- less than 10^18 in absolute value
abbrev IsSmall : ℤ → Type 0
IsSmall z = (neg_ℤ (pos (10 ^ 18)) <ℤ z) × (z <ℤ pos (10 ^ 18))

-- a window's nights are near, and the id of a detection keeps its rule
abbrev KeepsRules : Said → Type 0
KeepsRules (Asks command) = IsNearCommand command
KeepsRules (Waits d) = IsTrue (is_id d.id)
KeepsRules Nothing = Unit {0}
KeepsRules (Refused error) = Unit {0}
KeepsRules (Malformed error) = Unit {0}

abbrev HasSmallWindow : Result Line ScriptError → Type 0
HasSmallWindow said = KeepsRules (said_of said)

-- a number that is small, where there is one
abbrev IsSmallNumber : Option ℤ → Type 0
IsSmallNumber None = Unit {0}
IsSmallNumber (Some z) = IsSmall z

digits_small : (b : Bool) (n : ℕ) → n < 10 ^ 18 → IsSmall (signed b n)
digits_small true n h = (omega (arith, ints), omega (arith, ints))
digits_small false n h = (omega (arith, ints), omega (arith, ints))

size_small : (minus : Bool) (digits : List ℕ) (b : Bool) → (nat_lt 0 (length digits) && (nat_le (length digits) 18 && list_all is_ascii_digit digits)) ≡ b
    → IsSmallNumber (with_sign minus (cond b (Some (digits_value 10 digits)) None))
size_small minus digits false e = tt
size_small minus digits true e =
    let short : length digits ≤ 18 = grind (arith, nat_tests) in
    let all : list_all is_ascii_digit digits ≡ true = grind (arith, nat_tests) in
    let bound = value_below digits all in
    let power : 10 ^ length digits ≤ 10 ^ 18 = pow-le-pow_right {n = 10} (omega arith) short in
    digits_small minus (digits_value 10 digits) (omega (arith, bound, power))

number_small : (text : List ℕ) → IsSmallNumber (number_of text)
unfolding number_of
number_small text = size_small (starts_with_minus text) (without_minus text) (nat_lt 0 (length (without_minus text)) && (nat_le (length (without_minus text)) 18 && list_all is_ascii_digit (without_minus text))) refl

either_known : (b : Bool) (x y : Result Line ScriptError) → HasSmallWindow x → (b ≡ false → HasSmallWindow y) → HasSmallWindow (cond b x y)
either_known true x y h k = h
either_known false x y h k = k refl

either : (b : Bool) (x y : Result Line ScriptError) → HasSmallWindow x → HasSmallWindow y → HasSmallWindow (cond b x y)
either true x y h k = h
either false x y h k = k

both_numbers : (low high : Option ℤ) → IsSmallNumber low → IsSmallNumber high → HasSmallWindow (or_error Number low >>= λ lo. or_error Number high >>= λ hi. Ok (lines.Window lo hi))
both_numbers None high h k = tt
both_numbers (Some lo) None h k = tt
both_numbers (Some lo) (Some hi) h k = record { lo_from = h.0; lo_to = h.1; hi_from = k.0; hi_to = k.1 }

window_small : (pair : Option (List ℕ × List ℕ)) → HasSmallWindow (or_error Words pair >>= λ p. or_error Number (number_of p.0) >>= λ lo. or_error Number (number_of p.1) >>= λ hi. Ok (lines.Window lo hi))
window_small None = tt
window_small (Some p) = both_numbers (number_of p.0) (number_of p.1) (number_small p.0) (number_small p.1)

set_small : (pair : Option (List ℕ × List ℕ)) → HasSmallWindow (or_error Words pair >>= λ p. or_error Number (number_of p.1) >>= λ value. Ok (lines.Set p.0 value))
set_small None = tt
set_small (Some p) = value (number_of p.1)
  where
    value : (found : Option ℤ) → HasSmallWindow (or_error Number found >>= λ value. Ok (lines.Set p.0 value))
    value None = tt
    value (Some z) = tt

tracklets_small : (word : Option (List ℕ)) → HasSmallWindow (or_error Words word >>= λ w. or_error Number (number_of w) >>= λ night. Ok (lines.Tracklets night))
tracklets_small None = tt
tracklets_small (Some w) = night (number_of w)
  where
    night : (found : Option ℤ) → HasSmallWindow (or_error Number found >>= λ night. Ok (lines.Tracklets night))
    night None = tt
    night (Some z) = tt

ask_small : (ws : List (List ℕ)) → length ws < 2 ^ 32 → HasSmallWindow (ask_of ws)
ask_small [] h = tt
ask_small (id ∷ ids) h = h

alone_small : (ws : List (List ℕ)) → HasSmallWindow (alone lines.Report ws) × HasSmallWindow (alone lines.Stats ws)
alone_small [] = (tt, tt)
alone_small (w ∷ ws) = (tt, tt)

command_small : (ws : List (List ℕ)) → length ws < 2 ^ 32 → HasSmallWindow (command_of ws)
unfolding command_of
command_small [] h = tt
command_small (name ∷ ws) h =
    either (bytes_eq name (codes "!set")) _ _ (set_small (two_of ws)) (
    either (bytes_eq name (codes "!window")) _ _ (window_small (two_of ws)) (
    either (bytes_eq name (codes "!tracklets")) _ _ (tracklets_small (one_of ws)) (
    either (bytes_eq name (codes "!report")) _ _ (alone_small ws).0 (
    either (bytes_eq name (codes "!ask")) _ _ (ask_small ws (omega (arith, h))) (
    either (bytes_eq name (codes "!stats")) _ _ (alone_small ws).1 tt)))))

-- a line that isn't too long has few words
few_words : (line : List ℕ) → nat_lt 1024 (length line) ≡ false → length (words line) < 2 ^ 32
unfolding words
few_words line short =
    let within : length line ≤ 1024 = grind (arith, nat_tests) in
    let parts = length-slice_split is_blank line in
    let kept = length-filter_both is_filled (λ w. not (is_filled w)) (λ w. refl) (slice_split is_blank line) in
    let blanks = count_by-le-length is_blank line in
    omega (arith, within, parts, kept, blanks)

-- ---- the id of a detection line
abbrev OfRule : Result Observation LineError → Type 0
OfRule (Ok d) = IsTrue (is_id d.id)
OfRule (Err e) = Unit {0}

then : {A : Type 0} (r : Result A LineError) (f : A → Result Observation LineError) → ((x : A) → OfRule (f x)) → OfRule (r >>>= f)
then (Ok x) f h = h x
then (Err e) f h = tt

by_id : (b : Bool) (rest : ℕ → Result Observation LineError) → (b ≡ true → OfRule (rest 0)) → OfRule (check_rule b Id >>>= rest)
by_id true rest h = h refl
by_id false rest h = tt

fields_keep : (id : List ℕ) (epoch ra dec mag : Option ℤ) (site name : List ℕ) → OfRule (fields_of id epoch ra dec mag site name)
unfolding fields_of
fields_keep id epoch ra dec mag site name = by_id (is_id id) _ (λ is.
    then (or_line_error Epoch epoch) _ (λ at. then (or_line_error Ra ra) _ (λ right. then (or_line_error Dec dec) _ (λ up. then (or_line_error Mag mag) _ (λ faint.
    then (check_rule (is_site site) Site) _ (λ s. then (check_rule (is_name name) Name) _ (λ n. is)))))))

observation_keeps : (ws : List (List ℕ)) → OfRule (observation_of ws)
observation_keeps [] = tt
observation_keeps (a ∷ []) = tt
observation_keeps (a ∷ b ∷ []) = tt
observation_keeps (a ∷ b ∷ c ∷ []) = tt
observation_keeps (a ∷ b ∷ c ∷ d ∷ []) = tt
observation_keeps (a ∷ b ∷ c ∷ d ∷ e ∷ []) = tt
observation_keeps (a ∷ b ∷ c ∷ d ∷ e ∷ f ∷ []) = tt
observation_keeps (id ∷ epoch ∷ ra ∷ dec ∷ mag ∷ site ∷ name ∷ more) = fields_keep id _ _ _ _ site name

detection_keeps : (line : List ℕ) → OfRule (detection_of line)
unfolding detection_of
detection_keeps line = then (check_rule (nat_le (length line) 1024) Long) _ (λ s. then (check_rule (list_all is_text line) Byte) _ (λ b. observation_keeps (words line)))

detection_small : (d : Result Observation LineError) → OfRule d → HasSmallWindow (detection_line d)
detection_small (Ok d) h = h
detection_small (Err e) h = tt

line_small : (line : List ℕ) → HasSmallWindow (script_line_of line)
unfolding script_line_of
line_small line =
    either (slice_index line 0 == 35) _ _ tt (
    either_known (nat_lt 1024 (length line)) _ _ tt (λ short.
    either (list_all is_blank line) _ _ tt (
    either (not (list_all is_text line)) _ _ tt (
    either (slice_index line 0 == 33) _ _ (command_small (words line) (few_words line short)) (detection_small (detection_of line) (detection_keeps line))))))

near : (said : Said) → KeepsRules said → IsNearLine said
near (Asks command) h = h
near (Waits d) h = tt
near Nothing h = tt
near (Refused error) h = tt
near (Malformed error) h = tt

pub line_near : (line : List ℕ) → IsNearLine (said_by line)
line_near line = near (said_by line) (line_small line)

-- the id of a detection that waits keeps its rule
abbrev pub HasIdRule : Said → Type 0
HasIdRule (Waits d) = IsTrue (is_id d.id)
HasIdRule Nothing = Unit {0}
HasIdRule (Refused error) = Unit {0}
HasIdRule (Asks command) = Unit {0}
HasIdRule (Malformed error) = Unit {0}

id_rule : (said : Said) → KeepsRules said → HasIdRule said
id_rule (Waits d) h = h
id_rule (Asks command) h = tt
id_rule Nothing h = tt
id_rule (Refused error) h = tt
id_rule (Malformed error) h = tt

pub line_ids : (line : List ℕ) → HasIdRule (said_by line)
line_ids line = id_rule (said_by line) (line_small line)
