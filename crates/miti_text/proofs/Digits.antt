-- The digits that are written, read again.
use Rattle.std.proofs.Common.{◌≡◌, ℕ, ◌+◌, ◌*◌, ◌/◌, ◌%◌, ◌^◌, ◌<◌, true, false, List, [], ◌∷◌, ◌++◌, length, take, drop, refl, ap, sym, append_assoc, ◌∙◌, arith, zero, suc}
use Rattle.std.specs.Prelude.{decimal}
use Rattle.std.specs.List.{list_all, position_or_len, before_first, after_first}
use Rattle.std.specs.Char.{is_ascii_digit, digit_value}
use Rattle.std.specs.Str.Parse.{digits_value, AllDigits}
use Rattle.std.proofs.Math.Arith.{mod-mul}
use Rattle.std.proofs.Math.Nat.{one-le-pow}
use Rattle.std.proofs.Math.Seq.{take-append_seam}
use Rattle.std.proofs.lemmas.Nat.{mod_below}
use Rattle.std.proofs.lemmas.Fmt.{decimal_is_IsNumeral}
use Rattle.std.proofs.lemmas.Bool.Decides.{nat_tests}
use Rattle.miti_text.specs.Numerals.{is_dot}
use Rattle.miti_text.specs.Written.{last_digits}
use Rattle.miti_text.proofs.DigitTexts.{both_true}
use Rattle.miti_text.proofs.Fractions.{first_digit}

digit_shown : (n : ℕ) → n < 10 → (is_ascii_digit (48 + n) ≡ true) × (digit_value (48 + n) ≡ n)
digit_shown n below = grind (arith, nat_tests)

pub last_all : (places n : ℕ) → list_all is_ascii_digit (last_digits places n) ≡ true
last_all zero n = refl
last_all (suc places) n = rw ((digit_shown (n / 10 ^ places % 10) (mod_below (n / 10 ^ places) 10 (omega arith))).0, last_all places n) refl

pub last_len : (places n : ℕ) → length (last_digits places n) ≡ places
last_len zero n = refl
last_len (suc places) n = ap suc (last_len places n)

pub last_value : (places n : ℕ) → digits_value 10 (last_digits places n) ≡ n % 10 ^ places
last_value zero n = omega arith
last_value (suc places) n =
    let digit = digit_shown (n / 10 ^ places % 10) (mod_below (n / 10 ^ places) 10 (omega arith)) in
    let power : 10 * 10 ^ places ≡ 10 ^ suc places = omega arith in
    first_digit (48 + n / 10 ^ places % 10) (last_digits places n)
    ∙ ap (λ d. d * 10 ^ length (last_digits places n) + digits_value 10 (last_digits places n)) digit.1
    ∙ ap (λ k. n / 10 ^ places % 10 * 10 ^ k + digits_value 10 (last_digits places n)) (last_len places n)
    ∙ ap (λ v. n / 10 ^ places % 10 * 10 ^ places + v) (last_value places n)
    ∙ sym (mod-mul n {m = 10} {c = 10 ^ places} (omega arith) (one-le-pow places 10 (omega arith)))
    ∙ ap (λ m. n % m) power

digit_by_value : (c : ℕ) → digit_value c < 10 → is_ascii_digit c ≡ true
digit_by_value c below = grind (arith, nat_tests)

all_by_value : (ds : List ℕ) → AllDigits 10 ds → list_all is_ascii_digit ds ≡ true
all_by_value [] all = refl
all_by_value (c ∷ ds) all = rw (digit_by_value c all.0, all_by_value ds all.1) refl

pub decimal_all : (n : ℕ) → n < 2 ^ 64 → (0 < length (decimal n)) × (list_all is_ascii_digit (decimal n) ≡ true) × (digits_value 10 (decimal n) ≡ n)
decimal_all n small = let numeral = decimal_is_IsNumeral n small in (numeral.0.0, all_by_value (decimal n) numeral.0.1, numeral.1)

pub no_dot : (c : ℕ) → is_ascii_digit c ≡ true → is_dot c ≡ false
no_dot c digit = grind (arith, nat_tests)

dot_place : (whole fraction : List ℕ) → list_all is_ascii_digit whole ≡ true → position_or_len is_dot (whole ++ 46 ∷ fraction) ≡ length whole
dot_place [] fraction all = refl
dot_place (c ∷ whole) fraction all =
    let parts = both_true (is_ascii_digit c) (list_all is_ascii_digit whole) all in
    rw (no_dot c parts.0, dot_place whole fraction parts.1) (omega arith)

drop_past : (whole fraction : List ℕ) (n : ℕ) → n ≡ length whole → drop (n + 1) (whole ++ 46 ∷ fraction) ≡ fraction
drop_past [] fraction n is = let one : n + 1 ≡ suc zero = omega arith in rw one refl
drop_past (c ∷ whole) fraction n is = let more : n + 1 ≡ suc (length whole + 1) = omega arith in rw more (drop_past whole fraction (length whole) refl)

pub before_dot : (whole fraction : List ℕ) → list_all is_ascii_digit whole ≡ true → before_first is_dot (whole ++ 46 ∷ fraction) ≡ whole
before_dot whole fraction all = ap (λ n. take n (whole ++ 46 ∷ fraction)) (dot_place whole fraction all) ∙ take-append_seam whole (46 ∷ fraction)

pub after_dot : (whole fraction : List ℕ) → list_all is_ascii_digit whole ≡ true → after_first is_dot (whole ++ 46 ∷ fraction) ≡ fraction
after_dot whole fraction all = drop_past whole fraction (position_or_len is_dot (whole ++ 46 ∷ fraction)) (dot_place whole fraction all)

-- one more of the digits is written
pub next_digit : (text : List ℕ) (left rest n digit : ℕ) → left ≡ suc rest → digit ≡ 48 + n / 10 ^ rest % 10
    → (text ++ digit ∷ []) ++ last_digits rest n ≡ text ++ last_digits left n
next_digit text left rest n digit more is = rw (more, is) (append_assoc text ((48 + n / 10 ^ rest % 10) ∷ []) (last_digits rest n))
