-- Whole numbers and decimals, as lines write them.
use Rattle.std.specs.Prelude.{ℕ, ◌+◌, ◌*◌, ◌/◌, ◌^◌, Bool, ◌&&◌, ◌==◌, nat_lt, nat_le, List, ◌++◌, length, drop, Option, Some, None, ℤ, pos, neg_ℤ, if◌then◌else◌}
use Rattle.std.specs.List.{list_all, before_first, after_first}
use Rattle.std.specs.Char.{is_ascii_digit}
use Rattle.std.specs.Str.Parse.{digits_value, starts_with_minus, without_leading_sign}

-- the number n, or -n
abbrev pub signed : Bool → ℕ → ℤ
signed is_negative n = if is_negative then neg_ℤ (pos n) else pos n

-- what follows an optional minus
abbrev pub without_minus : List ℕ → List ℕ
without_minus text = if starts_with_minus text then drop 1 text else text

-- one to eighteen digits, and their number
abbrev pub size_of : List ℕ → Option ℕ
size_of digits =
    if nat_lt 0 (length digits) && (nat_le (length digits) 18 && list_all is_ascii_digit digits)
    then Some (digits_value 10 digits) else None

abbrev pub with_sign : Bool → Option ℕ → Option ℤ
with_sign is_negative None = None
with_sign is_negative (Some n) = Some (signed is_negative n)

-- the whole number that a text writes: an optional minus and one to eighteen digits
unfoldable pub number_of : List ℕ → Option ℤ
number_of text = with_sign (starts_with_minus text) (size_of (without_minus text))

abbrev pub is_dot : ℕ → Bool
is_dot byte = byte == 46

-- the part of a decimal before its dot, and the part after it; a sign belongs to neither
abbrev pub whole : List ℕ → List ℕ
whole text = before_first is_dot (without_leading_sign text)

abbrev pub fraction : List ℕ → List ℕ
fraction text = after_first is_dot (without_leading_sign text)

-- both parts are digits, and at least one digit stands there
abbrev pub are_digits : List ℕ → List ℕ → Bool
are_digits whole fraction =
    nat_lt 0 (length whole + length fraction)
    && (list_all is_ascii_digit whole && list_all is_ascii_digit fraction)

-- the value of the two parts, numerator / denominator
abbrev pub numerator : List ℕ → List ℕ → ℕ
numerator whole fraction = digits_value 10 (whole ++ fraction)

abbrev pub denominator : List ℕ → ℕ
denominator fraction = 10 ^ length fraction

-- the whole number nearest to n / d, a tie upward
abbrev pub nearest : ℕ → ℕ → ℕ
nearest n d = (2 * n + d) / (2 * d)

-- the two parts in units of 10 ^ -places, to the nearest, where their value as written is at most `limit`
abbrev pub units_of : ℕ → ℕ → List ℕ → List ℕ → Option ℕ
units_of limit places whole fraction =
    if are_digits whole fraction && nat_le (numerator whole fraction) (limit * denominator fraction)
    then Some (nearest (numerator whole fraction * 10 ^ places) (denominator fraction)) else None
