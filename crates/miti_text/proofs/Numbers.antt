-- A quantity that is written reads as the same quantity.
use Rattle.std.proofs.Common.{◌≡◌, ℕ, ◌+◌, ◌*◌, ◌/◌, ◌%◌, ◌^◌, ◌<◌, ◌≤◌, Bool, true, false, List, [], ◌∷◌, ◌++◌, length, refl, ap, sym, ◌∙◌, arith, Option, Some, if◌then◌else◌, nat_lt, nat_le, ℤ, pos, negsuc, ◌≤ℤ◌, neg_ℤ}
use Rattle.std.specs.Prelude.{decimal, unsigned_abs}
use Rattle.std.specs.Bool.{◌==◌}
use Rattle.std.specs.Int.{is_negative}
use Rattle.sky_units.specs.Ranges.{IsBetween}
use Rattle.std.specs.Ordering.{int_eq}
use Rattle.std.specs.Fmt.{sign_text}
use Rattle.std.specs.List.{list_all}
use Rattle.std.specs.Char.{is_ascii_digit}
use Rattle.std.specs.Str.Parse.{digits_value, starts_with_minus, without_leading_sign}
use Rattle.std.specs.Option.{option_map}
use Rattle.std.proofs.Math.Nat.{one-le-pow, div-le_self}
use Rattle.std.proofs.lemmas.Nat.{div-add-mod'}
use Rattle.std.proofs.lemmas.Int.{ints}
use Rattle.std.proofs.lemmas.Bool.Decides.{nat_tests, Decides-int_eq}
use Rattle.miti_text.specs.Numerals.{whole, fraction, signed, with_sign, units_of, numerator, denominator, nearest}
use Rattle.miti_text.specs.Quantities.{places, limit, kept, quantity_of, IsKept}
use Rattle.miti_text.specs.Written.{last_digits, decimal_text}
use Rattle.miti_text.specs.declared.quantities.Quantity.{Quantity}
use Rattle.miti_text.specs.declared.quantities.Quantity.TheVariants.{Epoch, RightAscension, Declination, Magnitude}
use Rattle.miti_text.proofs.DigitTexts.{both_true, value_append}
use Rattle.miti_text.proofs.Digits.{last_all, last_len, last_value, decimal_all, before_dot, after_dot}
use Rattle.miti_text.proofs.Rounding.{nearest_shift, nearest_zero}

-- the parts of a text that begins with digits, or with a minus and digits
unsigned_text : (w f : List ℕ) → 0 < length w → list_all is_ascii_digit w ≡ true → (starts_with_minus (w ++ 46 ∷ f) ≡ false) × (without_leading_sign (w ++ 46 ∷ f) ≡ w ++ 46 ∷ f)
unsigned_text [] f some all = absurd (omega arith)
unsigned_text (c ∷ w) f some all =
    let digit = (both_true (is_ascii_digit c) (list_all is_ascii_digit w) all).0 in
    let no_minus : (c == 45) ≡ false = grind (arith, nat_tests) in
    let no_plus : (c == 43) ≡ false = grind (arith, nat_tests) in
    (no_minus, rw (no_minus, no_plus) refl)

sign_parts : (negative : Bool) (w f : List ℕ) → 0 < length w → list_all is_ascii_digit w ≡ true
    → (starts_with_minus (sign_text negative ++ w ++ 46 ∷ f) ≡ negative) × (without_leading_sign (sign_text negative ++ w ++ 46 ∷ f) ≡ w ++ 46 ∷ f)
sign_parts true w f some all = (refl, refl)
sign_parts false w f some all = unsigned_text w f some all

text_parts : (negative : Bool) (w f : List ℕ) → 0 < length w → list_all is_ascii_digit w ≡ true
    → (whole (sign_text negative ++ w ++ 46 ∷ f) ≡ w) × (fraction (sign_text negative ++ w ++ 46 ∷ f) ≡ f)
text_parts negative w f some all = let rest = (sign_parts negative w f some all).1 in (rw rest (before_dot w f all), rw rest (after_dot w f all))

more_than_none : (m n : ℕ) → 0 < m → nat_lt 0 (m + n) ≡ true
more_than_none m n some = grind (arith, nat_tests)

pub le_is : (m n : ℕ) → m ≤ n → nat_le m n ≡ true
le_is m n within = grind (arith, nat_tests)

and_none : (n : ℕ) → n ≡ n + 0
and_none n = omega arith

units_again : (w f : List ℕ) (most places n : ℕ) → 0 < length w → list_all is_ascii_digit w ≡ true → list_all is_ascii_digit f ≡ true → length f ≡ places
    → digits_value 10 w ≡ n / 10 ^ places → digits_value 10 f ≡ n % 10 ^ places → n ≤ most * 10 ^ places → units_of most places w f ≡ Some n
units_again w f most places n some whole_all fraction_all len whole_value fraction_value within =
    let d : ℕ = 10 ^ places in
    let power : denominator f ≡ 10 ^ places = ap (λ k. 10 ^ k) len in
    let value : numerator w f ≡ n =
    value_append w f ∙ ap (λ k. digits_value 10 w * 10 ^ k + digits_value 10 f) len ∙ ap (λ v. v * 10 ^ places + digits_value 10 f) whole_value
    ∙ ap (λ v. n / 10 ^ places * 10 ^ places + v) fraction_value ∙ div-add-mod' n (10 ^ places) in
    let filled : nat_lt 0 (length w + length f) ≡ true = more_than_none (length w) (length f) some in
    let fits : nat_le (numerator w f) (most * denominator f) ≡ true = rw (value, power) (le_is n (most * 10 ^ places) within) in
    let positive : 0 < 10 ^ places = one-le-pow places 10 (omega arith) in
    let units : nearest (numerator w f * 10 ^ places) (denominator f) ≡ n =
    rw (value, power) (ap (λ m. nearest m (10 ^ places)) (and_none (n * 10 ^ places)) ∙ nearest_shift n 0 (10 ^ places) positive ∙ ap (λ m. n + m) (nearest_zero (10 ^ places) positive) ∙ sym (and_none n)) in
    rw (filled, whole_all, fraction_all, fits, units) refl

not_negative : (n : ℕ) → is_negative (pos n) ≡ false
not_negative n = grind (arith, nat_tests)

signed_again : (z : ℤ) → signed (is_negative z) (unsigned_abs z) ≡ z
signed_again (pos n) = rw (not_negative n) refl
signed_again (negsuc n) = refl

bound_again : (below above places : ℕ) (z : ℤ) → IsBetween (neg_ℤ (pos (below * 10 ^ places))) (pos (above * 10 ^ places)) z
    → unsigned_abs z ≤ (if is_negative z then below else above) * 10 ^ places
bound_again below above places (pos n) holds = rw (not_negative n) (omega (arith, ints, holds.to))
bound_again below above places (negsuc n) holds = omega (arith, ints, holds.from)

within_again : (quantity : Quantity) (z : ℤ) → IsKept quantity z → unsigned_abs z ≤ limit quantity (is_negative z) * 10 ^ places quantity
within_again Epoch z holds = bound_again 0 200000 6 z holds
within_again RightAscension z holds = bound_again 0 360 6 z (record { from = holds.from; to = omega (arith, ints, holds.to) })
within_again Declination z holds = bound_again 90 90 6 z holds
within_again Magnitude z holds = bound_again 1000 1000 3 z holds

kept_turn : (z : ℤ) (x : Bool) → int_eq z (pos 360000000) ≡ x → z ≤ℤ pos 359999999 → (if int_eq z (pos 360000000) then pos 0 else z) ≡ z
kept_turn z true e most = let same : z ≡ pos 360000000 = (Decides-int_eq z (pos 360000000)).0 e in absurd (omega (arith, ints, same))
kept_turn z false e most = rw e refl

kept_again : (quantity : Quantity) (z : ℤ) → IsKept quantity z → kept quantity z ≡ z
kept_again Epoch z holds = refl
kept_again RightAscension z holds = kept_turn z (int_eq z (pos 360000000)) refl holds.to
kept_again Declination z holds = refl
kept_again Magnitude z holds = refl

small_abs : (most : ℕ) (z : ℤ) → IsBetween (neg_ℤ (pos most)) (pos most) z → unsigned_abs z ≤ most
small_abs most (pos n) holds = omega (arith, ints, holds.to)
small_abs most (negsuc n) holds = omega (arith, ints, holds.from)

pub small_size : (quantity : Quantity) (z : ℤ) → IsKept quantity z → unsigned_abs z ≤ 200000000000
small_size Epoch z holds = small_abs 200000000000 z (record { from = omega (arith, ints, holds.from); to = holds.to })
small_size RightAscension z holds = small_abs 200000000000 z (record { from = omega (arith, ints, holds.from); to = omega (arith, ints, holds.to) })
small_size Declination z holds = small_abs 200000000000 z (record { from = omega (arith, ints, holds.from); to = omega (arith, ints, holds.to) })
small_size Magnitude z holds = small_abs 200000000000 z (record { from = omega (arith, ints, holds.from); to = omega (arith, ints, holds.to) })

abbrev from_parts : Quantity → Bool → List ℕ → List ℕ → Option ℤ
from_parts quantity negative w f = option_map (kept quantity) (with_sign negative (units_of (limit quantity negative) (places quantity) w f))

-- what the whole part is written with
pub whole_all : (quantity : Quantity) (z : ℤ) → IsKept quantity z → let w = decimal (unsigned_abs z / 10 ^ places quantity) in
    (0 < length w) × (list_all is_ascii_digit w ≡ true) × (digits_value 10 w ≡ unsigned_abs z / 10 ^ places quantity)
whole_all quantity z holds =
    let size = small_size quantity z holds in
    let less : unsigned_abs z / 10 ^ places quantity ≤ unsigned_abs z = div-le_self (unsigned_abs z) (10 ^ places quantity) in
    decimal_all (unsigned_abs z / 10 ^ places quantity) (omega arith)

pub quantity_again : (quantity : Quantity) (z : ℤ) → IsKept quantity z → quantity_of quantity (decimal_text (places quantity) z) ≡ Some z
unfolding quantity_of
quantity_again quantity z holds =
    let text = decimal_text (places quantity) z in
    let n = unsigned_abs z in
    let w = decimal (unsigned_abs z / 10 ^ places quantity) in
    let f = last_digits (places quantity) (unsigned_abs z) in
    let written = whole_all quantity z holds in
    let minus = (sign_parts (is_negative z) w f written.0 written.1).0 in
    let parts = text_parts (is_negative z) w f written.0 written.1 in
    let units = units_again w f (limit quantity (is_negative z)) (places quantity) n written.0 written.1 (last_all (places quantity) n) (last_len (places quantity) n) written.2 (last_value (places quantity) n) (within_again quantity z holds) in
    ap (λ s. from_parts quantity s (whole text) (fraction text)) minus
    ∙ ap (λ v. from_parts quantity (is_negative z) v (fraction text)) parts.0
    ∙ ap (λ v. from_parts quantity (is_negative z) w v) parts.1
    ∙ ap (λ u. option_map (kept quantity) (with_sign (is_negative z) u)) units
    ∙ ap (λ v. Some (kept quantity v)) (signed_again z)
    ∙ ap Some (kept_again quantity z holds)
