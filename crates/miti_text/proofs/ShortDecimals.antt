-- A short decimal in front of a text.
use Rattle.std.proofs.Common.{◌≡◌, ℕ, ◌+◌, ◌-◌, ◌*◌, ◌/◌, ◌%◌, ◌^◌, ◌<◌, ◌≤◌, Bool, true, false, not, List, [], ◌∷◌, ◌++◌, length, take, drop, get_or, refl, ap, sym, ◌∙◌, filter, arith, zero, suc, Option, Some, None, ℤ, if◌then◌else◌, nat_lt, nat_le, ◌⊎◌, inl, inr, length-take, append_assoc}
use Rattle.std.specs.Prelude.{slice_index}
use Rattle.std.specs.Bool.{◌==◌}
use Rattle.std.specs.List.{list_all, slice_split, position_or_len, before_first, after_first}
use Rattle.std.specs.Char.{is_ascii_digit, digit_value}
use Rattle.std.specs.Option.{option_map}
use Rattle.std.specs.Str.Parse.{digits_value, starts_with_minus, without_leading_sign}
use Rattle.std.proofs.Math.Nat.{pow-le-pow_right, mul-le-mul_right, one-le-pow}
use Rattle.std.proofs.lemmas.Nat.{pow-add}
use Rattle.std.proofs.lemmas.Int.Digits.{digits_value_more}
use Rattle.std.proofs.lemmas.List.{take-append-drop}
use Rattle.std.proofs.lemmas.List.Folds.{list_all_more, list_all-append}
use Rattle.std.proofs.lemmas.Bool.Decides.{nat_tests}
use Rattle.miti_text.specs.Words.{is_blank, is_filled, words, ends_word}
use Rattle.miti_text.specs.Numerals.{is_dot, signed, with_sign, numerator, nearest, units_of}
use Rattle.miti_text.specs.Quantities.{places, limit, kept, quantity_of}
use Rattle.miti_text.specs.Parts.{BeginsWith}
use Rattle.miti_text.specs.declared.quantities.Quantity.{Quantity}
use Rattle.miti_text.specs.declared.short_decimals.ShortDecimal.{ShortDecimal}
use Rattle.miti_text.proofs.DigitTexts.{both_true, digit_is, value_below, value_append}
use Rattle.miti_text.proofs.Digits.{no_dot, before_dot, after_dot}
use Rattle.miti_text.proofs.Rounding.{nearest_scale, nearest_padded, nearest_within}

-- one more digit behind those of a number
next_value : (number power read digit : ℕ) → (number * power + read) * 10 + digit ≡ number * (10 * power) + (read * 10 + digit)
next_value number power read digit = omega arith

pub digit_more : (text : List ℕ) (number i value next : ℕ) → i < length text → list_all is_ascii_digit (take i text) ≡ true → is_ascii_digit (get_or text i 0) ≡ true
    → value ≡ number * 10 ^ i + digits_value 10 (take i text) → next ≡ value * 10 + (get_or text i 0 - 48)
    → (list_all is_ascii_digit (take (i + 1) text) ≡ true) × (next ≡ number * 10 ^ (i + 1) + digits_value 10 (take (i + 1) text))
digit_more text number i value next within before here is is_next =
    let digit = digit_is (get_or text i 0) here in
    let more = digits_value_more 10 text i within in
    let power : 10 ^ (i + 1) ≡ 10 * 10 ^ i = pow-add 10 i 1 ∙ omega arith in
    let step = next_value number (10 ^ i) (digits_value 10 (take i text)) (digit_value (get_or text i 0)) in
    let same : get_or text i 0 - 48 ≡ digit_value (get_or text i 0) = omega (arith, digit.0) in (
      list_all_more is_ascii_digit text i 0 within ∙ rw (before, here) refl,
      is_next ∙ ap (λ v. v * 10 + (get_or text i 0 - 48)) is ∙ ap (λ d. (number * 10 ^ i + digits_value 10 (take i text)) * 10 + d) same ∙ step
          ∙ ap (λ p. number * p + (digits_value 10 (take i text) * 10 + digit_value (get_or text i 0))) (sym power)
          ∙ ap (λ v. number * 10 ^ (i + 1) + v) (sym more),
    )

below_product : (number power read most : ℕ) → read < power → number < most → number * power + read < most * power
below_product number power read most less small = let more : (number + 1) * power ≤ most * power = mul-le-mul_right power (omega arith) in omega (arith, more)

-- the digits read so far write a number with few digits
pub value_small : (text : List ℕ) (number i most value : ℕ) → number < 10 ^ 6 → i ≤ most → most ≤ 12 → i ≤ length text → list_all is_ascii_digit (take i text) ≡ true
    → value ≡ number * 10 ^ i + digits_value 10 (take i text) → value < 10 ^ 6 * 10 ^ most
value_small text number i most value small few bound within digits is =
    let len : length (take i text) ≡ i = omega (arith, length-take i text) in
    let read : digits_value 10 (take i text) < 10 ^ i = rw len at (value_below (take i text) digits) in
    let power : 10 ^ i ≤ 10 ^ most = pow-le-pow_right {n = 10} (omega arith) few in
    let less = below_product number (10 ^ i) (digits_value 10 (take i text)) (10 ^ 6) read small in
    omega (arith, less, power)

-- a limit in units of the last place
pub limit_small : (limit power places most : ℕ) → limit ≤ 200000 → places ≤ most → power ≡ 10 ^ places → (limit * power ≤ 200000 * 10 ^ most) × (power ≤ 10 ^ most)
limit_small limit power places most small few is =
    let below : power ≤ 10 ^ most = rw is (pow-le-pow_right {n = 10} (omega arith) few) in
    let more : limit * power ≤ 200000 * power = mul-le-mul_right power small in
    (omega (arith, more, below), below)

-- what was written in few places, in units of the last of some places
pub record IsRounded (value written limit places units : ℕ) : Type 0 where
  pub found : Some units ≡ (if nat_le value (limit * 10 ^ written) then Some (nearest (value * 10 ^ places) (10 ^ written)) else None)
  pub range : units ≤ limit * 10 ^ places
  pub most : units ≤ 200000 * 10 ^ 6

is_within : (m n : ℕ) → m ≤ n → nat_le m n ≡ true
is_within m n h = grind (arith, nat_tests)

is_over : (m n : ℕ) → n < m → nat_le m n ≡ false
is_over m n h = grind (arith, nat_tests)

rounded : (value written limit places units : ℕ) → limit ≤ 200000 → places ≤ 6 → value ≤ limit * 10 ^ written → units ≡ nearest (value * 10 ^ places) (10 ^ written) → IsRounded value written limit places units
rounded value written limit places units small few within is =
    let range : nearest (value * 10 ^ places) (10 ^ written) ≤ limit * 10 ^ places = nearest_within value (10 ^ written) limit (10 ^ places) (one-le-pow written 10 (omega arith)) within in
    let most = limit_small limit (10 ^ places) places 6 small few refl in
    record { found = rw (is_within _ _ within) (ap Some is); range = rw is range; most = omega (arith, is, range, most.0) }

pub none_within : (value written limit power : ℕ) (u : ℕ) → power ≡ 10 ^ written → limit * power < value → None ≡ (if nat_le value (limit * 10 ^ written) then Some u else None)
none_within value written limit power u is over = rw (is_over value (limit * 10 ^ written) (rw is at over)) refl

pub few_places : (value written limit places power filled : ℕ) → limit ≤ 200000 → places ≤ 6 → written ≤ places → power ≡ 10 ^ written → value ≤ limit * power → filled ≡ 10 ^ (places - written)
    → IsRounded value written limit places (value * filled)
few_places value written limit places power filled small few short power_is within filled_is =
    let total : places ≡ written + (places - written) = omega arith in
    let same : value * filled ≡ nearest (value * 10 ^ places) (10 ^ written) =
    ap (λ p. value * p) filled_is ∙ sym (nearest_padded value written (places - written)) ∙ ap (λ m. nearest (value * 10 ^ m) (10 ^ written)) (sym total) in
    rounded value written limit places (value * filled) small few (rw power_is at within) same

pub more_places : (value written limit places power surplus : ℕ) → limit ≤ 200000 → places ≤ 6 → places < written → power ≡ 10 ^ written → value ≤ limit * power → surplus ≡ 10 ^ (written - places)
    → IsRounded value written limit places ((2 * value + surplus) / (2 * surplus))
more_places value written limit places power surplus small few long power_is within surplus_is =
    let total : written ≡ (written - places) + places = omega arith in
    let split : 10 ^ written ≡ 10 ^ (written - places) * 10 ^ places = ap (λ m. 10 ^ m) total ∙ pow-add 10 (written - places) places in
    let same : nearest value surplus ≡ nearest (value * 10 ^ places) (10 ^ written) =
    ap (λ d. nearest value d) surplus_is ∙ sym (nearest_scale value (10 ^ (written - places)) (10 ^ places) (one-le-pow places 10 (omega arith))) ∙ ap (λ d. nearest (value * 10 ^ places) d) (sym split) in
    rounded value written limit places _ small few (rw power_is at within) same

abbrev is_unparted : List ℕ → Bool
is_unparted = list_all (λ byte. not (is_blank byte))

digit_fills : (c : ℕ) → is_ascii_digit c ≡ true → not (is_blank c) ≡ true
digit_fills c digit = grind (arith, nat_tests)

digits_fill : (ds : List ℕ) → list_all is_ascii_digit ds ≡ true → is_unparted ds ≡ true
digits_fill [] all = refl
digits_fill (c ∷ ds) all =
    let parts = both_true (is_ascii_digit c) (list_all is_ascii_digit ds) all in rw (digit_fills c parts.0, digits_fill ds parts.1) refl

-- digits alone have no dot
dotless : (ds : List ℕ) → list_all is_ascii_digit ds ≡ true → position_or_len is_dot ds ≡ length ds
dotless [] all = refl
dotless (c ∷ ds) all =
    let parts = both_true (is_ascii_digit c) (list_all is_ascii_digit ds) all in rw (no_dot c parts.0, dotless ds parts.1) (omega arith)

all_taken : (ds : List ℕ) → take (length ds) ds ≡ ds
all_taken [] = refl
all_taken (c ∷ ds) = ap (λ t. c ∷ t) (all_taken ds)

none_left : (ds : List ℕ) (n : ℕ) → n ≡ length ds → drop (n + 1) ds ≡ []
none_left [] n is = let one : n + 1 ≡ suc zero = omega arith in rw one refl
none_left (c ∷ ds) n is = let more : n + 1 ≡ suc (length ds + 1) = omega arith in rw more (none_left ds (length ds) refl)

whole_alone : (ds : List ℕ) → list_all is_ascii_digit ds ≡ true → (before_first is_dot ds ≡ ds) × (after_first is_dot ds ≡ [])
whole_alone ds all = (ap (λ n. take n ds) (dotless ds all) ∙ all_taken ds, none_left ds (position_or_len is_dot ds) (dotless ds all))

pub few_whole : (text : List ℕ) (number count : ℕ) → count ≤ 6 → count ≤ length text → list_all is_ascii_digit (take count text) ≡ true → number ≡ 0 * 10 ^ count + digits_value 10 (take count text) → number < 10 ^ 6
few_whole text number count few within digits is =
    let len : length (take count text) ≡ count = omega (arith, length-take count text) in
    let read : digits_value 10 (take count text) < 10 ^ count = rw len at (value_below (take count text) digits) in
    let power : 10 ^ count ≤ 10 ^ 6 = pow-le-pow_right {n = 10} (omega arith) few in
    omega (arith, is, read, power)

numerator_is : (w f : List ℕ) (number count places value : ℕ) → number ≡ 0 * 10 ^ count + digits_value 10 w → places ≡ length f → value ≡ number * 10 ^ places + digits_value 10 f → value ≡ numerator w f
numerator_is w f number count places value number_is places_is is =
    let whole : number ≡ digits_value 10 w = omega (arith, number_is) in
    is ∙ ap (λ n. n * 10 ^ places + digits_value 10 f) whole ∙ ap (λ n. digits_value 10 w * 10 ^ n + digits_value 10 f) places_is ∙ sym (value_append w f)

-- digits, a dot, and digits
pub with_dot : (text rest fraction : List ℕ) (number count : ℕ) (d : ShortDecimal) → rest ≡ drop count text → rest ≡ 46 ∷ fraction → list_all is_ascii_digit (take count text) ≡ true
    → count ≤ length text → count ≤ 6 → number ≡ 0 * 10 ^ count + digits_value 10 (take count text) → list_all is_ascii_digit (take d.places fraction) ≡ true → d.places ≤ length fraction → d.places ≤ 12
    → d.value ≡ number * 10 ^ d.places + digits_value 10 (take d.places fraction) → d.digits ≡ count + d.places → d.rest.now ≡ drop d.places fraction → BeginsWith text d
with_dot text rest fraction number count d rest_is dot whole within few number_is digits fraction_within places_few value digits_are after =
    let w : List ℕ = take count text in
    let f : List ℕ = take d.places fraction in
    let whole_len : length (take count text) ≡ count = omega (arith, length-take count text) in
    let len : length (take d.places fraction) ≡ d.places = omega (arith, length-take d.places fraction) in
    let before = before_dot (take count text) (take d.places fraction) whole in
    let behind = after_dot (take count text) (take d.places fraction) whole in
    let parts : fraction ≡ take d.places fraction ++ d.rest.now = sym (take-append-drop d.places fraction) ∙ ap (λ r. take d.places fraction ++ r) (sym after) in
    let text_is : text ≡ take count text ++ 46 ∷ (take d.places fraction ++ d.rest.now) =
    sym (take-append-drop count text) ∙ ap (λ r. take count text ++ r) (sym rest_is ∙ dot ∙ ap (λ r. 46 ∷ r) parts) in
    record {
      front = take count text ++ 46 ∷ take d.places fraction;
      text_is = text_is ∙ sym (append_assoc (take count text) (46 ∷ take d.places fraction) d.rest.now);
      unparted = list_all-append (λ byte. not (is_blank byte)) (take count text) (46 ∷ take d.places fraction) ∙ rw (digits_fill (take count text) whole, digits_fill (take d.places fraction) digits) refl;
      whole = rw before whole;
      fraction = rw behind digits;
      digits = rw (before, behind, whole_len, len) digits_are;
      places = rw behind (sym len);
      value = rw (before, behind) (numerator_is (take count text) (take d.places fraction) number count d.places d.value number_is (sym len) value);
      few = places_few;
      small = let below = value_small fraction number d.places 12 d.value (few_whole text number count few within whole number_is) places_few (omega arith) fraction_within digits value in omega (arith, below);
    }

-- digits alone
pub with_no_dot : (text : List ℕ) (count : ℕ) (d : ShortDecimal) → d.rest.now ≡ drop count text → list_all is_ascii_digit (take count text) ≡ true → count ≤ length text → count ≤ 6
    → d.value ≡ 0 * 10 ^ count + digits_value 10 (take count text) → d.digits ≡ count → d.places ≡ 0 → BeginsWith text d
with_no_dot text count d rest_is whole within few value digits_are none =
    let whole_len : length (take count text) ≡ count = omega (arith, length-take count text) in
    let alone = whole_alone (take count text) whole in
    let read : d.value ≡ d.value * 10 ^ 0 + digits_value 10 [] = omega arith in
    record {
      front = take count text;
      text_is = sym (take-append-drop count text) ∙ ap (λ r. take count text ++ r) (sym rest_is);
      unparted = digits_fill (take count text) whole;
      whole = rw alone.0 whole;
      fraction = rw alone.1 refl;
      digits = rw (alone.0, alone.1) (omega (arith, whole_len, digits_are));
      places = rw alone.1 none;
      value = rw (alone.0, alone.1) (numerator_is (take count text) [] d.value count 0 d.value value refl read);
      few = omega (arith, none);
      small = let below = few_whole text d.value count few within whole value in omega (arith, below);
    }

-- a text by its first byte and the others
pub by_first : (text : List ℕ) (byte : ℕ) → 1 ≤ length text → get_or text 0 0 ≡ byte → text ≡ byte ∷ take (length text - 1) (drop 1 text)
by_first [] byte some is = absurd (omega arith)
by_first (c ∷ text) byte some is = let rest : length (c ∷ text) - 1 ≡ length text = omega arith in rw rest (ap (λ b. b ∷ text) is ∙ ap (λ t. byte ∷ t) (sym (all_taken text)))

split_end : (rest : List ℕ) → ends_word rest ≡ true → (parts : List (List ℕ)) × (slice_split is_blank rest ≡ [] ∷ parts)
split_end [] over = ([], refl)
split_end (b ∷ rest) over = (slice_split is_blank rest, rw over refl)

filled_blank : (b : ℕ) → not (is_blank b) ≡ true → is_blank b ≡ false
filled_blank b filled = grind (arith, nat_tests)

split_word : (word rest : List ℕ) (parts : List (List ℕ)) → is_unparted word ≡ true → slice_split is_blank rest ≡ [] ∷ parts → slice_split is_blank (word ++ rest) ≡ word ∷ parts
split_word [] rest parts filled is = is
split_word (b ∷ word) rest parts filled is =
    let both = both_true (not (is_blank b)) (is_unparted word) filled in
    rw (filled_blank b both.0, split_word word rest parts both.1 is) refl

-- the first word ends where a blank follows it, or nothing
pub word_in_front : (word rest : List ℕ) → 0 < length word → is_unparted word ≡ true → ends_word rest ≡ true → words (word ++ rest) ≡ word ∷ words rest
unfolding words
word_in_front [] rest some filled over = absurd (omega arith)
word_in_front (b ∷ word) rest some filled over =
    let end = split_end rest over in
    ap (filter is_filled) (split_word (b ∷ word) rest end.0 filled end.1) ∙ ap (λ ws. (b ∷ word) ∷ ws) (sym (ap (filter is_filled) end.1))

-- a word without its sign
record IsSigned (text front rest : List ℕ) : Type 0 where
  word : List ℕ
  text_is : text ≡ word ++ rest
  minus : starts_with_minus word ≡ starts_with_minus text
  unsigned : without_leading_sign word ≡ front
  filled : is_unparted word ≡ true
  some : 0 < length word

sign_filled : (c : ℕ) (front : List ℕ) → (c ≡ 45) ⊎ (c ≡ 43) → is_unparted front ≡ true → is_unparted (c ∷ front) ≡ true
sign_filled c front (inl is) filled = rw is filled
sign_filled c front (inr is) filled = rw is filled

is_number : (m n : ℕ) → (m == n) ≡ true → m ≡ n
is_number m n h = grind (arith, nat_tests)

signed_at : (c : ℕ) (text front rest : List ℕ) (x y : Bool) → (c == 45) ≡ x → (c == 43) ≡ y → 0 < length front → is_unparted front ≡ true
    → without_leading_sign (c ∷ text) ≡ front ++ rest → IsSigned (c ∷ text) front rest
signed_at c text front rest true y minus plus some filled is = record {
  word = c ∷ front;
  text_is = ap (λ t. c ∷ t) (rw minus at is);
  minus = refl;
  unsigned = rw minus refl;
  filled = sign_filled c front (inl (is_number c 45 minus)) filled;
  some = omega arith;
}
signed_at c text front rest false true minus plus some filled is = record {
  word = c ∷ front;
  text_is = ap (λ t. c ∷ t) (rw (minus, plus) at is);
  minus = refl;
  unsigned = rw (minus, plus) refl;
  filled = sign_filled c front (inr (is_number c 43 plus)) filled;
  some = omega arith;
}
signed_at c text [] rest false false minus plus some filled is = absurd (omega arith)
signed_at c text (d ∷ front) rest false false minus plus some filled is =
    let all : c ∷ text ≡ (d ∷ front) ++ rest = rw (minus, plus) at is in
    let same : c ≡ d = ap (λ t. slice_index t 0) all in
    let no_minus : (d == 45) ≡ false = rw same at minus in
    let no_plus : (d == 43) ≡ false = rw same at plus in
    record { word = d ∷ front; text_is = all; minus = no_minus ∙ sym minus; unsigned = rw (no_minus, no_plus) refl; filled = filled; some = some }

signed_word : (text front rest : List ℕ) → 0 < length front → is_unparted front ≡ true → without_leading_sign text ≡ front ++ rest → IsSigned text front rest
signed_word [] [] rest some filled is = absurd (omega arith)
signed_word [] (d ∷ front) rest some filled is = absurd (cc)
signed_word (c ∷ text) front rest some filled is = signed_at c text front rest (c == 45) (c == 43) refl refl some filled is

units_are : (w f : List ℕ) (most places value written units : ℕ) → 0 < length w + length f → list_all is_ascii_digit w ≡ true → list_all is_ascii_digit f ≡ true → value ≡ numerator w f → written ≡ length f
    → Some units ≡ (if nat_le value (most * 10 ^ written) then Some (nearest (value * 10 ^ places) (10 ^ written)) else None) → units_of most places w f ≡ Some units
units_are w f most places value written units some whole fraction value_is written_is found =
    let filled : nat_lt 0 (length w + length f) ≡ true = grind (arith, nat_tests) in
    rw (filled, whole, fraction) (sym (rw (value_is, written_is) at found))

abbrev quantity_from : Quantity → Bool → List ℕ → Option ℤ
quantity_from quantity negative unsigned =
    option_map (kept quantity) (with_sign negative (units_of (limit quantity negative) (places quantity) (before_first is_dot unsigned) (after_first is_dot unsigned)))

some_front : (front : List ℕ) → 0 < length (before_first is_dot front) + length (after_first is_dot front) → 0 < length front
some_front [] some = some
some_front (c ∷ front) some = omega arith

-- a text that begins with a short decimal, as the quantity of its first word
pub short_is : (quantity : Quantity) (text unsigned : List ℕ) (d : ShortDecimal) (negative : Bool) (most digits units : ℕ) → negative ≡ starts_with_minus text → unsigned ≡ without_leading_sign text
    → BeginsWith unsigned d → (d.digits ≡ 0 → ⊥) → ends_word d.rest.now ≡ true → most ≡ limit quantity negative → digits ≡ places quantity
    → Some units ≡ (if nat_le d.value (most * 10 ^ d.places) then Some (nearest (d.value * 10 ^ digits) (10 ^ d.places)) else None)
    → (word : List ℕ) × (words text ≡ word ∷ words d.rest.now) × (quantity_of quantity word ≡ Some (kept quantity (signed negative units)))
unfolding quantity_of
short_is quantity text unsigned d negative most digits units negative_is unsigned_is begins some over most_is digits_is found =
    let filled : 0 < length (before_first is_dot begins.front) + length (after_first is_dot begins.front) = omega (arith, begins.digits, some) in
    let s = signed_word text begins.front d.rest.now (some_front begins.front filled) begins.unparted (sym unsigned_is ∙ begins.text_is) in
    let units_is = units_are (before_first is_dot begins.front) (after_first is_dot begins.front) (limit quantity negative) (places quantity) d.value d.places units filled begins.whole begins.fraction begins.value begins.places
    (rw (most_is, digits_is) at found) in (
      s.word,
      ap words s.text_is ∙ word_in_front s.word d.rest.now s.some s.filled over,
      ap (λ n. quantity_from quantity n (without_leading_sign s.word)) (s.minus ∙ sym negative_is) ∙ ap (quantity_from quantity negative) s.unsigned
          ∙ ap (λ u. option_map (kept quantity) (with_sign negative u)) units_is,
    )

-- the difference to the digit 0, which wraps below it, is at most 9 at digits alone
pub digit_by_difference : (byte digit base : ℕ) → digit ≡ byte → base ≡ 48 → byte < 256 → (digit + (18446744073709551616 - base)) % 18446744073709551616 ≤ 9
    → (is_ascii_digit byte ≡ true) × ((digit + (18446744073709551616 - base)) % 18446744073709551616 ≡ byte - 48)
digit_by_difference byte digit base is base_is small below =
    let from : 48 ≤ byte = omega arith in
    let same : (digit + (18446744073709551616 - base)) % 18446744073709551616 ≡ byte - 48 = omega arith in
    let within : byte - 48 ≤ 9 = omega (arith, same, below) in
    (grind (arith, nat_tests), same)
