-- The digits of a fraction, rounded.
use Rattle.std.proofs.Common.{◌≡◌, ℕ, ◌+◌, ◌-◌, ◌*◌, ◌^◌, ◌<◌, ◌≤◌, Bool, true, false, ◌&&◌, List, [], ◌∷◌, length, take, drop, get_or, refl, ap, sym, ◌∙◌, arith, suc, min, Some, None, if◌then◌else◌, length-drop, length-take, ◌⊎◌, inl, inr}
use Rattle.std.specs.List.{list_all}
use Rattle.std.specs.Char.{is_ascii_digit, digit_value}
use Rattle.std.specs.Str.Parse.{digits_value}
use Rattle.std.proofs.Math.Nat.{pow-le-pow_right, mul-le-mul_right, one-le-pow}
use Rattle.std.proofs.lemmas.Nat.{pow-add}
use Rattle.std.proofs.lemmas.Bool.{cases_lt}
use Rattle.std.proofs.lemmas.List.{take-append-drop}
use Rattle.std.proofs.lemmas.List.Folds.{list_all-append}
use Rattle.miti_text.specs.Numerals.{nearest, denominator}
use Rattle.miti_text.proofs.DigitTexts.{both_true, digit_is, value_after, value_append, value_below}
use Rattle.miti_text.proofs.Rounding.{nearest_of_digits, nearest_filled, nearest_padded, nearest_within}

-- the value of digits by the first one
pub first_digit : (c : ℕ) (ds : List ℕ) → digits_value 10 (c ∷ ds) ≡ digit_value c * 10 ^ length ds + digits_value 10 ds
first_digit c ds = let zero : 0 * 10 + digit_value c ≡ digit_value c = omega arith in value_after (0 * 10 + digit_value c) ds ∙ ap (λ n. n * 10 ^ length ds + digits_value 10 ds) zero

front_digit : (ds : List ℕ) → list_all is_ascii_digit ds ≡ true → 1 ≤ length ds
    → (53 ≤ get_or ds 0 0 → nearest (digits_value 10 ds) (denominator ds) ≡ 1) × (get_or ds 0 0 < 53 → nearest (digits_value 10 ds) (denominator ds) ≡ 0)
front_digit [] all some = absurd (omega arith)
front_digit (c ∷ ds) all some =
    let parts = both_true (is_ascii_digit c) (list_all is_ascii_digit ds) all in
    let digit = digit_is c parts.0 in
    let power : 10 ^ suc (length ds) ≡ 10 * 10 ^ length ds = omega arith in
    let answer = nearest_of_digits (digit_value c) (10 ^ length ds) (digits_value 10 ds) digit.1 (value_below ds parts.1) in
    let same : nearest (digits_value 10 (c ∷ ds)) (denominator (c ∷ ds)) ≡ nearest (digit_value c * 10 ^ length ds + digits_value 10 ds) (10 * 10 ^ length ds) = ap (λ n. nearest n (denominator (c ∷ ds))) (first_digit c ds) ∙ ap (nearest _) power in (
      λ up. same ∙ answer.0 (omega (arith, digit.0)),
      λ down. same ∙ answer.1 (omega (arith, digit.0)),
    )

pub rounded_up : (ds : List ℕ) → list_all is_ascii_digit ds ≡ true → 1 ≤ length ds → 53 ≤ get_or ds 0 0 → nearest (digits_value 10 ds) (denominator ds) ≡ 1
rounded_up ds all some = (front_digit ds all some).0

pub rounded_down : (ds : List ℕ) → list_all is_ascii_digit ds ≡ true → 1 ≤ length ds → get_or ds 0 0 < 53 → nearest (digits_value 10 ds) (denominator ds) ≡ 0
rounded_down ds all some = (front_digit ds all some).1

pub rounded_nothing : (ds : List ℕ) → length ds ≡ 0 → nearest (digits_value 10 ds) (denominator ds) ≡ 0
rounded_nothing [] none = refl
rounded_nothing (c ∷ ds) none = absurd (omega arith)

pub all_parts : (k : ℕ) (f : List ℕ) → list_all is_ascii_digit f ≡ (list_all is_ascii_digit (take k f) && list_all is_ascii_digit (drop k f))
all_parts k f = ap (list_all is_ascii_digit) (sym (take-append-drop k f)) ∙ list_all-append is_ascii_digit (take k f) (drop k f)

-- a fraction cut after `k` digits
pub cut_value : (k : ℕ) (f : List ℕ) → digits_value 10 f ≡ digits_value 10 (take k f) * 10 ^ length (drop k f) + digits_value 10 (drop k f)
cut_value k f = ap (digits_value 10) (sym (take-append-drop k f)) ∙ value_append (take k f) (drop k f)

pub nearest_at : (n n' d d' : ℕ) → n ≡ n' → d ≡ d' → nearest n d ≡ nearest n' d'
nearest_at n n' d d' top bottom = rw (top, bottom) refl

cut_filled : (front back v p k len more : ℕ) → k ≡ p → len ≡ p + more → v ≡ front * 10 ^ more + back
    → nearest (v * 10 ^ p) (10 ^ len) ≡ front * 10 ^ (p - k) + nearest back (10 ^ more)
cut_filled front back v p k len more is total value =
    let none : p - k ≡ 0 = omega arith in
    let once : front * 10 ^ (p - k) ≡ front = rw none (omega arith) in
    nearest_at _ _ _ _ (ap (λ w. w * 10 ^ p) value) (ap (λ m. 10 ^ m) total) ∙ nearest_filled front back p more ∙ ap (λ w. w + nearest back (10 ^ more)) (sym once)

cut_padded : (front v p k : ℕ) → k ≤ p → v ≡ front → nearest (v * 10 ^ p) (10 ^ k) ≡ front * 10 ^ (p - k) + nearest 0 1
cut_padded front v p k short value =
    let total : p ≡ k + (p - k) = omega arith in
    nearest_at _ _ _ _ (ap (λ w. w * 10 ^ p) value ∙ ap (λ m. front * 10 ^ m) total) refl ∙ nearest_padded front k (p - k) ∙ omega arith

cut_nearest_at : (front : ℕ) (back : List ℕ) (v p k len : ℕ) → (len < p) ⊎ (p ≤ len) → k ≡ min p len → v ≡ front * 10 ^ length back + digits_value 10 back → length back ≡ len - k
    → nearest (v * 10 ^ p) (10 ^ len) ≡ front * 10 ^ (p - k) + nearest (digits_value 10 back) (10 ^ length back)
cut_nearest_at front back v p k len (inr filled) is value more = cut_filled front (digits_value 10 back) v p k len (length back) (omega arith) (omega arith) value
cut_nearest_at front [] v p k len (inl short) is value more =
    let all : len ≡ k = omega arith in ap (λ m. nearest (v * 10 ^ p) (10 ^ m)) all ∙ cut_padded front v p k (omega arith) (value ∙ omega arith)
cut_nearest_at front (c ∷ back) v p k len (inl short) is value more = absurd (omega arith)

power_splits : (p k : ℕ) → k ≤ p → 10 ^ p ≡ 10 ^ k * 10 ^ (p - k)
power_splits p k short = let total : p ≡ k + (p - k) = omega arith in ap (λ m. 10 ^ m) total ∙ pow-add 10 k (p - k)

below_power : (a k s rest : ℕ) → a < k → rest ≤ 1 → 0 < s → a * s + rest ≤ k * s
below_power a k s rest less one some = let more : (a + 1) * s ≤ k * s = mul-le-mul_right s (omega arith) in omega (arith, more)

nearest_below : (n d : ℕ) → n < d → nearest n d ≤ 1
nearest_below n d less = let once : n * 1 ≡ n = omega arith in rw once at (nearest_within n d 1 1 (omega arith) (omega arith))

pub fraction_is : (f : List ℕ) (p k units power rest : ℕ) → p ≤ 6 → k ≡ min p (length f) → list_all is_ascii_digit (take k f) ≡ true → list_all is_ascii_digit (drop k f) ≡ true
    → units ≡ min (digits_value 10 (take k f)) (10 ^ 18) → power ≡ 10 ^ (p - k) → rest ≡ nearest (digits_value 10 (drop k f)) (denominator (drop k f))
    → (units * power + rest ≡ nearest (digits_value 10 f * 10 ^ p) (denominator f)) × (units * power + rest ≤ 10 ^ p)
fraction_is f p k units power rest small is front back units_is power_is rest_is =
    let len : length (take k f) ≡ k = omega (arith, length-take k f) in
    let bound : digits_value 10 (take k f) < 10 ^ k = rw len at (value_below (take k f) front) in
    let most : 10 ^ k ≤ 10 ^ 18 = let short : k ≤ 18 = omega arith in pow-le-pow_right {n = 10} (omega arith) short in
    let exact : units ≡ digits_value 10 (take k f) = omega arith in
    let below : nearest (digits_value 10 (drop k f)) (denominator (drop k f)) ≤ 1 = nearest_below _ _ (value_below (drop k f) back) in
    let value = cut_nearest_at (digits_value 10 (take k f)) (drop k f) (digits_value 10 f) p k (length f) (cases_lt (length f) p) is (cut_value k f) (length-drop k f) in (
      ap (λ n. n * power + rest) exact ∙ ap (λ n. digits_value 10 (take k f) * n + rest) power_is ∙ ap (λ n. digits_value 10 (take k f) * 10 ^ (p - k) + n) rest_is ∙ sym value,
      rw (power_splits p k (omega arith), power_is) (below_power units (10 ^ k) (10 ^ (p - k)) rest (omega arith) (omega arith) (one-le-pow (p - k) 10 (omega arith))),
    )

-- what a number that was read says of its text
pub some_digits : (x : Bool) (u v : ℕ) → Some u ≡ (if x then Some v else None) → (x ≡ true) × (u ≡ v)
some_digits true u v is = (refl, cc)
some_digits false u v is = absurd (cc)

small_power : (p n : ℕ) → p ≤ 6 → n ≤ 10 ^ p → n ≤ 10 ^ 6
small_power p n small within = let most : 10 ^ p ≤ 10 ^ 6 = pow-le-pow_right {n = 10} (omega arith) small in omega (arith, most)

-- a fraction that was read in two parts
pub fraction_read : (f front back : List ℕ) (p k units power rest : ℕ) → p ≤ 6 → k ≡ min p (length f) → front ≡ take k f → back ≡ drop k f
    → Some units ≡ (if list_all is_ascii_digit front then Some (min (digits_value 10 front) (10 ^ 18)) else None) → list_all is_ascii_digit back ≡ true
    → power ≡ 10 ^ (p - k) → rest ≡ nearest (digits_value 10 back) (denominator back)
    → (Some (units * power + rest) ≡ (if list_all is_ascii_digit f then Some (nearest (digits_value 10 f * 10 ^ p) (denominator f)) else None))
    × (units * power + rest ≤ 10 ^ p) × (units * power + rest ≤ 10 ^ 6)
fraction_read f front back p k units power rest small is front_is back_is units_is back_all power_is rest_is =
    let read = some_digits _ _ _ (rw front_is at units_is) in
    let all : list_all is_ascii_digit (drop k f) ≡ true = rw back_is at back_all in
    let answer = fraction_is f p k units power rest small is read.0 all read.1 power_is (rw back_is at rest_is) in
    let whole : list_all is_ascii_digit f ≡ true = all_parts k f ∙ rw (read.0, all) refl in (
      rw whole (ap Some answer.0),
      answer.1,
      small_power p _ small answer.1,
    )
