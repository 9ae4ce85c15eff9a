-- What digits write.
use Rattle.std.proofs.Common.{◌≡◌, ℕ, ◌+◌, ◌-◌, ◌*◌, ◌^◌, ◌<◌, ◌≤◌, Bool, true, false, ◌&&◌, List, [], ◌∷◌, ◌++◌, length, take, get_or, refl, ap, sym, ◌∙◌, arith, suc, min, Option, Some, None, if◌then◌else◌, nat_lt, nat_le}
use Rattle.std.specs.List.{list_all}
use Rattle.std.proofs.Math.Nat.{pow-le-pow_right}
use Rattle.std.specs.Char.{is_ascii_digit, digit_value}
use Rattle.miti_text.specs.Numerals.{size_of}
use Rattle.std.specs.Str.Parse.{digits_value, digits_value_after, AllDigits}
use Rattle.std.proofs.lemmas.Int.Digits.{digits_value-lt, digits_value_more}
use Rattle.std.proofs.lemmas.List.Folds.{list_all_more}
use Rattle.std.proofs.lemmas.Bool.Decides.{nat_tests}

pub digit_is : (c : ℕ) → is_ascii_digit c ≡ true → (digit_value c + 48 ≡ c) × (digit_value c < 10)
digit_is c h = grind (arith, nat_tests)

pub both_true : (a b : Bool) → (a && b) ≡ true → (a ≡ true) × (b ≡ true)
both_true true true h = (refl, refl)
both_true true false h = (refl, h)
both_true false b h = (h, absurd (cc))

pub all_digits : (ds : List ℕ) → list_all is_ascii_digit ds ≡ true → AllDigits 10 ds
all_digits [] h = tt
all_digits (c ∷ ds) h =
    let parts = both_true (is_ascii_digit c) (list_all is_ascii_digit ds) h in
    ((digit_is c parts.0).1, all_digits ds parts.1)

pub value_below : (ds : List ℕ) → list_all is_ascii_digit ds ≡ true → digits_value 10 ds < 10 ^ length ds
value_below ds h = digits_value-lt 10 ds (all_digits ds h)

one_digit_more : (n d p v w : ℕ) → w ≡ (0 * 10 + d) * p + v → (n * 10 + d) * p + v ≡ n * (10 * p) + w
one_digit_more n d p v w is = omega arith

pub value_after : (n : ℕ) (ds : List ℕ) → digits_value_after 10 n ds ≡ n * 10 ^ length ds + digits_value 10 ds
value_after n [] = omega arith
value_after n (c ∷ ds) =
    let power : 10 ^ suc (length ds) ≡ 10 * 10 ^ length ds = omega arith in
    value_after (n * 10 + digit_value c) ds
    ∙ one_digit_more n (digit_value c) (10 ^ length ds) (digits_value 10 ds) _ (value_after (0 * 10 + digit_value c) ds)
    ∙ ap (λ p. n * p + digits_value_after 10 (0 * 10 + digit_value c) ds) (sym power)

after_append : (n : ℕ) (xs ys : List ℕ) → digits_value_after 10 n (xs ++ ys) ≡ digits_value_after 10 (digits_value_after 10 n xs) ys
after_append n [] ys = refl
after_append n (c ∷ xs) ys = after_append (n * 10 + digit_value c) xs ys

pub value_append : (xs ys : List ℕ) → digits_value 10 (xs ++ ys) ≡ digits_value 10 xs * 10 ^ length ys + digits_value 10 ys
value_append xs ys = after_append 0 xs ys ∙ value_after (digits_value 10 xs) ys

-- one more digit, counted up to a cap
pub digits_step : (text : List ℕ) (i value next cap : ℕ) → i < length text → list_all is_ascii_digit (take i text) ≡ true → is_ascii_digit (get_or text i 0) ≡ true
    → value ≡ min (digits_value 10 (take i text)) cap → next ≡ min cap (value * 10 + (get_or text i 0 - 48))
    → (list_all is_ascii_digit (take (i + 1) text) ≡ true) × (next ≡ min (digits_value 10 (take (i + 1) text)) cap)
digits_step text i value next cap within before here is is_next =
    let digit = digit_is (get_or text i 0) here in
    let more = digits_value_more 10 text i within in (
      list_all_more is_ascii_digit text i 0 within ∙ rw (before, here) refl,
      omega (arith, digit.0, more),
    )

chosen : (a b x : Bool) (v w : ℕ) (r : Option ℕ) → a ≡ true → b ≡ true → (x ≡ true → v ≡ w) → r ≡ (if x then Some v else None) → r ≡ (if a && (b && x) then Some w else None)
chosen a b true v w r ea eb same is = rw (ea, eb) (is ∙ ap Some (same refl))
chosen a b false v w r ea eb same is = rw (ea, eb) is

-- a short text of digits is counted exactly
pub size_by_digits : (ds : List ℕ) (r : Option ℕ) → 0 < length ds → length ds ≤ 18
    → r ≡ (if list_all is_ascii_digit ds then Some (min (digits_value 10 ds) (10 ^ 18)) else None) → r ≡ size_of ds
size_by_digits ds r some short is =
    chosen (nat_lt 0 (length ds)) (nat_le (length ds) 18) (list_all is_ascii_digit ds) _ _ r
    (grind (arith, nat_tests)) (grind (arith, nat_tests))
    (λ h. let bound = value_below ds h in let power : 10 ^ length ds ≤ 10 ^ 18 = pow-le-pow_right {n = 10} (omega arith) short in omega (arith, bound, power)) is
