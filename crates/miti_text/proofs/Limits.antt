-- A decimal within its limit, from its parts.
use Rattle.std.proofs.Common.{◌≡◌, ℕ, ◌+◌, ◌*◌, ◌^◌, ◌<◌, ◌≤◌, Bool, true, false, ◌&&◌, List, [], ◌∷◌, length, refl, ap, sym, ◌∙◌, arith, zero, suc, min, Some, None, if◌then◌else◌, nat_lt, nat_le, ◌⊎◌, inl, inr}
use Rattle.std.specs.Bool.{◌==◌}
use Rattle.std.specs.List.{list_all}
use Rattle.std.specs.Char.{is_ascii_digit, digit_value}
use Rattle.std.specs.Str.Parse.{digits_value}
use Rattle.std.proofs.Math.Nat.{mul-le-mul_right, one-le-pow, pow-le-pow_right}
use Rattle.std.proofs.lemmas.Bool.{cases_lt}
use Rattle.std.proofs.lemmas.Bool.Decides.{nat_tests}
use Rattle.miti_text.specs.Numerals.{nearest, numerator, denominator, units_of}
use Rattle.miti_text.proofs.DigitTexts.{both_true, digit_is, value_append}
use Rattle.miti_text.proofs.Fractions.{first_digit, some_digits}
use Rattle.miti_text.proofs.Rounding.{nearest_shift, nearest_within}

not_equal : (m n : ℕ) → n < m → (m == n) ≡ false
not_equal m n less = grind (arith, nat_tests)

both_hold : (a b m n : ℕ) → a < b → m ≤ n → nat_lt a b ≡ nat_le m n
both_hold a b m n less within = grind (arith, nat_tests)

neither_holds : (a b m n : ℕ) → b ≤ a → n < m → nat_lt a b ≡ nat_le m n
neither_holds a b m n more over = grind (arith, nat_tests)

none_holds : (m m' n : ℕ) → n < m → n < m' → nat_le m n ≡ nat_le m' n
none_holds m m' n over over' = grind (arith, nat_tests)

pub le_holds : (m n : ℕ) → nat_le m n ≡ true → m ≤ n
le_holds m n h = grind (arith, nat_tests)

zero_digit : (c d k v : ℕ) → d + 48 ≡ c → 0 < k → ((c == 48) && (v == 0)) ≡ (d * k + v == 0)
zero_digit c zero k v is some =
    let here : c ≡ 48 = omega arith in
    let rest : v ≡ 0 * k + v = omega arith in
    rw here (ap (λ n. n == 0) rest)
zero_digit c (suc d) k v is some =
    let other : (c == 48) ≡ false = not_equal c 48 (omega arith) in
    let more : (suc d * k + v == 0) ≡ false = not_equal (suc d * k + v) 0 (omega arith) in
    rw (other, more) refl

-- digits write zero where each is one
pub zeros : (ds : List ℕ) → list_all is_ascii_digit ds ≡ true → list_all (λ digit. digit == 48) ds ≡ (digits_value 10 ds == 0)
zeros [] all = refl
zeros (c ∷ ds) all =
    let parts = both_true (is_ascii_digit c) (list_all is_ascii_digit ds) all in
    ap (λ x. (c == 48) && x) (zeros ds parts.1) ∙ zero_digit c (digit_value c) (10 ^ length ds) (digits_value 10 ds) (digit_is c parts.0).0 (one-le-pow (length ds) 10 (omega arith))
    ∙ ap (λ n. n == 0) (sym (first_digit c ds))

-- whole units and less than one unit, against a limit in whole units
pub within_equal : (count d f limit : ℕ) → count ≡ limit → (f == 0) ≡ nat_le (count * d + f) (limit * d)
within_equal count d f limit same = rw same (grind (arith, nat_tests))

spread : (count d f p : ℕ) → (count * d + f) * p ≡ count * p * d + f * p
spread count d f p = omega arith

le_along : {a b c : ℕ} → a ≡ b → a ≤ c → b ≤ c
le_along same below = omega arith

no_units : (x : Bool) (v : ℕ) → (if x && false then Some v else None) ≡ None
no_units true v = refl
no_units false v = refl

within_less_at : (count d f limit : ℕ) → f < d → (count ≡ limit → ⊥) → (count < limit) ⊎ (limit ≤ count) → nat_lt count limit ≡ nat_le (count * d + f) (limit * d)
within_less_at count d f limit below differ (inl less) =
    let more : (count + 1) * d ≤ limit * d = mul-le-mul_right d (omega arith) in both_hold _ _ _ _ less (omega (arith, more))
within_less_at count d f limit below differ (inr least) =
    let more : (limit + 1) * d ≤ count * d = mul-le-mul_right d (omega arith) in neither_holds _ _ _ _ least (omega (arith, more))

pub within_less : (count d f limit : ℕ) → f < d → (count ≡ limit → ⊥) → nat_lt count limit ≡ nat_le (count * d + f) (limit * d)
within_less count d f limit below differ = within_less_at count d f limit below differ (cases_lt count limit)

over_limit : (w cap d f limit : ℕ) → 0 < d → limit < cap → cap ≤ w → limit * d < w * d + f
over_limit w cap d f limit some over most = let more : (limit + 1) * d ≤ w * d = mul-le-mul_right d (omega arith) in omega (arith, more)

capped_at : (w cap d f limit : ℕ) → 0 < d → limit < cap → (w < cap) ⊎ (cap ≤ w) → nat_le (min w cap * d + f) (limit * d) ≡ nat_le (w * d + f) (limit * d)
capped_at w cap d f limit some over (inl small) = let same : min w cap ≡ w = omega arith in rw same refl
capped_at w cap d f limit some over (inr large) =
    none_holds _ _ _ (over_limit (min w cap) cap d f limit some over (omega arith)) (over_limit w cap d f limit some over large)

-- a count that was capped above the limit is refused as the count itself
pub capped : (w cap d f limit : ℕ) → 0 < d → limit < cap → nat_le (min w cap * d + f) (limit * d) ≡ nat_le (w * d + f) (limit * d)
capped w cap d f limit some over = capped_at w cap d f limit some over (cases_lt w cap)

not_capped_at : (w cap d f limit : ℕ) → 0 < d → limit < cap → (w < cap) ⊎ (cap ≤ w) → nat_le (min w cap * d + f) (limit * d) ≡ true → min w cap ≡ w
not_capped_at w cap d f limit some over (inl small) holds = omega arith
not_capped_at w cap d f limit some over (inr large) holds =
    absurd (omega (arith, le_holds _ _ holds, over_limit (min w cap) cap d f limit some over (omega arith)))

pub not_capped : (w cap d f limit : ℕ) → 0 < d → limit < cap → nat_le (min w cap * d + f) (limit * d) ≡ true → min w cap ≡ w
not_capped w cap d f limit some over holds = not_capped_at w cap d f limit some over (cases_lt w cap) holds

-- what the parts of a decimal give
pub units_refused : (w f : List ℕ) (limit places count : ℕ) → limit ≤ 200000 → list_all is_ascii_digit f ≡ true → count ≡ min (digits_value 10 w) (10 ^ 18)
    → nat_le (count * denominator f + digits_value 10 f) (limit * denominator f) ≡ false → units_of limit places w f ≡ None
units_refused w f limit places count small digits is over =
    let some : 0 < denominator f = one-le-pow (length f) 10 (omega arith) in
    let capped_is = capped (digits_value 10 w) (10 ^ 18) (denominator f) (digits_value 10 f) limit some (omega arith) in
    let value : numerator w f ≡ digits_value 10 w * denominator f + digits_value 10 f = value_append w f in
    let refused : nat_le (numerator w f) (limit * denominator f) ≡ false =
    ap (λ n. nat_le n (limit * denominator f)) value ∙ sym capped_is ∙ ap (λ n. nat_le (n * denominator f + digits_value 10 f) (limit * denominator f)) (sym is) ∙ over in
    rw refused (no_units _ _)

pub units_found : (w f : List ℕ) (limit places count part power : ℕ) → limit ≤ 200000 → nat_lt 0 (length w + length f) ≡ true → list_all is_ascii_digit w ≡ true → list_all is_ascii_digit f ≡ true
    → count ≡ min (digits_value 10 w) (10 ^ 18) → nat_le (count * denominator f + digits_value 10 f) (limit * denominator f) ≡ true
    → part ≡ nearest (digits_value 10 f * 10 ^ places) (denominator f) → power ≡ 10 ^ places
    → (units_of limit places w f ≡ Some (count * power + part)) × (count * power + part ≤ limit * 10 ^ places)
units_found w f limit places count part power small filled whole digits is within part_is power_is =
    let some : 0 < denominator f = one-le-pow (length f) 10 (omega arith) in
    let holds : nat_le (min (digits_value 10 w) (10 ^ 18) * denominator f + digits_value 10 f) (limit * denominator f) ≡ true = rw is at within in
    let exact : count ≡ digits_value 10 w = is ∙ not_capped (digits_value 10 w) (10 ^ 18) (denominator f) (digits_value 10 f) limit some (omega arith) holds in
    let value : numerator w f ≡ count * denominator f + digits_value 10 f = value_append w f ∙ ap (λ n. n * denominator f + digits_value 10 f) (sym exact) in
    let fits : nat_le (numerator w f) (limit * denominator f) ≡ true = ap (λ n. nat_le n (limit * denominator f)) value ∙ within in
    let units : nearest (numerator w f * 10 ^ places) (denominator f) ≡ count * power + part =
    ap (λ n. nearest n (denominator f)) (ap (λ n. n * 10 ^ places) value ∙ spread count (denominator f) (digits_value 10 f) (10 ^ places))
    ∙ nearest_shift (count * 10 ^ places) (digits_value 10 f * 10 ^ places) (denominator f) some
    ∙ ap (λ n. count * n + nearest (digits_value 10 f * 10 ^ places) (denominator f)) (sym power_is) ∙ ap (λ n. count * power + n) (sym part_is) in (
      rw (filled, whole, digits, fits, units) refl,
      le_along units (nearest_within (numerator w f) (denominator f) limit (10 ^ places) some (le_holds _ _ fits)),
    )

-- a decimal that was read in two parts
pub units_read : (w f : List ℕ) (limit places count part power : ℕ) → places ≤ 6 → limit ≤ 200000 → nat_lt 0 (length w + length f) ≡ true
    → Some count ≡ (if list_all is_ascii_digit w then Some (min (digits_value 10 w) (10 ^ 18)) else None)
    → Some part ≡ (if list_all is_ascii_digit f then Some (nearest (digits_value 10 f * 10 ^ places) (denominator f)) else None)
    → nat_le (count * denominator f + digits_value 10 f) (limit * denominator f) ≡ true → power ≡ 10 ^ places
    → (Some (count * power + part) ≡ units_of limit places w f) × (count * power + part ≤ limit * 10 ^ places) × (count * power + part ≤ 10 ^ 18)
units_read w f limit places count part power few small filled count_is part_is within power_is =
    let whole = some_digits _ _ _ count_is in
    let digits = some_digits _ _ _ part_is in
    let answer = units_found w f limit places count part power small filled whole.0 digits.0 whole.1 within digits.1 power_is in
    let most : limit * 10 ^ places ≤ 200000 * 10 ^ places = mul-le-mul_right (10 ^ places) small in
    let bound : 10 ^ places ≤ 10 ^ 6 = pow-le-pow_right {n = 10} (omega arith) few in (
      sym answer.0,
      answer.1,
      omega (arith, answer.1, most, bound),
    )
