-- The texts of numbers, and that they are read back.
use Rattle.std.proofs.Common.{◌≡◌, ℕ, ◌^◌, ◌<◌, ◌≤ℤ◌, suc, true, not, ℤ, pos, negsuc, neg_ℤ, List, [], ◌∷◌, length, refl, ap, subst, ◌∙◌, arith, Result, Ok, Err, FitsSigned, w32, w64, sym, get_or, codes}
use Rattle.std.specs.Fmt.{decimal, signed_decimal}
use Rattle.std.specs.Int.{w128, FitsUnsigned}
use Rattle.std.specs.Int.RustNames.{unsigned_abs}
use Rattle.std.proofs.lemmas.Int.{ints}
use Rattle.std.specs.Result.{OkIff, result_unwrap_or}
use Rattle.std.specs.Char.{digit_value}
use Rattle.std.specs.Str.Parse.{AllDigits, ParsesSigned}
use Rattle.std.proofs.lemmas.Fmt.{decimal_is_IsNumeral_wide}
use Rattle.std.proofs.lemmas.Str.Parse.{numerals_by_value, tells_digits, digit_from_value, parse_signed_minus, parse_signed_digits}
use Rattle.std.proofs.lemmas.Result.{Ok-from_Ok_iff}
use Rattle.std.proofs.lemmas.Bool.Decides.{nat_tests}
use Rattle.sky_units.specs.Ranges.{IsBetween}
use Rattle.track_report.specs.Reading.{is_separator, is_unparted}

-- a signed number of 128 bits is read back
pub wide_read_back : {E : Type 0} (z : ℤ) (bs : List ℕ) (r : Result ℤ E) → FitsSigned w128 z → bs ≡ signed_decimal z → ParsesSigned w128 10 bs r → r ≡ Ok z
wide_read_back (pos n) bs r fits is h =
    let k = decimal_is_IsNumeral_wide n (omega (arith, fits.sfits)) in
    let read = parse_signed_digits (numerals_by_value _ tells_digits) w128 (decimal n) r (subst (λ l. ParsesSigned w128 10 l r) is h) k.0.1 in
    Ok-from_Ok_iff r _ _ read (k.0.0, omega (arith, k.1, fits.sfits)) ∙ ap (λ m. Ok (pos m)) k.1
wide_read_back (negsuc n) bs r fits is h =
    let k = decimal_is_IsNumeral_wide (suc n) (omega (arith, fits.sfits)) in
    let read = parse_signed_minus (numerals_by_value _ tells_digits) w128 (45 ∷ decimal (suc n)) r (subst (λ l. ParsesSigned w128 10 l r) is h) refl in
    Ok-from_Ok_iff r _ _ read (k.0.1, k.0.0, omega (arith, k.1, fits.sfits)) ∙ ap (λ m. Ok (neg_ℤ (pos m))) k.1

digit_unparted : (b : ℕ) → digit_value b < 10 → not (is_separator b) ≡ true
digit_unparted b small = let at = digit_from_value b small in grind (arith, nat_tests)

digits_unparted : (ds : List ℕ) → AllDigits 10 ds → is_unparted ds ≡ true
digits_unparted [] all = refl
digits_unparted (d ∷ ds) all = rw (digit_unparted d all.0, digits_unparted ds all.1) refl

pub decimal_unparted : (n : ℕ) → n < 10 ^ 64 → is_unparted (decimal n) ≡ true
decimal_unparted n small = digits_unparted (decimal n) (decimal_is_IsNumeral_wide n small).0.1

pub signed_unparted : (z : ℤ) → FitsSigned w128 z → is_unparted (signed_decimal z) ≡ true
signed_unparted (pos n) fits = decimal_unparted n (omega (arith, fits.sfits))
signed_unparted (negsuc n) fits = decimal_unparted (suc n) (omega (arith, fits.sfits))

-- the count that a number is, where it fits
pub count_is : {E : Type 0} (r : Result ℕ E) (x : ℤ) (n : ℕ) → x ≡ pos n → n < 2 ^ 64 → OkIff r (FitsUnsigned w64 x) (unsigned_abs x) → result_unwrap_or r 0 ≡ n
count_is (Ok m) x n is small h = h.1 ∙ ap unsigned_abs is
count_is (Err e) x n is small h = absurd (h (subst (λ y. FitsUnsigned w64 y) (sym is) (omega (arith, ints, small))))

pub small_unparted : (z : ℤ) → FitsSigned w64 z → is_unparted (signed_decimal z) ≡ true
small_unparted (pos n) fits = decimal_unparted n (omega (arith, fits.sfits))
small_unparted (negsuc n) fits = decimal_unparted (suc n) (omega (arith, fits.sfits))

pub fits_between : (low high z : ℤ) → neg_ℤ (pos (10 ^ 38)) ≤ℤ low → high ≤ℤ pos (10 ^ 38) → IsBetween low high z → FitsSigned w128 z
fits_between low high (pos n) from to range = record { sfits = omega (arith, ints, to, range.to) }
fits_between low high (negsuc n) from to range = record { sfits = omega (arith, ints, from, range.from) }

pub nights_is : {E : Type 0} (r : Result ℕ E) (x : ℤ) (n : ℕ) → x ≡ pos n → n < 2 ^ 32 → OkIff r (FitsUnsigned w32 x) (unsigned_abs x) → result_unwrap_or r 0 ≡ n
nights_is (Ok m) x n is small h = h.1 ∙ ap unsigned_abs is
nights_is (Err e) x n is small h = absurd (h (subst (λ y. FitsUnsigned w32 y) (sym is) (omega (arith, ints, small))))

no_dash : (ds : List ℕ) → 0 < length ds → 45 ∷ ds ≡ 45 ∷ [] → ⊥
no_dash [] some is = omega (arith, some)
no_dash (d ∷ ds) some is = let same = ap length is in omega (arith, same)

digits_no_dash : (ds : List ℕ) → AllDigits 10 ds → ds ≡ 45 ∷ [] → ⊥
digits_no_dash [] all is = let same = ap length is in omega (arith, same)
digits_no_dash (d ∷ ds) all is =
    let minus : d ≡ 45 = ap (λ xs. get_or xs 0 0) is in
    let at = digit_from_value d all.0 in grind (arith, nat_tests)

-- a dash is no number
pub number_no_dash : (z : ℤ) → FitsSigned w64 z → signed_decimal z ≡ codes "-" → ⊥
number_no_dash (pos n) fits is = digits_no_dash (decimal n) (decimal_is_IsNumeral_wide n (omega (arith, fits.sfits))).0.1 is
number_no_dash (negsuc n) fits is = no_dash (decimal (suc n)) (decimal_is_IsNumeral_wide (suc n) (omega (arith, fits.sfits))).0.0 is
