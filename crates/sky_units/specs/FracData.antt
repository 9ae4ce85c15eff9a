-- A fraction: a whole number over a positive one.
use Rattle.std.specs.Prelude.{◌≡◌, ℤ, pos, ◌*ℤ◌, ◌^◌, neg_ℤ}
use Rattle.std.specs.Int.{IsGcd}
use Rattle.std.specs.Int.RustNames.{unsigned_abs}
use Rattle.std.specs.Ordering.{int_cmp}
use Rattle.std.specs.declared.cmp.Ordering.{Ordering}
use Rattle.sky_units.specs.Ranges.{IsBetween}

pub record FracData : Type 0 where
  pub num : ℤ
  pub den : ℤ

-- the fractions that are kept: at most 10^16 above, and from 1 to 10^22 below
pub record IsFrac (num den : ℤ) : Type 0 where
  pub num_in_range : IsBetween (neg_ℤ (pos (10 ^ 16))) (pos (10 ^ 16)) num
  pub den_in_range : IsBetween (pos 1) (pos (10 ^ 22)) den

-- the fraction of these numbers
abbrev pub frac_data : ℤ → ℤ → FracData
frac_data num den = record { num = num; den = den }

-- fractions are compared by their values
abbrev pub frac_cmp : FracData → FracData → Ordering
frac_cmp x y = int_cmp (x.num *ℤ y.den) (y.num *ℤ x.den)

-- two fractions of one value
abbrev pub HaveOneValue : FracData → FracData → Type 0
HaveOneValue x y = x.num *ℤ y.den ≡ y.num *ℤ x.den

-- nothing above 1 divides both numbers
abbrev pub IsInLowestTerms : FracData → Type 0
IsInLowestTerms x = IsGcd (unsigned_abs x.num) (unsigned_abs x.den) 1
