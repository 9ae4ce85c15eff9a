-- How far a motion leads: what its products and floors stay within.
use Rattle.std.proofs.Common.{◌≡◌, ℕ, ◌*◌, ◌≤◌, ap, ◌∙◌, arith, ℤ, pos, negsuc, neg_ℤ, ◌+ℤ◌, ◌*ℤ◌, ◌≤ℤ◌, to_z, of_z, w64, FitsSigned}
use Rattle.std.proofs.Common.{lit<}
use Rattle.std.specs.Prelude.{unsigned_abs}
use Rattle.std.specs.Int.{int_div_euclid}
use Rattle.std.proofs.Math.Nat.{mul-le-mul}
use Rattle.std.proofs.lemmas.Int.{ints, to_z-of_z, fits_signed_mul, unsigned_abs-mul}
use Rattle.sky_units.specs.Ranges.{IsBetween}
use Rattle.made_sky.specs.Motions.{moved, IsRate, IsAcceleration, AreTicks}

days : (z : ℤ) → unsigned_abs z ≤ 8706000000000 → IsBetween (neg_ℤ (pos 8706000)) (pos 8706000) (int_div_euclid z (pos 1000000))
days (pos a) h = record { from = omega (arith, ints); to = omega (arith, ints) }
days (negsuc a) h = record { from = omega (arith, ints); to = omega (arith, ints) }

halves : (z : ℤ) → unsigned_abs z ≤ 8421604000000000000 → IsBetween (neg_ℤ (pos 4210802)) (pos 4210802) (int_div_euclid z (pos 2000000000000))
halves (pos a) h = record { from = omega (arith, ints); to = omega (arith, ints) }
halves (negsuc a) h = record { from = omega (arith, ints); to = omega (arith, ints) }

within : (a b : ℤ) (m n : ℕ) → unsigned_abs a ≤ m → unsigned_abs b ≤ n → unsigned_abs (a *ℤ b) ≤ m * n
within a b m n h k = rw unsigned_abs-mul (mul-le-mul h k)

-- a sum of two small numbers
pub record Sums (a b : ℤ) : Type 0 where
  pub fits : FitsSigned w64 (to_z w64 (of_z w64 a) +ℤ to_z w64 (of_z w64 b))
  pub sum_is : to_z w64 (of_z w64 (to_z w64 (of_z w64 a) +ℤ to_z w64 (of_z w64 b))) ≡ a +ℤ b

pub sums : (a b : ℤ) → IsBetween (neg_ℤ (pos 360000000)) (pos 360000000) a → IsBetween (neg_ℤ (pos 13000000)) (pos 13000000) b → Sums a b
sums a b h k = record { fits = omega (arith, ints, h.from, h.to, k.from, k.to); sum_is = omega (arith, ints, h.from, h.to, k.from, k.to) }

pub wider : (low high a : ℤ) → neg_ℤ (pos 360000000) ≤ℤ low → high ≤ℤ pos 360000000 → IsBetween low high a → IsBetween (neg_ℤ (pos 360000000)) (pos 360000000) a
wider low high a l h is = record { from = omega (arith, ints, l, is.from); to = omega (arith, ints, h, is.to) }

pub moved_within : (a b : ℤ) → IsBetween (neg_ℤ (pos 8706000)) (pos 8706000) a → IsBetween (neg_ℤ (pos 4210802)) (pos 4210802) b → IsBetween (neg_ℤ (pos 13000000)) (pos 13000000) (a +ℤ b)
moved_within a b h k = record { from = omega (arith, ints, h.from, k.from); to = omega (arith, ints, h.to, k.to) }

pub small : (b : ℤ) → IsBetween (neg_ℤ (pos 4210802)) (pos 4210802) b → IsBetween (neg_ℤ (pos 13000000)) (pos 13000000) b
small b k = record { from = omega (arith, ints, k.from); to = omega (arith, ints, k.to) }

-- what the code's products and sums are
record Terms (rate acceleration ticks : ℤ) : Type 0 where
  pub square_fits : FitsSigned w64 (ticks *ℤ ticks)
  pub rate_fits : FitsSigned w64 (rate *ℤ ticks)
  pub acceleration_fits : FitsSigned w64 (acceleration *ℤ (ticks *ℤ ticks))
  pub by_rate : IsBetween (neg_ℤ (pos 8706000)) (pos 8706000) (int_div_euclid (rate *ℤ ticks) (pos 1000000))
  pub by_acceleration : IsBetween (neg_ℤ (pos 4210802)) (pos 4210802) (int_div_euclid (acceleration *ℤ (ticks *ℤ ticks)) (pos 2000000000000))

terms : (rate acceleration ticks : ℤ) → IsRate rate → IsAcceleration acceleration → AreTicks ticks → Terms rate acceleration ticks
terms rate acceleration ticks r a t =
    let few : unsigned_abs ticks ≤ 29020000 = omega (arith, ints, t.from, t.to) in
    let slow : unsigned_abs rate ≤ 300000 = omega (arith, ints, r.from, r.to) in
    let weak : unsigned_abs acceleration ≤ 10000 = omega (arith, ints, a.from, a.to) in
    let square : unsigned_abs (ticks *ℤ ticks) ≤ 842160400000000 = within ticks ticks 29020000 29020000 few few in
    record {
      square_fits = fits_signed_mul w64 ticks ticks 29020000 29020000 few few (lit< tt);
      rate_fits = fits_signed_mul w64 rate ticks 300000 29020000 slow few (lit< tt);
      acceleration_fits = fits_signed_mul w64 acceleration (ticks *ℤ ticks) 10000 842160400000000 weak square (lit< tt);
      by_rate = days (rate *ℤ ticks) (within rate ticks 300000 29020000 slow few);
      by_acceleration = halves (acceleration *ℤ (ticks *ℤ ticks)) (within acceleration (ticks *ℤ ticks) 10000 842160400000000 weak square);
    }

-- how far the motion leads, as the code adds it
pub record Moved (rate acceleration ticks by_rate by_acceleration : ℤ) : Type 0 where
  pub fits : FitsSigned w64 (to_z w64 (of_z w64 by_rate) +ℤ to_z w64 (of_z w64 by_acceleration))
  pub value : to_z w64 (of_z w64 (to_z w64 (of_z w64 by_rate) +ℤ to_z w64 (of_z w64 by_acceleration))) ≡ moved rate acceleration ticks
  pub range : IsBetween (neg_ℤ (pos 13000000)) (pos 13000000) (to_z w64 (of_z w64 (to_z w64 (of_z w64 by_rate) +ℤ to_z w64 (of_z w64 by_acceleration))))

pub acceleration_fits : (rate acceleration ticks : ℤ) → IsRate rate → IsAcceleration acceleration → AreTicks ticks → FitsSigned w64 acceleration → FitsSigned w64 ticks
    → FitsSigned w64 (to_z w64 (of_z w64 acceleration) *ℤ to_z w64 (of_z w64 (to_z w64 (of_z w64 ticks) *ℤ to_z w64 (of_z w64 ticks))))
acceleration_fits rate acceleration ticks r a t fa ft =
    let is = terms rate acceleration ticks r a t in
    let square = is.square_fits in
    simp to_z-of_z is.acceleration_fits

pub moved_is : (rate acceleration ticks by_rate by_acceleration : ℤ) → IsRate rate → IsAcceleration acceleration → AreTicks ticks
    → FitsSigned w64 rate → FitsSigned w64 acceleration → FitsSigned w64 ticks
    → by_rate ≡ int_div_euclid (to_z w64 (of_z w64 (to_z w64 (of_z w64 rate) *ℤ to_z w64 (of_z w64 ticks)))) (pos 1000000)
    → by_acceleration ≡ int_div_euclid (to_z w64 (of_z w64 (to_z w64 (of_z w64 acceleration) *ℤ to_z w64 (of_z w64 (to_z w64 (of_z w64 ticks) *ℤ to_z w64 (of_z w64 ticks)))))) (pos 2000000000000)
    → Moved rate acceleration ticks by_rate by_acceleration
moved_is rate acceleration ticks by_rate by_acceleration r a t fr fa ft er ea =
    let is = terms rate acceleration ticks r a t in
    let square = is.square_fits in
    let first = is.rate_fits in
    let second = is.acceleration_fits in
    let one : by_rate ≡ int_div_euclid (rate *ℤ ticks) (pos 1000000) = simp to_z-of_z at er in
    let two : by_acceleration ≡ int_div_euclid (acceleration *ℤ (ticks *ℤ ticks)) (pos 2000000000000) = simp to_z-of_z at ea in
    let whole = sums _ _ (wider _ _ _ (omega (arith, ints)) (omega (arith, ints)) is.by_rate) (small _ is.by_acceleration) in
    record {
      fits = rw (one, two) whole.fits;
      value = rw (one, two) whole.sum_is;
      range = rw (one, two, whole.sum_is) (moved_within _ _ is.by_rate is.by_acceleration);
    }

-- a position and how far it moved
pub turned : (ra moved fits : ℤ) → moved ≡ fits → IsBetween (pos 0) (pos 359999999) ra → IsBetween (neg_ℤ (pos 13000000)) (pos 13000000) moved
    → to_z w64 (of_z w64 (to_z w64 (of_z w64 ra) +ℤ to_z w64 (of_z w64 moved))) ≡ ra +ℤ fits
turned ra moved fits is h k = (sums ra moved (wider _ _ _ (omega (arith, ints)) (omega (arith, ints)) h) k).sum_is ∙ ap (λ z. ra +ℤ z) is

pub raised : (dec moved fits : ℤ) → moved ≡ fits → IsBetween (neg_ℤ (pos 5000000)) (pos 5000000) dec → IsBetween (neg_ℤ (pos 13000000)) (pos 13000000) moved
    → to_z w64 (of_z w64 (to_z w64 (of_z w64 dec) +ℤ to_z w64 (of_z w64 moved))) ≡ dec +ℤ fits
raised dec moved fits is h k = (sums dec moved (wider _ _ _ (omega (arith, ints)) (omega (arith, ints)) h) k).sum_is ∙ ap (λ z. dec +ℤ z) is
