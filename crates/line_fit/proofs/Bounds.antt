-- How quotients bound slopes, and what narrowing leaves.
use Rattle.std.proofs.Common.{◌≡◌, ◌≤◌, lit<, ℤ, pos, neg_ℤ, ◌+ℤ◌, ◌-ℤ◌, ◌*ℤ◌, ◌≤ℤ◌, ◌<ℤ◌, Bool, true, false, to_z, of_z, w64, FitsSigned, refl, arith}
use Rattle.std.specs.Prelude.{Option, Some, None}
use Rattle.std.specs.Int.Signed.{le_z}
use Rattle.std.specs.Int.RustNames.{unsigned_abs}
use Rattle.std.proofs.lemmas.Int.{ints, to_z-of_z, fits_signed_mul}
use Rattle.sky_math.proofs.Lines.{at_most_chain}
use Rattle.sky_math.proofs.Order.{linear, mul_le}
use Rattle.sky_math.proofs.Ring.{mul_comm}
use Rattle.sky_units.specs.FracData.{FracData}
use Rattle.sky_units.specs.Ranges.{IsBetween}
use Rattle.line_fit.specs.Lines.{is_at_most}
use Rattle.line_fit.specs.Quotients.{IsSlope, IsAtMost, IsAtLeast}
use Rattle.line_fit.specs.Slopes.{Holds, IsFilled, IsNarrowed}
use Rattle.line_fit.specs.declared.slopes.Slopes.{Slopes}

-- ---- two slopes compared
num_most : (n d : ℤ) → IsSlope n d → unsigned_abs n ≤ 1000000000
num_most n d f = omega (arith, ints)

den_most : (n d : ℤ) → IsSlope n d → unsigned_abs d ≤ 1000000
den_most n d f = omega (arith, ints)

cross_fits : (n d m e : ℤ) → IsSlope n d → IsSlope m e → FitsSigned w64 (n *ℤ e)
cross_fits n d m e f g = fits_signed_mul w64 n e 1000000000 1000000 (num_most n d f) (den_most m e g) (lit< tt)

pub compared : (n d m e : ℤ) → IsSlope n d → IsSlope m e →
    le_z (to_z w64 (of_z w64 (to_z w64 (of_z w64 n) *ℤ to_z w64 (of_z w64 e)))) (to_z w64 (of_z w64 (to_z w64 (of_z w64 m) *ℤ to_z w64 (of_z w64 d)))) ≡ le_z (n *ℤ e) (m *ℤ d)
compared n d m e f g =
    let a : FitsSigned w64 n = omega (arith, ints) in
    let b : FitsSigned w64 d = omega (arith, ints) in
    let a' : FitsSigned w64 m = omega (arith, ints) in
    let b' : FitsSigned w64 e = omega (arith, ints) in
    let x : FitsSigned w64 (n *ℤ e) = cross_fits n d m e f g in
    let y : FitsSigned w64 (m *ℤ d) = cross_fits m e n d g f in
    simp to_z-of_z refl

pub at_most_from : (f g : FracData) (r : Bool) → r ≡ is_at_most f g → r ≡ true → (f.num *ℤ g.den) ≤ℤ (g.num *ℤ f.den)
at_most_from f g r h e = let t : le_z (f.num *ℤ g.den) (g.num *ℤ f.den) ≡ true = rw (← h) e in omega (arith, ints, t)

pub above_from : (f g : FracData) (r : Bool) → r ≡ is_at_most f g → r ≡ false → (g.num *ℤ f.den) <ℤ (f.num *ℤ g.den)
above_from f g r h e = let t : le_z (f.num *ℤ g.den) (g.num *ℤ f.den) ≡ false = rw (← h) e in omega (arith, ints, t)

pub positive_from : (n d : ℤ) → IsSlope n d → pos 0 <ℤ d
positive_from n d f = omega (arith, linear)

-- ---- the order of two quotients carries over to what they bound
pub at_most_of_lower : (f g : FracData) (a b : ℤ) → pos 0 <ℤ f.den → pos 0 <ℤ g.den → pos 0 <ℤ b → (f.num *ℤ g.den) ≤ℤ (g.num *ℤ f.den) → IsAtMost g a b → IsAtMost f a b
at_most_of_lower f g a b p q r h k = at_most_chain f.num f.den g.num g.den a b p q r h k

pub at_least_of_higher : (f g : FracData) (a b : ℤ) → pos 0 <ℤ f.den → pos 0 <ℤ g.den → pos 0 <ℤ b → (g.num *ℤ f.den) ≤ℤ (f.num *ℤ g.den) → IsAtLeast g a b → IsAtLeast f a b
at_least_of_higher f g a b p q r h k = at_most_chain a b g.num g.den f.num f.den r q p k h

-- a quotient between two others orders them
pub filled_of_between : (f g : FracData) (a b : ℤ) → pos 0 <ℤ f.den → pos 0 <ℤ g.den → pos 0 <ℤ b → IsAtMost f a b → IsAtLeast g a b → (f.num *ℤ g.den) ≤ℤ (g.num *ℤ f.den)
filled_of_between f g a b p q r h k = at_most_chain f.num f.den a b g.num g.den p r q h k

-- ---- narrowing in steps
-- what holds so far, and a further step
pub narrowed_then : (from left : Slopes) (Before Step Whole : ℤ → ℤ → Type 0) (result : Option Slopes) →
    IsNarrowed from Before (Some left) → IsNarrowed left Step result → ((a b : ℤ) → Before a b → Step a b → Whole a b) → ((a b : ℤ) → Whole a b → Before a b × Step a b) → IsNarrowed from Whole result
narrowed_then from left Before Step Whole None before step join split = λ a b p h w. step a b p ((before.1 a b p).1 (h, (split a b w).0)) (split a b w).1
narrowed_then from left Before Step Whole (Some r) before step join split = (
  step.0,
  λ a b p. (
    λ h. let s = (step.1 a b p).0 h in let f = (before.1 a b p).0 s.0 in (f.0, join a b f.1 s.1),
    λ h. (step.1 a b p).1 ((before.1 a b p).1 (h.0, (split a b h.1).0), (split a b h.1).1),
  ),
)

-- nothing asked, nothing narrowed
pub narrowed_start : (from : Slopes) (Whole : ℤ → ℤ → Type 0) → IsFilled from → ((a b : ℤ) → Whole a b) → IsNarrowed from Whole (Some from)
narrowed_start from Whole filled all = (filled, λ a b p. (λ h. (h, all a b), λ h. h.0))

-- the same asked in other words
pub narrowed_same : (from : Slopes) (Before Whole : ℤ → ℤ → Type 0) (result : Option Slopes) → IsNarrowed from Before result → ((a b : ℤ) → Before a b → Whole a b) → ((a b : ℤ) → Whole a b → Before a b) → IsNarrowed from Whole result
narrowed_same from Before Whole None n there back = λ a b p h w. n a b p h (back a b w)
narrowed_same from Before Whole (Some r) n there back = (n.0, λ a b p. (λ h. let f = (n.1 a b p).0 h in (f.0, there a b f.1), λ h. (n.1 a b p).1 (h.0, back a b h.1)))

-- filled bounds hold their own ends
pub holds_low : (r : Slopes) → IsFilled r → Holds r r.low.num r.low.den
holds_low r f = (omega (arith, linear), f.0)

pub holds_high : (r : Slopes) → IsFilled r → Holds r r.high.num r.high.den
holds_high r f = (f.0, omega (arith, linear))

-- ---- the bounds of two spots
-- as code computes them: no step overflows, and they are what they should be
pub record BoundTerms (tol moved from to : ℤ) : Type 0 where
  pub low_is : to_z w64 (of_z w64 (to_z w64 (of_z w64 moved) -ℤ to_z w64 (of_z w64 (to_z w64 (of_z w64 tol) +ℤ to_z w64 (of_z w64 tol))))) ≡ moved -ℤ (tol +ℤ tol)
  pub high_is : to_z w64 (of_z w64 (to_z w64 (of_z w64 moved) +ℤ to_z w64 (of_z w64 (to_z w64 (of_z w64 tol) +ℤ to_z w64 (of_z w64 tol))))) ≡ moved +ℤ (tol +ℤ tol)
  pub under_is : to_z w64 (of_z w64 (to_z w64 (of_z w64 to) -ℤ to_z w64 (of_z w64 from))) ≡ to -ℤ from
  pub low_slope : IsSlope (moved -ℤ (tol +ℤ tol)) (to -ℤ from)
  pub high_slope : IsSlope (moved +ℤ (tol +ℤ tol)) (to -ℤ from)

pub bound_terms : (tol moved from to : ℤ) → IsBetween (pos 0) (pos 100000) tol → IsBetween (neg_ℤ (pos 180000000)) (pos 180000000) moved →
    IsBetween (pos 0) (pos 200000000000) from → IsBetween (pos 0) (pos 200000000000) to → from <ℤ to → (to -ℤ from) ≤ℤ pos 1000000 → BoundTerms tol moved from to
bound_terms tol moved from to t m f g later day = record {
  low_is = omega (arith, ints);
  high_is = omega (arith, ints);
  under_is = omega (arith, ints);
  low_slope = record { num_in_range = record { from = omega (arith, ints); to = omega (arith, ints) }; den_in_range = record { from = omega (arith, ints); to = omega (arith, ints) } };
  high_slope = record { num_in_range = record { from = omega (arith, ints); to = omega (arith, ints) }; den_in_range = record { from = omega (arith, ints); to = omega (arith, ints) } };
}

-- something lies between a number less a gap and the number and the gap
pub two_filled : (n k m : ℤ) → pos 0 ≤ℤ k → pos 0 <ℤ m → (((n -ℤ k) *ℤ m) ≤ℤ ((n +ℤ k) *ℤ m)) × (pos 0 <ℤ m) × (pos 0 <ℤ m)
two_filled n k m p q =
    let l : (m *ℤ (n -ℤ k)) ≤ℤ (m *ℤ (n +ℤ k)) = mul_le m (n -ℤ k) (n +ℤ k) (omega (arith, linear)) (omega (arith, linear)) in
    (rw (mul_comm m (n -ℤ k), mul_comm m (n +ℤ k)) at l, q, q)
