-- How fractions bound quotients, and what narrowing an interval leaves.
use Rattle.std.proofs.Common.{◌≡◌, ℤ, pos, neg_ℤ, ◌+ℤ◌, ◌-ℤ◌, ◌*ℤ◌, ◌≤ℤ◌, ◌<ℤ◌, arith}
use Rattle.std.specs.Prelude.{Option, Some, None}
use Rattle.sky_math.proofs.Lines.{at_most_chain}
use Rattle.sky_math.proofs.Order.{linear, mul_le}
use Rattle.sky_math.proofs.Ring.{mul_comm, add_mul, sub_mul, neg_mul}
use Rattle.sky_math.specs.Quadratics.{IsWithin}
use Rattle.sky_units.specs.FracData.{FracData, IsFrac}
use Rattle.quad_fit.proofs.Intervals.{Interval, IsAtMost, IsAtLeast, Holds, HoldsExactly, IsFilled, IsNarrowed}

-- a/b in cross products: the order of two fractions carries over to what they bound
pub at_most_of_lower : (f g : FracData) (a b : ℤ) → pos 0 <ℤ f.den → pos 0 <ℤ g.den → pos 0 <ℤ b → (f.num *ℤ g.den) ≤ℤ (g.num *ℤ f.den) → IsAtMost g a b → IsAtMost f a b
at_most_of_lower f g a b p q r h k = at_most_chain f.num f.den g.num g.den a b p q r h k

pub at_least_of_higher : (f g : FracData) (a b : ℤ) → pos 0 <ℤ f.den → pos 0 <ℤ g.den → pos 0 <ℤ b → (g.num *ℤ f.den) ≤ℤ (f.num *ℤ g.den) → IsAtLeast g a b → IsAtLeast f a b
at_least_of_higher f g a b p q r h k = at_most_chain a b g.num g.den f.num f.den r q p k h

-- a quotient between two fractions orders them
pub filled_of_between : (f g : FracData) (a b : ℤ) → pos 0 <ℤ f.den → pos 0 <ℤ g.den → pos 0 <ℤ b → IsAtMost f a b → IsAtLeast g a b → (f.num *ℤ g.den) ≤ℤ (g.num *ℤ f.den)
filled_of_between f g a b p q r h k = at_most_chain f.num f.den a b g.num g.den p r q h k

pub positive_from : (n d : ℤ) → IsFrac n d → pos 0 <ℤ d
positive_from n d f = omega (arith, linear)

-- the interval of a triple holds exactly what suits the triple
pub suits_of_ends : (n k m a b : ℤ) → ((n -ℤ k) *ℤ b) ≤ℤ (a *ℤ m) → (a *ℤ m) ≤ℤ ((n +ℤ k) *ℤ b) → IsWithin (k *ℤ b) ((a *ℤ m) -ℤ (n *ℤ b))
suits_of_ends n k m a b low high =
    let l = simp (sub_mul) at low in
    let h = simp (add_mul) at high in
    (omega (arith, linear, l), omega (arith, linear, h))

pub ends_of_suits : (n k m a b : ℤ) → IsWithin (k *ℤ b) ((a *ℤ m) -ℤ (n *ℤ b)) → (((n -ℤ k) *ℤ b) ≤ℤ (a *ℤ m)) × ((a *ℤ m) ≤ℤ ((n +ℤ k) *ℤ b))
ends_of_suits n k m a b h =
    (rw (sub_mul) (omega (arith, linear, h)), rw (add_mul) (omega (arith, linear, h)))

-- the interval of an acceleration holds exactly the coefficients that keep it
pub within_of_ends : (acc a b : ℤ) → (neg_ℤ acc *ℤ b) ≤ℤ (a *ℤ pos 2000000000000) → (a *ℤ pos 2000000000000) ≤ℤ (acc *ℤ b) → IsWithin (acc *ℤ b) (pos 2000000000000 *ℤ a)
within_of_ends acc a b low high =
    let l = simp (neg_mul) at low in
    let e : pos 2000000000000 *ℤ a ≡ a *ℤ pos 2000000000000 = mul_comm (pos 2000000000000) a in
    rw e (l, high)

pub ends_of_within : (acc a b : ℤ) → IsWithin (acc *ℤ b) (pos 2000000000000 *ℤ a) → ((neg_ℤ acc *ℤ b) ≤ℤ (a *ℤ pos 2000000000000)) × ((a *ℤ pos 2000000000000) ≤ℤ (acc *ℤ b))
ends_of_within acc a b h =
    let e : a *ℤ pos 2000000000000 ≡ pos 2000000000000 *ℤ a = mul_comm a (pos 2000000000000) in
    rw e (rw (neg_mul) h.0, h.1)

pub scale_filled : (acc : ℤ) → pos 0 ≤ℤ acc → ((neg_ℤ acc *ℤ pos 2000000000000) ≤ℤ (acc *ℤ pos 2000000000000)) × (pos 0 <ℤ pos 2000000000000) × (pos 0 <ℤ pos 2000000000000)
scale_filled acc p =
    let m : (pos 2000000000000 *ℤ neg_ℤ acc) ≤ℤ (pos 2000000000000 *ℤ acc) = mul_le (pos 2000000000000) (neg_ℤ acc) acc (omega (arith, linear)) (omega (arith, linear)) in
    let l : pos 2000000000000 *ℤ neg_ℤ acc ≡ neg_ℤ acc *ℤ pos 2000000000000 = mul_comm (pos 2000000000000) (neg_ℤ acc) in
    let h : pos 2000000000000 *ℤ acc ≡ acc *ℤ pos 2000000000000 = mul_comm (pos 2000000000000) acc in
    (rw (l, h) at m, omega (arith, linear), omega (arith, linear))

-- ---- narrowing in steps
-- what holds so far, and a further step
pub narrowed_then : (from left : Interval) (Before Step Whole : ℤ → ℤ → Type 0) (result : Option Interval) →
    IsNarrowed from Before (Some left) → IsNarrowed left Step result → ((a b : ℤ) → Before a b → Step a b → Whole a b) → ((a b : ℤ) → Whole a b → Before a b × Step a b) → IsNarrowed from Whole result
narrowed_then from left Before Step Whole None before step join split = λ a b p h w. step a b p ((before.1 a b p).1 (h, (split a b w).0)) (split a b w).1
narrowed_then from left Before Step Whole (Some r) before step join split = (
  step.0,
  λ a b p. (
    λ h. let s = (step.1 a b p).0 h in let f = (before.1 a b p).0 s.0 in (f.0, join a b f.1 s.1),
    λ h. (step.1 a b p).1 ((before.1 a b p).1 (h.0, (split a b h.1).0), (split a b h.1).1),
  ),
)

-- nothing asked, nothing narrowed
pub narrowed_start : (from : Interval) (Whole : ℤ → ℤ → Type 0) → IsFilled from → ((a b : ℤ) → Whole a b) → IsNarrowed from Whole (Some from)
narrowed_start from Whole filled all = (filled, λ a b p. (λ h. (h, all a b), λ h. h.0))

-- an interval that holds exactly what is wanted narrows to what is wanted
pub narrowed_by : (left other : Interval) (Wanted : ℤ → ℤ → Type 0) (result : Option Interval) → HoldsExactly Wanted other → IsNarrowed left (Holds other) result → IsNarrowed left Wanted result
narrowed_by left other Wanted None exact n = λ a b p h w. n a b p h ((exact a b p).1 w)
narrowed_by left other Wanted (Some r) exact n =
    (n.0, λ a b p. (λ h. let s = (n.1 a b p).0 h in (s.0, (exact a b p).0 s.1), λ h. (n.1 a b p).1 (h.0, (exact a b p).1 h.1)))

-- the interval of a triple isn't empty
pub triple_filled : (n k m : ℤ) → pos 0 ≤ℤ k → pos 0 <ℤ m → (((n -ℤ k) *ℤ m) ≤ℤ ((n +ℤ k) *ℤ m)) × (pos 0 <ℤ m) × (pos 0 <ℤ m)
triple_filled n k m p q =
    let l : (m *ℤ (n -ℤ k)) ≤ℤ (m *ℤ (n +ℤ k)) = mul_le m (n -ℤ k) (n +ℤ k) (omega (arith, linear)) (omega (arith, linear)) in
    (rw (mul_comm m (n -ℤ k), mul_comm m (n +ℤ k)) at l, q, q)
