use Rattle.std.proofs.Common.{◌≡◌, ◌≤◌, ℤ, pos, neg_ℤ, ◌+ℤ◌, ◌*ℤ◌, to_z, of_z, w64, FitsSigned, refl, arith}
use Rattle.std.specs.Int.RustNames.{unsigned_abs}
use Rattle.std.proofs.lemmas.Int.{ints, to_z-of_z}
use Rattle.sky_math.proofs.Order.{product_most}
use Rattle.sky_units.specs.Ranges.{IsBetween}
use Rattle.collapse.proofs.reaching.reach.Goals as goal

record Terms (rate tol ticks : ℤ) : Type 0 where
  pub fits : FitsSigned w64 (to_z w64 (of_z w64 (to_z w64 (of_z w64 rate) *ℤ to_z w64 (of_z w64 ticks))) +ℤ to_z w64 (of_z w64 (to_z w64 (of_z w64 (to_z w64 (of_z w64 tol) +ℤ to_z w64 (of_z w64 tol))) *ℤ pos 1000000)))
  pub is : to_z w64 (of_z w64 (to_z w64 (of_z w64 (to_z w64 (of_z w64 rate) *ℤ to_z w64 (of_z w64 ticks))) +ℤ to_z w64 (of_z w64 (to_z w64 (of_z w64 (to_z w64 (of_z w64 tol) +ℤ to_z w64 (of_z w64 tol))) *ℤ pos 1000000)))) ≡ (rate *ℤ ticks) +ℤ ((tol +ℤ tol) *ℤ pos 1000000)
  pub size : IsBetween (neg_ℤ (pos 20000000000000)) (pos 20000000000000) ((rate *ℤ ticks) +ℤ ((tol +ℤ tol) *ℤ pos 1000000))

terms : (rate tol ticks : ℤ) → IsBetween (pos 0) (pos 10000000) rate → IsBetween (pos 0) (pos 100000) tol → IsBetween (pos 0) (pos 1000000) ticks → Terms rate tol ticks
terms rate tol ticks r t k =
    let a : FitsSigned w64 rate = omega (arith, ints) in
    let b : FitsSigned w64 tol = omega (arith, ints) in
    let c : FitsSigned w64 ticks = omega (arith, ints) in
    let m : unsigned_abs (rate *ℤ ticks) ≤ 10000000000000 = product_most rate ticks 10000000 1000000 (omega (arith, ints)) (omega (arith, ints)) in
    let d : FitsSigned w64 (rate *ℤ ticks) = omega (arith, ints, m) in
    let e : FitsSigned w64 (tol +ℤ tol) = omega (arith, ints) in
    let f : FitsSigned w64 ((tol +ℤ tol) *ℤ pos 1000000) = omega (arith, ints) in
    let g : FitsSigned w64 ((rate *ℤ ticks) +ℤ ((tol +ℤ tol) *ℤ pos 1000000)) = omega (arith, ints, m) in
    record { fits = simp to_z-of_z g; is = simp to_z-of_z refl; size = record { from = omega (arith, ints, m); to = omega (arith, ints, m) } }

pub overflow_add-result-2 : goal.overflow_add-result-2
overflow_add-result-2 c = (terms c.args.rate c.args.tol c.args.ticks c.requires.rate c.requires.tol c.requires.ticks).fits

pub returns-clause-value : goal.returns-clause-value
returns-clause-value c = (terms c.args.rate c.args.tol c.args.ticks c.requires.rate c.requires.tol c.requires.ticks).is

pub returns-clause-size : goal.returns-clause-size
returns-clause-size c = let t = terms c.args.rate c.args.tol c.args.ticks c.requires.rate c.requires.tol c.requires.ticks in rw t.is t.size
