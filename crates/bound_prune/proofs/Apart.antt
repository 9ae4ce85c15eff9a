-- How far numbers lie apart, within a range.
use Rattle.std.proofs.Common.{◌≡◌, ℕ, arith}
use Rattle.std.specs.Prelude.{ℤ, pos, neg_ℤ, ◌-ℤ◌, ◌≤ℤ◌}
use Rattle.std.specs.Int.RustNames.{unsigned_abs}
use Rattle.std.proofs.lemmas.Int.{ints, clamps}
use Rattle.bound_prune.specs.Bounds.{kept_within, two_turns}

-- the size of a difference
pub size_is : (low high : ℤ) (n : ℕ) → low ≤ℤ high → n ≡ unsigned_abs (high -ℤ low) → pos n ≡ high -ℤ low
size_is low high n h e = omega (arith, ints, h, e)

pub kept_none : (most z : ℤ) → pos 0 ≤ℤ most → z ≤ℤ pos 0 → pos 0 ≡ kept_within (pos 0) most z
unfolding kept_within
kept_none most z m h = omega (arith, ints, clamps)

pub kept_most : (most z : ℤ) → pos 0 ≤ℤ most → most ≤ℤ z → most ≡ kept_within (pos 0) most z
unfolding kept_within
kept_most most z m h = omega (arith, ints, clamps)

pub kept_all : (most z : ℤ) → pos 0 ≤ℤ z → z ≤ℤ most → z ≡ kept_within (pos 0) most z
unfolding kept_within
kept_all most z m h = omega (arith, ints, clamps)

-- the same on both sides of 0
pub kept_ahead : (z : ℤ) → pos 0 ≤ℤ z → kept_within (pos 0) two_turns z ≡ kept_within (neg_ℤ two_turns) two_turns z
unfolding kept_within
kept_ahead z h = omega (arith, ints, clamps)

pub kept_back : (y z : ℤ) → pos 0 ≤ℤ y → z ≡ neg_ℤ y → neg_ℤ (kept_within (pos 0) two_turns y) ≡ kept_within (neg_ℤ two_turns) two_turns z
unfolding kept_within
kept_back y z h e = omega (arith, ints, clamps)
