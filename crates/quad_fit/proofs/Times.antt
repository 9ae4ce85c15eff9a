-- The times of marks are compared as their 64 bits hold them.
use Rattle.std.proofs.Common.{◌≡◌, ℤ, ◌≤ℤ◌, ◌<ℤ◌, true, false, arith}
use Rattle.std.proofs.lemmas.Int.{ints}
use lib.Signed.{le_z, lt_z}
use Rattle.quad_fit.specs.MarkRanges.{IsMark}
use Rattle.quad_fit.proofs.Sizes.{held}

pub at_most : (s p f q s' f' : ℤ) → IsMark s p → IsMark f q → s ≡ s' → f ≡ f' → le_z (held s) (held f) ≡ true → s' ≤ℤ f'
at_most s p f q s' f' m n es ef h = omega (arith, ints)

pub not_at_most : (s p f q s' f' : ℤ) → IsMark s p → IsMark f q → s ≡ s' → f ≡ f' → le_z (held s) (held f) ≡ false → f' <ℤ s'
not_at_most s p f q s' f' m n es ef h = omega (arith, ints)

pub less : (s p f q s' f' : ℤ) → IsMark s p → IsMark f q → s ≡ s' → f ≡ f' → lt_z (held s) (held f) ≡ true → s' <ℤ f'
less s p f q s' f' m n es ef h = omega (arith, ints)

pub not_less : (s p f q s' f' : ℤ) → IsMark s p → IsMark f q → s ≡ s' → f ≡ f' → lt_z (held s) (held f) ≡ false → f' ≤ℤ s'
not_less s p f q s' f' m n es ef h = omega (arith, ints)
