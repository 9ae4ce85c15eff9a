-- What holds on each of five axes.
use Rattle.std.proofs.Common.{ℕ, ◌<◌, zero, suc, arith}
use Rattle.std.specs.Prelude.{ℤ, ◌≤ℤ◌}
use Rattle.std.proofs.lemmas.Int.{ints}

pub each_of_five : (P : ℕ → Type 0) → P 0 → P 1 → P 2 → P 3 → P 4 → (axis : ℕ) → axis < 5 → P axis
each_of_five P a b c d e zero h = a
each_of_five P a b c d e (suc zero) h = b
each_of_five P a b c d e (suc (suc zero)) h = c
each_of_five P a b c d e (suc (suc (suc zero))) h = d
each_of_five P a b c d e (suc (suc (suc (suc zero)))) h = e
each_of_five P a b c d e (suc (suc (suc (suc (suc n))))) h = absurd (omega arith)

pub no_less : (a : ℤ) → a ≤ℤ a
no_less a = omega (arith, ints)
