-- Numbers that are drawn one after the other.
use Rattle.std.specs.Prelude.{ℕ, ◌+◌, ◌*◌, ◌/◌, ◌%◌, ◌^◌, zero, suc}

-- the state that a draw makes of the state before it
unfoldable pub drawn : ℕ → ℕ
drawn x = (1103515245 * x + 12345) % 2 ^ 31

-- the number below `count` that a state gives
unfoldable pub share : ℕ → ℕ → ℕ
share count x = x * count / 2 ^ 31

-- the state after n draws
abbrev pub after_draws : ℕ → ℕ → ℕ
after_draws zero x = x
after_draws (suc n) x = drawn (after_draws n x)
