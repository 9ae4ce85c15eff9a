-- Counts that rise.
use Rattle.std.specs.Prelude.{ℕ, ◌+◌, ◌≤◌}

-- a count doesn't fall, and rises by at most `most`
pub record Rises (most before after : ℕ) : Type 0 where
  pub no_less : before ≤ after
  pub few : after ≤ before + most
