-- Counts that rise, and what they are counted against.
use Rattle.std.specs.Prelude.{ℕ, ◌+◌, ◌*◌, ◌≤◌, List, [], ◌∷◌, length, ⊤}
use Rattle.std.specs.List.{Contains}

-- a count doesn't fall, and rises by at most `most`
pub record Rises (most before after : ℕ) : Type 0 where
  pub no_less : before ≤ after
  pub few : after ≤ before + most

-- no two elements are the same
abbrev pub AreDifferent : {X : Type 0} → List X → Type 0
AreDifferent [] = ⊤
AreDifferent (x ∷ xs) = (¬ Contains xs x) × AreDifferent xs

-- a count rises by at most `free`, and `cost` more for each of some different things of a kind
pub record IsPaid {X : Type 0} (Kind : X → Type 0) (cost free before after : ℕ) : Type 0 where
  pub payers : List X
  pub different : AreDifferent payers
  pub each : (x : X) → Contains payers x → Kind x
  pub rises : Rises (free + cost * length payers) before after
