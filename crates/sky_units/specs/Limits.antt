-- The limits of a window of nights and of an arc.
use Rattle.std.specs.Prelude.{ℕ, ◌^◌, ℤ, pos, neg_ℤ, ◌-ℤ◌, ◌<ℤ◌, ◌≤ℤ◌}

-- the most nights of a window
abbrev pub most_nights : ℕ
most_nights = 30

-- an arc lasts less than so many ticks (10^-6 day)
abbrev pub arc_ticks : ℤ
arc_ticks = pos 30000000

-- a window, from its first to its last night, has at least one night and no more than it may have
pub record IsWindow (window : ℤ × ℤ) : Type 0 where
  pub from : window.0 ≤ℤ window.1
  pub short : (window.1 -ℤ window.0) <ℤ pos most_nights

-- the first and the last night lie below 10^18 in absolute value
pub record IsNear (window : ℤ × ℤ) : Type 0 where
  pub lo_from : neg_ℤ (pos (10 ^ 18)) <ℤ window.0
  pub lo_to : window.0 <ℤ pos (10 ^ 18)
  pub hi_from : neg_ℤ (pos (10 ^ 18)) <ℤ window.1
  pub hi_to : window.1 <ℤ pos (10 ^ 18)
