use Rattle.std.proofs.Common.{◌≢◌, ℕ, ◌<◌, ◌≤◌, get_or}
use Rattle.sky_units.specs.SpotData.{SpotData}
use Rattle.refusal_cert.proofs.numbers.place_of.Given as goal

-- no spot before this place has the number
abbrev pub invariant-loop-place : goal.invariant-loop-place
invariant-loop-place l = (p : ℕ) (d : SpotData) → l.from ≤ p → p < l.place → (get_or l.spots p d).num ≢ l.number
