use Rattle.std.proofs.Common.{◌≡◌, ℕ, ◌<◌, get_or}
use Rattle.sky_units.specs.SpotData.{SpotData}
use Rattle.refusal_cert.proofs.tests.are_numbered.Given as goal

-- each spot before this place has its place for a number
abbrev pub invariant-loop-place : goal.invariant-loop-place
invariant-loop-place l = (p : ℕ) (d : SpotData) → p < l.place → (get_or l.spots p d).num ≡ p
