use Rattle.std.proofs.Common.{◌≡◌, ℕ, ◌<◌, get_or}
use Rattle.sky_units.specs.SpotData.{SpotData}
use Rattle.window_incr.proofs.asking.are_same.Given as goal

abbrev pub invariant-loop-i : goal.invariant-loop-i
invariant-loop-i l = (k : ℕ) (d : SpotData) → k < l.i → (get_or l.one k d).num ≡ (get_or l.other k d).num
