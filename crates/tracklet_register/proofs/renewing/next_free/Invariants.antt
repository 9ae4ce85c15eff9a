use Rattle.std.proofs.Common.{◌≡◌, ℕ, ◌<◌, ◌≤◌, true}
use Rattle.tracklet_register.specs.Registers.{is_taken}
use Rattle.tracklet_register.proofs.renewing.next_free.Given as goal

abbrev pub invariant-loop-number : goal.invariant-loop-number
invariant-loop-number l = (lower : ℕ) → l.from ≤ lower → lower < l.number → is_taken l.taken lower ≡ true
