use Rattle.std.proofs.Common.{length, reverse}
use Rattle.tracklet_register.specs.Registers.{RegisterData}
use Rattle.kept_tracks.specs.Undoing.{CanBeUndone}
use Rattle.kept_tracks.proofs.exchanging.restore_all.Given as goal

-- what is left can be undone
abbrev pub invariant-loop-one : goal.invariant-loop-one
invariant-loop-one l = (first : RegisterData) → CanBeUndone first (reverse l.fn.done.items) l.fn.register → CanBeUndone first (reverse l.rest.items) l.register

abbrev pub decreases-loop-one : goal.decreases-loop-one
decreases-loop-one l = length l.rest.items
