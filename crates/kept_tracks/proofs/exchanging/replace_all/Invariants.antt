use Rattle.std.proofs.Common.{◌≤◌, drop, length, reverse}
use Rattle.kept_tracks.specs.SeveralNights.{AreReplaced, all_gone, all_new}
use Rattle.kept_tracks.specs.Undoing.{CanBeUndone}
use Rattle.kept_tracks.proofs.exchanging.replace_all.Given as goal

-- the nights from a place on are replaced
abbrev pub invariant-loop-left : goal.invariant-loop-left
invariant-loop-left l = record {
  within : l.left ≤ length l.changed;
  undone : CanBeUndone l.fn.register (reverse l.done.items) l.register;
  replaced : AreReplaced l.nights (drop l.left l.changed) l.fn.register l.register (all_gone l.done.items) (all_new l.done.items);
}

abbrev pub decreases-loop-left : goal.decreases-loop-left
decreases-loop-left l = l.left
