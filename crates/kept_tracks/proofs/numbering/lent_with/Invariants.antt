use Rattle.std.proofs.Common.{◌≡◌, ◌≤◌, drop, length, map}
use Rattle.kept_nights.specs.Renewed.{with_nights}
use Rattle.kept_tracks.proofs.numbering.lent_with.Given as goal

-- the nights from a place on are in place
abbrev pub invariant-loop-left : goal.invariant-loop-left
invariant-loop-left l = record {
  within : l.left ≤ length l.changed;
  with : map (λ night. night.now) l.lent.items ≡ with_nights (drop l.left l.changed) l.nights;
}

abbrev pub decreases-loop-left : goal.decreases-loop-left
decreases-loop-left l = l.left
