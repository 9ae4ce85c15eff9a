use Rattle.std.proofs.Common.{◌-◌, length, take}
use Rattle.collapse.specs.Strips.{IsFirstOf}
use Rattle.collapse.proofs.joining.first_in.Given as goal

-- the first of the entries seen
abbrev pub invariant-loop-at : goal.invariant-loop-at
invariant-loop-at l = IsFirstOf l.settings l.spots l.pair l.groups (take l.at l.entries) l.below l.first

abbrev pub decreases-loop-at : goal.decreases-loop-at
decreases-loop-at l = length l.entries - l.at
