use Rattle.night_tree.proofs.Sets.{ArePurged}
use Rattle.night_tree.proofs.stages.purge_each.Given as goal

-- with those of the groups that are left the sets are all
abbrev pub invariant-loop-group : goal.invariant-loop-group
invariant-loop-group l = ArePurged l.settings l.spots l.fn.groups.items l.sets.items l.group-iterator.rest.items
