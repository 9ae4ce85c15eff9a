use Rattle.night_tree.specs.Nights.{in_order}
use Rattle.night_tree.proofs.Sets.{AreListed}
use Rattle.night_tree.proofs.listing.tracklets_at.Given as goal

-- with those of the sets that are left the tracklets are all
abbrev pub invariant-loop-set : goal.invariant-loop-set
invariant-loop-set l = AreListed (λ set. set.items) l.spots (in_order l.fn.sets.items) l.tracklets.items l.set-iterator.rest.items
