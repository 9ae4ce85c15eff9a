use Rattle.std.specs.Prelude.{◌≡◌, length, map}
use Rattle.night_tree.specs.Nights.{in_order}
use Rattle.night_tree.proofs.Sets.{into}
use Rattle.night_tree.proofs.listing.in_order.Given as goal

-- with those that are left the sets are in order
abbrev pub invariant-loop-set : goal.invariant-loop-set
invariant-loop-set l = in_order l.fn.sets.items ≡ into l.rest.items (map (λ set. set.items) l.ordered.keys)

abbrev pub decreases-loop-set : goal.decreases-loop-set
decreases-loop-set l = length l.rest.items
