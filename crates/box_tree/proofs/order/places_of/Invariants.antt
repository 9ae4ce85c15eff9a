use Rattle.std.specs.Prelude.{◌≡◌, map, take}
use Rattle.box_tree.specs.Orders.{place_of}
use Rattle.box_tree.proofs.order.places_of.Given as goal

-- the places of the entries so far
abbrev pub invariant-loop-entry : goal.invariant-loop-entry
invariant-loop-entry l = l.places.items ≡ map place_of (take l.entry-index l.keyed)
