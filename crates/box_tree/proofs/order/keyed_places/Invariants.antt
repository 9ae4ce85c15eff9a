use Rattle.std.specs.Prelude.{◌≡◌, map}
use Rattle.sky_units.specs.Pairs.{below}
use Rattle.box_tree.specs.Orders.{place_of}
use Rattle.box_tree.proofs.order.keyed_places.Given as goal

-- the places so far, in order
abbrev pub invariant-loop-place : goal.invariant-loop-place
invariant-loop-place g l = map place_of l.keyed.items ≡ below l.place
