use Rattle.std.specs.Prelude.{◌≡◌, map, take}
use Rattle.sky_units.specs.AtPlaces.{spots_at}
use Rattle.night_tree.specs.Nights.{places_of_pair}
use Rattle.night_tree.proofs.listing.tracklets_of_pairs.Given as goal

abbrev pub invariant-loop-pair : goal.invariant-loop-pair
invariant-loop-pair l = l.tracklets.items ≡ map (λ pair. spots_at l.spots (places_of_pair pair)) (take l.pair-index l.pairs)
