use Rattle.std.specs.Prelude.{◌≡◌, take}
use Rattle.sky_units.specs.AtPlaces.{spots_at}
use Rattle.sky_units.proofs.placed.spots_at.Given as goal

abbrev pub invariant-loop-at : goal.invariant-loop-at
invariant-loop-at l = l.found.items ≡ spots_at l.spots (take l.at l.places)
