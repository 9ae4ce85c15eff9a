use Rattle.std.proofs.Common.{◌≡◌, map, take}
use Rattle.sky_units.specs.Tracks.{numbers_of}
use Rattle.subset_drop.proofs.numbers.numbers_of_each.Given as goal

abbrev pub invariant-loop-set : goal.invariant-loop-set
invariant-loop-set l = map (λ list. list.items) l.lists.items ≡ map numbers_of (take l.set-index l.sets)
