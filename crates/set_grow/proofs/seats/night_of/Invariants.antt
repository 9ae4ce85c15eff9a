use Rattle.std.proofs.Common.{◌≡◌, take}
use Rattle.std.specs.List.{All}
use Rattle.set_grow.specs.Nights.{NumberedNightData}
use Rattle.set_grow.proofs.seats.night_of.Given as goal

abbrev pub invariant-loop-index : goal.invariant-loop-index
invariant-loop-index l = All (λ (night : NumberedNightData). ¬ (night.number ≡ l.fn.place.night)) (take l.index l.fn.nights)
