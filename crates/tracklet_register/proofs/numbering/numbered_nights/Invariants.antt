use Rattle.std.proofs.Common.{◌≡◌, take}
use Rattle.tracklet_register.specs.Registers.{with_numbers}
use Rattle.tracklet_register.proofs.numbering.numbered_nights.Given as goal

abbrev pub invariant-loop-night : goal.invariant-loop-night
invariant-loop-night l = l.numbered.items ≡ with_numbers l.register.nights (take l.night-index l.nights)
