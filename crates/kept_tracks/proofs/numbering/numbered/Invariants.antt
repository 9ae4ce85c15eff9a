use Rattle.std.proofs.Common.{◌≡◌, map, take}
use Rattle.tracklet_register.specs.Registers.{with_numbers}
use Rattle.kept_tracks.proofs.numbering.numbered.Given as goal

abbrev pub invariant-loop-night : goal.invariant-loop-night
invariant-loop-night l = l.numbered.items ≡ with_numbers l.register.nights (map (λ night. night.now) (take l.night-index l.nights))
