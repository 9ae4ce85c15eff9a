use Rattle.std.proofs.Common.{◌≡◌, map, take}
use Rattle.kept_tracks.proofs.numbering.lent_all.Given as goal

abbrev pub invariant-loop-night : goal.invariant-loop-night
invariant-loop-night l = map (λ night. night.now) l.lent.items ≡ take l.night-index l.nights
