use Rattle.std.proofs.Common.{take}
use Rattle.night_tree.specs.Nights.{tracklets_of_each}
use Rattle.plain_tracks.proofs.Steps.{HoldsFitting}
use Rattle.plain_tracks.proofs.growing.fitting_sets.Given as goal

abbrev pub invariant-loop-night : goal.invariant-loop-night
invariant-loop-night l = HoldsFitting l.settings (take l.night-index (tracklets_of_each l.nights)) l.sets.items
