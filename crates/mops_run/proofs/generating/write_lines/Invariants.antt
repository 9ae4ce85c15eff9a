use Rattle.std.proofs.Common.{◌≡◌, length}
use Rattle.made_sky.specs.MadeSky.{made_text}
use Rattle.mops_run.proofs.TextByLines.{WroteSome, lines_of}
use Rattle.mops_run.proofs.generating.write_lines.Given as goal

abbrev pub invariant-loop-sighting : goal.invariant-loop-sighting
invariant-loop-sighting g l =
    (l.sightings.nights ≡ l.sky.nights)
    × (l.sightings.objects ≡ l.sky.objects)
    × WroteSome (g.O.Sink.receipt l.initial.sink) (g.O.Sink.receipt l.sink) (made_text l.sky) (lines_of l.sky l.sightings.left)

abbrev pub decreases-loop-sighting : goal.decreases-loop-sighting
decreases-loop-sighting g l = length l.sightings.left
