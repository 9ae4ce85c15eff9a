use Rattle.std.proofs.Common.{◌≡◌, ◌++◌, length, map}
use Rattle.made_sky.specs.MadeSky.{made_detection, made_detections}
use Rattle.mops_run.proofs.summing.detections_of.Given as goal

abbrev pub invariant-loop-sighting : goal.invariant-loop-sighting
invariant-loop-sighting l =
    (l.sightings.nights ≡ l.sky.nights)
    × (l.sightings.objects ≡ l.sky.objects)
    × (l.detections.items ++ map (λ s. made_detection l.sky s.night s.exposure s.object) l.sightings.left ≡ made_detections l.sky)

abbrev pub decreases-loop-sighting : goal.decreases-loop-sighting
decreases-loop-sighting l = length l.sightings.left
