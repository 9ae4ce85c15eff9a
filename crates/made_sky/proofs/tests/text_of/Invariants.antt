use Rattle.std.proofs.Common.{◌≡◌, ◌++◌, length, map}
use Rattle.std.specs.List.{flat_map}
use Rattle.made_sky.specs.MadeSky.{detection_line, made_detection, made_text}
use Rattle.made_sky.proofs.tests.text_of.Given as goal

abbrev pub invariant-loop-sighting : goal.invariant-loop-sighting
invariant-loop-sighting l =
    (l.sightings.nights ≡ l.sky.nights)
    × (l.sightings.objects ≡ l.sky.objects)
    × (l.text.items ++ flat_map detection_line (map (λ s. made_detection l.sky s.night s.exposure s.object) l.sightings.left) ≡ made_text l.sky)

abbrev pub decreases-loop-sighting : goal.decreases-loop-sighting
decreases-loop-sighting l = length l.sightings.left
