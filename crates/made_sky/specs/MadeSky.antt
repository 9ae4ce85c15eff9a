-- A made sky: its detections and its lines.
use Rattle.std.specs.Prelude.{ℕ, List, ◌++◌, codes, map}
use Rattle.std.specs.List.{flat_map}
use Rattle.miti_text.specs.Observation.{Observation}
use Rattle.miti_text.specs.Written.{line_of}
use Rattle.made_sky.specs.Motions.{motion_of, sighted}
use Rattle.made_sky.specs.Sightings.{sightings}

-- the number that a sky is drawn from, its nights and its objects
pub record MadeSky : Type 0 where
  pub number : ℕ
  pub nights : ℕ
  pub objects : ℕ

-- the detection of an object of a sky in an exposure of a night
abbrev pub made_detection : MadeSky → ℕ → ℕ → ℕ → Observation
made_detection sky night exposure object = sighted (motion_of sky.number object) night exposure object

-- the detections of a sky, in their order
abbrev pub made_detections : MadeSky → List Observation
made_detections sky = map (λ s. made_detection sky s.night s.exposure s.object) (sightings sky.nights sky.objects)

-- the line of a detection, with its line feed
abbrev pub detection_line : Observation → List ℕ
detection_line d = line_of d ++ codes "\n"

-- the text of a sky: the lines of its detections
abbrev pub made_text : MadeSky → List ℕ
made_text sky = flat_map detection_line (made_detections sky)
