use Rattle.std.proofs.Common.{◌≡◌, map, take}
use Rattle.exposure_log.specs.Held.{spot_of, detections_of}
use Rattle.exposure_log.specs.Numbered.{exposure_of}
use Rattle.exposure_log.proofs.log.spots_of.Given as goal

abbrev pub invariant-loop-numbered : goal.invariant-loop-numbered
invariant-loop-numbered l = l.spots.items ≡ map spot_of (detections_of (map (exposure_of l.register) (take l.numbered-index l.listed)))
