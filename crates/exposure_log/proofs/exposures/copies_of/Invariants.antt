use Rattle.std.proofs.Common.{◌≡◌, take}
use Rattle.exposure_log.proofs.exposures.copies_of.Given as goal

abbrev pub invariant-loop-detection : goal.invariant-loop-detection
invariant-loop-detection l = l.copies.items ≡ take l.detection-index l.detections
