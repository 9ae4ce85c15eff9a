use Rattle.std.proofs.Common.{take, IsTrue}
use Rattle.std.specs.List.{All}
use Rattle.miti_text.specs.Observation.{is_id}
use Rattle.exposure_log.proofs.Refusing.{NoneTaken}
use Rattle.exposure_log.proofs.log.first_taken.Given as goal

abbrev pub invariant-loop-place : goal.invariant-loop-place
invariant-loop-place l = record {
  untaken : NoneTaken l.register l.detections l.place;
  ids : All (λ d. IsTrue (is_id d.id)) (take l.place l.detections);
}
