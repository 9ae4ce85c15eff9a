-- What the exposures of a delivery are.
use Rattle.std.specs.Prelude.{◌≡◌, ◌<◌, List, length}
use Rattle.std.specs.List.{All}
use Rattle.miti_text.specs.Observation.{Observation}
use Rattle.exposure_log.specs.Held.{ExposureData}
use Rattle.exposure_log.specs.Exposures.{IdsDontFall}
use Rattle.exposure_log.specs.Gathered.{IsGathered}

-- one or more detections of one epoch and one site, in order of id
pub record IsOneExposure (x : ExposureData) : Type 0 where
  pub some : 0 < length x.detections
  pub one_epoch : All (λ d. d.epoch ≡ x.epoch) x.detections
  pub one_site : All (λ d. d.site ≡ x.site) x.detections
  pub by_id : IdsDontFall x.detections

-- the exposures are those of a delivery of these detections
pub record AreExposuresOf (list : List Observation) (exposures : List ExposureData) : Type 0 where
  pub gathered : IsGathered list exposures
  pub each : All IsOneExposure exposures
