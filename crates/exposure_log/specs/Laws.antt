-- Laws of the log and of deliveries.
use Rattle.std.specs.Prelude.{◌≡◌, List}
use Rattle.miti_text.specs.Observation.{Observation}
use Rattle.exposure_log.specs.Held.{LogData, ExposureData, TakesIn}
use Rattle.exposure_log.specs.Deliveries.{AreExposuresOf}

-- a log has one way to take an exposure: two logs that it becomes are the same
abbrev pub AddIsUnique : Type 0
AddIsUnique = (old one other : LogData) (x : ExposureData) → TakesIn old one x → TakesIn old other x → one ≡ other

-- and there is a way
abbrev pub AddExists : Type 0
AddExists = (old : LogData) (x : ExposureData) → (new : LogData) × TakesIn old new x

-- a delivery has one list of exposures: two lists that are its exposures are the same
abbrev pub ExposuresAreUnique : Type 0
ExposuresAreUnique = (list : List Observation) (one other : List ExposureData) → AreExposuresOf list one → AreExposuresOf list other → one ≡ other

-- and there is a list
abbrev pub ExposuresExist : Type 0
ExposuresExist = (list : List Observation) → (exposures : List ExposureData) × AreExposuresOf list exposures
