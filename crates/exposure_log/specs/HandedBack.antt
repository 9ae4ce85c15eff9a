-- What comes back of an exposure that isn't held.
use Rattle.std.specs.Prelude.{◌≡◌, ◌≢◌, Some, ⊤}
use Rattle.exposure_log.specs.declared.errors.AddError.TheVariants.{NoMemory as no_memory}
use Rattle.exposure_log.specs.declared.errors.NotHeld.{NotHeld}
use Rattle.exposure_log.specs.declared.errors.NotHeld.TheVariants.{Refused, NoMemory}
use Rattle.exposure_log.specs.Held.{LogData, ExposureData, refusal}

-- of one that the log refuses, the cause, which is never want of memory, and all of it
abbrev pub IsHandedBack : LogData → ExposureData → NotHeld → Type 0
IsHandedBack log x (Refused cause back) = (refusal log x ≡ Some cause) × (cause ≢ no_memory) × (back ≡ x)
IsHandedBack log x NoMemory = ⊤
