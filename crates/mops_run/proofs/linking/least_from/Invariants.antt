use Rattle.std.proofs.Common.{◌∷◌, take}
use Rattle.mops_run.specs.Linking.{IsLeastNight, IsNearNight}
use Rattle.mops_run.proofs.linking.least_from.Given as goal

abbrev pub invariant-loop-detection : goal.invariant-loop-detection
invariant-loop-detection l = IsLeastNight l.settings.night_shift (l.fn.first ∷ take l.detection-index l.rest) l.least × IsNearNight l.least
