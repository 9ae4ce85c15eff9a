use Rattle.std.proofs.Common.{◌≡◌, map, length}
use Rattle.exposure_log.specs.Held.{from_night}
use Rattle.exposure_log.specs.Numbered.{AreListed, exposure_of}
use Rattle.exposure_log.specs.Nights.{listed_of}
use Rattle.exposure_log.proofs.log.forget_before.Given as goal

abbrev pub invariant-loop-listed : goal.invariant-loop-listed
invariant-loop-listed l = record {
  shift : l.nights.shift ≡ l.initial.nights.shift;
  listed : AreListed l.register (listed_of l.nights);
  exposures : from_night l.initial.nights.shift l.night (map (exposure_of l.register) (listed_of l.nights)) ≡ from_night l.initial.nights.shift l.night (map (exposure_of l.initial.register) (listed_of l.initial.nights));
}

abbrev pub decreases-loop-listed : goal.decreases-loop-listed
decreases-loop-listed l = length l.nights.by_night
