use Rattle.std.proofs.Common.{◌≡◌, take}
use Rattle.set_grow.specs.Ends.{ends_by_night}
use Rattle.set_grow.proofs.ends.ends_by_night.Given as goal

abbrev pub invariant-loop-night : goal.invariant-loop-night
invariant-loop-night l = l.lists.items ≡ ends_by_night l.fn.settings (take l.night-index l.fn.nights)
