use Rattle.std.proofs.Common.{take}
use Rattle.std.specs.List.{All}
use Rattle.tracklet_register.specs.Entries.{IsOther}
use Rattle.tracklet_register.proofs.nights.index_of.Given as goal

abbrev pub invariant-loop-index : goal.invariant-loop-index
invariant-loop-index l = All (IsOther l.fn.number) (take l.index l.fn.nights)
