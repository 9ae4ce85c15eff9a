use Rattle.std.proofs.Common.{take}
use Rattle.kept_nights.specs.Renewed.{AreRenewed}
use Rattle.kept_nights.proofs.keeping.changed_nights.Given as goal

-- those of the outcomes before are built
abbrev pub invariant-loop-outcome : goal.invariant-loop-outcome
invariant-loop-outcome l = AreRenewed (record { settings = l.settings; log = l.log }) (take l.outcome-index l.outcomes) l.changed.items
