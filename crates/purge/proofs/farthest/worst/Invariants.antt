use Rattle.purge.specs.Purging.{deviations}
use Rattle.purge.proofs.Greatest.{IsLastGreatest}
use Rattle.purge.proofs.farthest.worst.Given as goal

-- the candidate is the worst of the spots seen
abbrev pub invariant-loop-at : goal.invariant-loop-at
invariant-loop-at l = IsLastGreatest (deviations l.spots) l.at l.found.at l.found.deviation
