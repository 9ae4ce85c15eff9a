use Rattle.std.proofs.Common.{take}
use Rattle.closed_sets.proofs.Parting.{ArePartedSoFar}
use Rattle.closed_sets.proofs.search.parted.Given as goal

-- the candidates so far
abbrev pub invariant-loop-candidate : goal.invariant-loop-candidate
invariant-loop-candidate l = ArePartedSoFar l.set (take l.candidate-index l.candidates) l.outside.items l.inside.items
