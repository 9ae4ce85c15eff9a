use Rattle.std.proofs.Common.{take}
use Rattle.std.specs.List.{Contains}
use Rattle.bound_prune.specs.EndsData.{EndsData}
use Rattle.bound_prune.specs.SpanData.{LiesIn}
use Rattle.bound_prune.proofs.spans.NightSpan.of.Given as goal

abbrev pub invariant-loop-one : goal.invariant-loop-one
invariant-loop-one l = (one : EndsData) → Contains (take l.one-index l.fn.ends) one → LiesIn l.span one
