use Rattle.bound_prune.specs.Decided.{holds-is, three_may_or_not}
use Rattle.bound_prune.proofs.pruning.TriplePrunePrune3TrackletBoxTrackletBoxTrackletBox.may.Goals as goal

pub returns-clause-value : goal.returns-clause-value
returns-clause-value c =
    holds-is (three_may_or_not c.args.self.now c.args.a.now c.args.b.now c.args.c.now) c.may_follow_both.result (rw c.self.view_is at c.may_follow_both.ensures)
