use Rattle.std.proofs.Common.{◌≡◌, sym, ◌∙◌, rules}
use Rattle.std.proofs.lemmas.Iterator.Adapters.{YieldsList-from_vec}
use Rattle.std.proofs.lemmas.Iterator.Consumers.{YieldsList-end}
use Rattle.std.proofs.lemmas.List.{map-id}
use Rattle.mops_run.proofs.Told.{one_more_told}
use Rattle.mops_run.proofs.delivering.replies_to.Goals as goal

pub loop-outcome-preserved : goal.loop-outcome-preserved
loop-outcome-preserved c =
    one_more_told c.loop-outcome.yielded c.loop-outcome.replies.items c.push.new.self.items c.in-Some.outcome c.in_ok-reply_to.field-0 c.loop-outcome.invariant c.in_ok-reply_to.ensures c.in_ok-push.ensures.items

pub returns : goal.returns
returns c =
    let end = YieldsList-end (YieldsList-from_vec {s = c.into_iter-outcome-iterator.result} c.args.outcomes.items (search rules) (search rules)) c.loop-outcome.yielded c.loop-outcome.outcome-iterator
    c.loop-outcome.yielded_by c.next.result c.next.new.self c.in-None.is c.next.ensures.steps in
    let all : c.loop-outcome.yielded ≡ c.args.outcomes.items = sym (map-id c.loop-outcome.yielded) ∙ end.0 in
    rw all at c.loop-outcome.invariant
