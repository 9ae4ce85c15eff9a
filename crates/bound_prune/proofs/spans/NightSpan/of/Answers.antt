use Rattle.std.proofs.Common.{◌≡◌, List, take, sym, subst}
use Rattle.std.proofs.lemmas.List.{take_all}
use Rattle.std.specs.List.{Contains}
use Rattle.bound_prune.specs.EndsData.{EndsData}
use Rattle.bound_prune.proofs.NightSpans.{spans_more}
use Rattle.bound_prune.proofs.spans.NightSpan.of.Goals as goal

pub loop-one-preserved : goal.loop-one-preserved
loop-one-preserved c = spans_more c.args.ends.now c.loop-one.one-index c.one-item.result c.loop-one.span c.of_one-own.result c.with-span.result c.one-item.is c.loop-one-test.true c.loop-one.invariant c.of_one-own.ensures c.with-span.ensures

pub returns : goal.returns
returns c = λ one k.
    let all : take c.loop-one.one-index c.args.ends.now ≡ c.args.ends.now = take_all c.loop-one.one-index c.args.ends.now c.loop-one-test.false in
    c.loop-one.invariant one (subst (λ (list : List EndsData). Contains list one) (sym all) k)
