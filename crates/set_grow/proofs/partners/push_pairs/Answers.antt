use Rattle.std.proofs.Common.{◌≡◌, ◌+◌, ◌++◌, ◌∷◌, [], List, cond, take, sym, subst, ap, ◌∙◌}
use Rattle.std.proofs.lemmas.List.{take_all, take_more}
use Rattle.std.proofs.lemmas.List.Elements.{Contains-get_or}
use Rattle.std.specs.List.{Contains}
use Rattle.set_grow.specs.Partners.{ordered}
use Rattle.set_grow.specs.declared.partners.Partner.{Partner}
use Rattle.set_grow.proofs.PaidPairs.{paid_next, paid_part}
use Rattle.set_grow.proofs.Pairing.{HoldsPairs, pairs_more}
use Rattle.set_grow.proofs.partners.push_pairs.Goals as goal

pub fit_apart-fits-requires-clause-other : goal.fit_apart-fits-requires-clause-other
fit_apart-fits-requires-clause-other c = (c.requires.others c.other-item.result (subst (Contains c.args.others.now) (sym c.other-item.is) (Contains-get_or c.args.others.now c.loop-other.other-index c.other-item.result c.loop-other-test.true))).0

pub fit_apart-fits-requires-clause-rising : goal.fit_apart-fits-requires-clause-rising
fit_apart-fits-requires-clause-rising c = (c.requires.others c.other-item.result (subst (Contains c.args.others.now) (sym c.other-item.is) (Contains-get_or c.args.others.now c.loop-other.other-index c.other-item.result c.loop-other-test.true))).1

pub loop-other-preserved : goal.loop-other-preserved
loop-other-preserved c =
    let before : List Partner = take c.loop-other.other-index c.args.others.now in
    let more = pairs_more c.args.sky.now c.args.item.now.number c.args.one.now c.other-item.result (take c.loop-other.other-index c.args.others.now) c.args.pairs.now.items c.loop-other.pairs.items c.fit_apart-fits.result c.fit_apart-fits.ensures.fits c.loop-other.invariant.pairs in
    let items : c.push_where.new.pairs.items ≡ cond c.fit_apart-fits.result (c.loop-other.pairs.items ++ ordered c.args.one.now.number c.other-item.result.number ∷ []) c.loop-other.pairs.items = rw c.ordered.ensures at c.in_ok-push_where.ensures in
    let whole : take (c.loop-other.other-index + 1) c.args.others.now ≡ take c.loop-other.other-index c.args.others.now ++ c.other-item.result ∷ [] = take_more c.args.others.now c.loop-other.other-index c.other-item.result c.loop-other-test.true ∙ ap (λ (x : Partner). take c.loop-other.other-index c.args.others.now ++ x ∷ []) (sym c.other-item.is) in
    let pairs = subst (λ (list : List Partner). HoldsPairs c.args.sky.now c.args.item.now.number c.args.one.now list c.args.pairs.now.items c.push_where.new.pairs.items) (sym whole)
    (subst (HoldsPairs c.args.sky.now c.args.item.now.number c.args.one.now (before ++ c.other-item.result ∷ []) c.args.pairs.now.items) (sym items) more) in
    record {
      pairs = pairs;
      paid = paid_next c.args.sky.now c.args.one.now c.other-item.result c.args.others.now c.loop-other.other-index c.args.tally.now.tests c.loop-other.tally.tests c.fit_apart-fits.new.tally.tests c.requires.different c.loop-other-test.true c.other-item.is c.loop-other.invariant.paid c.fit_apart-fits.ensures.paid;
    }

pub returns-in_err-push_where-clause-paid : goal.returns-in_err-push_where-clause-paid
returns-in_err-push_where-clause-paid c =
    paid_part c.args.sky.now c.args.one.now c.args.others.now (c.loop-other.other-index + 1) c.args.tally.now.tests c.fit_apart-fits.new.tally.tests
    (paid_next c.args.sky.now c.args.one.now c.other-item.result c.args.others.now c.loop-other.other-index c.args.tally.now.tests c.loop-other.tally.tests c.fit_apart-fits.new.tally.tests c.requires.different c.loop-other-test.true c.other-item.is c.loop-other.invariant.paid c.fit_apart-fits.ensures.paid)

pub returns-clause-paid : goal.returns-clause-paid
returns-clause-paid c = paid_part c.args.sky.now c.args.one.now c.args.others.now c.loop-other.other-index c.args.tally.now.tests c.loop-other.tally.tests c.loop-other.invariant.paid

pub returns-clause-pairs : goal.returns-clause-pairs
returns-clause-pairs c =
    let all : take c.loop-other.other-index c.args.others.now ≡ c.args.others.now = take_all c.loop-other.other-index c.args.others.now c.loop-other-test.false in
    subst (λ (list : List Partner). HoldsPairs c.args.sky.now c.args.item.now.number c.args.one.now list c.args.pairs.now.items c.loop-other.pairs.items) all c.loop-other.invariant.pairs
