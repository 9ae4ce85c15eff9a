use Rattle.std.proofs.Common.{◌≡◌, List, [], ◌∷◌, length, refl, subst, arith}
use Rattle.set_grow.specs.declared.partners.Partner.{Partner}
use Rattle.closed_sets.specs.Counting.{AreDifferent}
use Rattle.set_grow.specs.Partners.{partner_numbers}
use Rattle.set_grow.proofs.PaidPairs.{one_fewer, paid_of_all}
use Rattle.set_grow.proofs.Pairing.{fitting_pairs_are, found_all, found_more, one_left, other_left, rising_left}
use Rattle.set_grow.proofs.partners.fitting_pairs.Goals as goal

pub push_pairs-requires-clause-one : goal.push_pairs-requires-clause-one
push_pairs-requires-clause-one c = c.requires.partners.each c.in-Some.one.now (one_left c.args.sky.now c.args.item.now.number c.args.partners.now c.in-Some.one.now c.in-Some.others.now c.loop-one.rest.now c.loop-one.pairs.items c.in-Some.ensures.cases.0 c.loop-one.invariant.0)

pub push_pairs-requires-clause-others : goal.push_pairs-requires-clause-others
push_pairs-requires-clause-others c = λ other k. (
  c.requires.partners.each other (other_left c.args.sky.now c.args.item.now.number c.args.partners.now c.in-Some.one.now c.in-Some.others.now c.loop-one.rest.now c.loop-one.pairs.items other c.in-Some.ensures.cases.0 c.loop-one.invariant.0 k),
  rising_left c.args.sky.now c.args.item.now.number c.args.partners.now c.in-Some.one.now c.in-Some.others.now c.loop-one.rest.now c.loop-one.pairs.items c.in-Some.ensures.cases.0 c.loop-one.invariant.0 other k,
)

pub loop-one-preserved : goal.loop-one-preserved
loop-one-preserved c = (
  found_more c.args.sky.now c.args.item.now.number c.args.partners.now c.in-Some.one.now c.in-Some.others.now c.loop-one.rest.now c.loop-one.pairs.items c.push_pairs.new.pairs.items c.in-Some.ensures.cases.0 c.loop-one.invariant.0 c.in_ok-push_pairs.ensures.pairs,
  one_fewer c.args.sky.now c.args.partners.now c.in-Some.one.now c.in-Some.others.now c.loop-one.rest.now c.args.tally.now.tests c.loop-one.tally.tests c.push_pairs.new.tally.tests c.in-Some.ensures.cases.0 c.loop-one.invariant.0.different c.loop-one.invariant.1 c.push_pairs.ensures.paid,
)

none_left : (list : List Partner) → length list ≡ 0 → list ≡ []
none_left [] e = refl
none_left (x ∷ list) e = absurd (omega (arith, e))

pub returns-clause-pairs : goal.returns-clause-pairs
returns-clause-pairs c =
    let rest : c.loop-one.rest.now ≡ [] = none_left c.loop-one.rest.now c.in_default.ensures.cases in
    fitting_pairs_are c.args.sky.now c.args.item.now c.args.partners.now c.loop-one.pairs.items c.requires.place c.requires.partners (found_all c.args.sky.now c.args.item.now.number c.args.partners.now c.loop-one.rest.now c.loop-one.pairs.items rest c.loop-one.invariant.0)

pub push_pairs-requires-clause-different : goal.push_pairs-requires-clause-different
push_pairs-requires-clause-different c = (subst (λ (list : List Partner). AreDifferent (partner_numbers list)) c.in-Some.ensures.cases.0 c.loop-one.invariant.0.different).1

pub returns-clause-paid : goal.returns-clause-paid
returns-clause-paid c = paid_of_all c.args.sky.now c.args.partners.now c.loop-one.rest.now c.args.tally.now.tests c.loop-one.tally.tests c.loop-one.invariant.1.paid

pub returns-in_err-push_pairs-clause-paid : goal.returns-in_err-push_pairs-clause-paid
returns-in_err-push_pairs-clause-paid c =
    paid_of_all c.args.sky.now c.args.partners.now c.in-Some.others.now c.args.tally.now.tests c.push_pairs.new.tally.tests
    (one_fewer c.args.sky.now c.args.partners.now c.in-Some.one.now c.in-Some.others.now c.loop-one.rest.now c.args.tally.now.tests c.loop-one.tally.tests c.push_pairs.new.tally.tests c.in-Some.ensures.cases.0 c.loop-one.invariant.0.different c.loop-one.invariant.1 c.push_pairs.ensures.paid).paid
