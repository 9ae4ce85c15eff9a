use Rattle.std.proofs.Common.{◌≡◌, ℕ, ◌-◌, ◌≤◌, ◌<◌, List, length, map, take, sym, subst, arith, rules}
use Rattle.closed_sets.specs.Counting.{Rises}
use Rattle.closed_sets.specs.Search.{AreOthers, Gains, IsClosedFrom}
use Rattle.closed_sets.proofs.Branches.{branch_there, gains_there, paid_there, pays_there, tests_there}
use Rattle.closed_sets.proofs.Nodes.{node_paid, settled_gains, settled_narrowed, settled_pays}
use Rattle.closed_sets.proofs.search.+explore.Goals as goal

pub settle-requires-clause-others : goal.settle-requires-clause-others
settle-requires-clause-others g t c = λ x d. ((c.requires.listed.exactly x).0 d).1

pub branch_at-requires-clause-others : goal.branch_at-requires-clause-others
branch_at-requires-clause-others g t c =
    let fits = g.F.Family.Fits c.args.family.now in
    let n = settled_narrowed (g.F.Family.Fits c.args.family.now) (g.met.F.Family.hereditary c.args.family.now) c.args.node.now.set.items c.args.node.now.others.numbers.items c.args.node.now.others.first c.requires c.in_ok-rest.rest.numbers.items c.in_ok-rest.rest.first (map (λ set. set.items) c.args.found.now.items) (map (λ set. set.items) c.settle.new.found.items) c.in_ok-rest.ensures.settled in
    subst (λ (s : List ℕ). AreOthers fits s c.as_slice-in-loop-place.result.now) (sym c.as_slice.ensures.value) (subst (AreOthers fits c.args.node.now.set.items) (sym c.as_slice-in-loop-place.ensures.value) n.node.listed)

pub explore-requires : goal.explore-requires
explore-requires g t c =
    let n = settled_narrowed (g.F.Family.Fits c.args.family.now) (g.met.F.Family.hereditary c.args.family.now) c.args.node.now.set.items c.args.node.now.others.numbers.items c.args.node.now.others.first c.requires c.in_ok-rest.rest.numbers.items c.in_ok-rest.rest.first (map (λ set. set.items) c.args.found.now.items) (map (λ set. set.items) c.settle.new.found.items) c.in_ok-rest.ensures.settled in
    let few : length c.in_ok-rest.rest.numbers.items ≤ length c.args.node.now.others.numbers.items = n.few in
    search rules

pub returns-in_err-rest-clause-paid : goal.returns-in_err-rest-clause-paid
returns-in_err-rest-clause-paid g t c = λ size h.
    let node = c.args.node.now in
    node_paid (g.F.Family.Fits c.args.family.now) (g.met.F.Family.hereditary c.args.family.now) node.set.items node.others.numbers.items node.others.first c.requires size c.args.tally.now.tests c.settle.new.tally.tests h c.in_err-rest.ensures.tests c.in_err-rest.ensures.none

pub loop-place-init : goal.loop-place-init
loop-place-init g t c =
    let fits = g.F.Family.Fits c.args.family.now in
    let law = g.met.F.Family.hereditary c.args.family.now in
    let node = c.args.node.now in
    let old = map (λ set. set.items) c.args.found.now.items in
    let new = map (λ set. set.items) c.settle.new.found.items in
    let s = c.in_ok-rest.ensures.settled in
    let n = settled_narrowed fits law node.set.items node.others.numbers.items node.others.first c.requires c.in_ok-rest.rest.numbers.items c.in_ok-rest.rest.first old new s in
    record {
      low = n.more;
      high = omega arith;
      gains = settled_gains fits law node.set.items node.others.numbers.items node.others.first c.requires c.in_ok-rest.rest.numbers.items c.in_ok-rest.rest.first old new s;
      paid = λ size h. settled_pays fits law node.set.items node.others.numbers.items node.others.first c.requires c.in_ok-rest.rest.numbers.items c.in_ok-rest.rest.first old new s size c.args.tally.now.tests c.settle.new.tally.tests h c.in_ok-rest.ensures.tests c.in_ok-rest.ensures.none;
    }

pub returns-in_err-branch-clause-paid : goal.returns-in_err-branch-clause-paid
returns-in_err-branch-clause-paid g t c = λ size h.
    let node = c.args.node.now in
    let n = settled_narrowed (g.F.Family.Fits c.args.family.now) (g.met.F.Family.hereditary c.args.family.now) c.args.node.now.set.items c.args.node.now.others.numbers.items c.args.node.now.others.first c.requires c.in_ok-rest.rest.numbers.items c.in_ok-rest.rest.first (map (λ set. set.items) c.args.found.now.items) (map (λ set. set.items) c.settle.new.found.items) c.in_ok-rest.ensures.settled in
    let numbers = c.in_ok-rest.rest.numbers.items in
    let tests : Rises (length numbers) c.loop-place.tally.tests c.branch_at.new.tally.tests = subst (λ (s : List ℕ). Rises (length s) c.loop-place.tally.tests c.branch_at.new.tally.tests) c.as_slice-in-loop-place.ensures.value c.in_err-branch.ensures.tests in
    tests_there (g.F.Family.Fits c.args.family.now) (g.met.F.Family.hereditary c.args.family.now) node.set.items node.others.numbers.items node.others.first numbers c.in_ok-rest.rest.first n c.loop-place.place c.loop-place-test.true c.loop-place.invariant.high
    size h c.args.tally.now.tests c.loop-place.tally.tests c.branch_at.new.tally.tests (c.loop-place.invariant.paid size h) tests

pub returns-in_err-explore-clause-paid : goal.returns-in_err-explore-clause-paid
returns-in_err-explore-clause-paid g t c = λ size h.
    let fits = g.F.Family.Fits c.args.family.now in
    let law = g.met.F.Family.hereditary c.args.family.now in
    let node = c.args.node.now in
    let n = settled_narrowed (g.F.Family.Fits c.args.family.now) (g.met.F.Family.hereditary c.args.family.now) c.args.node.now.set.items c.args.node.now.others.numbers.items c.args.node.now.others.first c.requires c.in_ok-rest.rest.numbers.items c.in_ok-rest.rest.first (map (λ set. set.items) c.args.found.now.items) (map (λ set. set.items) c.settle.new.found.items) c.in_ok-rest.ensures.settled in
    let numbers = c.in_ok-rest.rest.numbers.items in
    let more = c.in_ok-branch.branch.others.numbers.items in
    let test : node.others.first < c.loop-place.place = c.loop-place-test.true in
    let tests : Rises (length numbers) c.loop-place.tally.tests c.branch_at.new.tally.tests = subst (λ (s : List ℕ). Rises (length s) c.loop-place.tally.tests c.branch_at.new.tally.tests) c.as_slice-in-loop-place.ensures.value c.in_ok-branch.ensures.tests in
    let smaller : length more < length numbers = subst (λ (s : List ℕ). length more < length s) c.as_slice-in-loop-place.ensures.value c.in_ok-branch.ensures.smaller in
    let b = branch_there fits node.set.items c.as_slice.result.now numbers c.as_slice-in-loop-place.result.now (c.loop-place.place - 1) c.in_ok-branch.branch.set.items more c.in_ok-branch.branch.others.first c.as_slice.ensures.value c.as_slice-in-loop-place.ensures.value c.in_ok-branch.ensures.branch in
    paid_there fits law node.set.items node.others.numbers.items node.others.first numbers c.in_ok-rest.rest.first n size c.args.tally.now.tests c.explore.new.tally.tests (c.loop-place.place - 1) (omega arith)
    (pays_there fits law node.set.items node.others.numbers.items node.others.first numbers c.in_ok-rest.rest.first n c.loop-place.place c.loop-place-test.true c.loop-place.invariant.high
    c.in_ok-branch.branch.set.items more c.in_ok-branch.branch.others.first b smaller c.args.tally.now.tests c.loop-place.tally.tests c.branch_at.new.tally.tests c.explore.new.tally.tests c.loop-place.invariant.paid tests c.in_err-explore.ensures.paid size h)

pub loop-place-preserved : goal.loop-place-preserved
loop-place-preserved g t c =
    let fits = g.F.Family.Fits c.args.family.now in
    let law = g.met.F.Family.hereditary c.args.family.now in
    let node = c.args.node.now in
    let n = settled_narrowed (g.F.Family.Fits c.args.family.now) (g.met.F.Family.hereditary c.args.family.now) c.args.node.now.set.items c.args.node.now.others.numbers.items c.args.node.now.others.first c.requires c.in_ok-rest.rest.numbers.items c.in_ok-rest.rest.first (map (λ set. set.items) c.args.found.now.items) (map (λ set. set.items) c.settle.new.found.items) c.in_ok-rest.ensures.settled in
    let numbers = c.in_ok-rest.rest.numbers.items in
    let more = c.in_ok-branch.branch.others.numbers.items in
    let test : node.others.first < c.loop-place.place = c.loop-place-test.true in
    let high : c.loop-place.place ≤ c.in_ok-rest.rest.first = c.loop-place.invariant.high in
    let tests : Rises (length numbers) c.loop-place.tally.tests c.branch_at.new.tally.tests = subst (λ (s : List ℕ). Rises (length s) c.loop-place.tally.tests c.branch_at.new.tally.tests) c.as_slice-in-loop-place.ensures.value c.in_ok-branch.ensures.tests in
    let smaller : length more < length numbers = subst (λ (s : List ℕ). length more < length s) c.as_slice-in-loop-place.ensures.value c.in_ok-branch.ensures.smaller in
    let b = branch_there fits node.set.items c.as_slice.result.now numbers c.as_slice-in-loop-place.result.now (c.loop-place.place - 1) c.in_ok-branch.branch.set.items more c.in_ok-branch.branch.others.first c.as_slice.ensures.value c.as_slice-in-loop-place.ensures.value c.in_ok-branch.ensures.branch in
    record {
      low = omega arith;
      high = omega arith;
      gains = gains_there fits law node.set.items node.others.numbers.items node.others.first numbers c.in_ok-rest.rest.first n c.loop-place.place c.loop-place-test.true c.loop-place.invariant.high
          c.in_ok-branch.branch.set.items more c.in_ok-branch.branch.others.first b smaller (map (λ set. set.items) c.args.found.now.items) (map (λ set. set.items) c.loop-place.found.items) (map (λ set. set.items) c.explore.new.found.items) c.loop-place.invariant.gains c.in_ok-explore.ensures.gains;
      paid = pays_there fits law node.set.items node.others.numbers.items node.others.first numbers c.in_ok-rest.rest.first n c.loop-place.place c.loop-place-test.true c.loop-place.invariant.high
          c.in_ok-branch.branch.set.items more c.in_ok-branch.branch.others.first b smaller c.args.tally.now.tests c.loop-place.tally.tests c.branch_at.new.tally.tests c.explore.new.tally.tests c.loop-place.invariant.paid tests c.in_ok-explore.ensures.paid;
    }

pub returns-clause-gains : goal.returns-clause-gains
returns-clause-gains g t c =
    let fits = g.F.Family.Fits c.args.family.now in
    let node = c.args.node.now in
    let n = settled_narrowed (g.F.Family.Fits c.args.family.now) (g.met.F.Family.hereditary c.args.family.now) c.args.node.now.set.items c.args.node.now.others.numbers.items c.args.node.now.others.first c.requires c.in_ok-rest.rest.numbers.items c.in_ok-rest.rest.first (map (λ set. set.items) c.args.found.now.items) (map (λ set. set.items) c.settle.new.found.items) c.in_ok-rest.ensures.settled in
    let numbers = c.in_ok-rest.rest.numbers.items in
    let old = map (λ set. set.items) c.args.found.now.items in
    let new = map (λ set. set.items) c.loop-place.found.items in
    let low : node.others.first ≤ c.loop-place.place = c.loop-place.invariant.low in
    let end : c.loop-place.place ≤ node.others.first = c.loop-place-test.false in
    let same : c.loop-place.place ≡ node.others.first = omega arith in
    let there : Gains (IsClosedFrom fits node.set.items (take node.others.first numbers)) old new = subst (λ (p : ℕ). Gains (IsClosedFrom fits node.set.items (take p numbers)) old new) same c.loop-place.invariant.gains in
    subst (λ (xs : List ℕ). Gains (IsClosedFrom fits node.set.items xs) old new) n.same there

pub returns-clause-paid : goal.returns-clause-paid
returns-clause-paid g t c = λ size h.
    let node = c.args.node.now in
    let n = settled_narrowed (g.F.Family.Fits c.args.family.now) (g.met.F.Family.hereditary c.args.family.now) c.args.node.now.set.items c.args.node.now.others.numbers.items c.args.node.now.others.first c.requires c.in_ok-rest.rest.numbers.items c.in_ok-rest.rest.first (map (λ set. set.items) c.args.found.now.items) (map (λ set. set.items) c.settle.new.found.items) c.in_ok-rest.ensures.settled in
    paid_there (g.F.Family.Fits c.args.family.now) (g.met.F.Family.hereditary c.args.family.now) node.set.items node.others.numbers.items node.others.first c.in_ok-rest.rest.numbers.items c.in_ok-rest.rest.first n size c.args.tally.now.tests c.loop-place.tally.tests c.loop-place.place c.loop-place.invariant.low (c.loop-place.invariant.paid size h)
