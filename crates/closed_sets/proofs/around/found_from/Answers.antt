use Rattle.std.proofs.Common.{◌≡◌, ℕ, ◌-◌, ◌≤◌, ◌<◌, List, [], ◌∷◌, length, map, take, sym, subst, arith, rules}
use Rattle.closed_sets.specs.Search.{Gains, IsClosedFrom, IsRoot, IsSettled, IsStart, LiesInThree}
use Rattle.closed_sets.proofs.InThree.{together_here}
use Rattle.closed_sets.proofs.Starts.{paid_at, root_gains, root_node, root_paid, settled_paid, start_gains, start_narrowed, start_paid}
use Rattle.closed_sets.proofs.around.found_from.Goals as goal

-- what is told of a node's set, told of the item alone
start_there : (Fits : List ℕ → Type 0) (item : ℕ) (pairs : List (ℕ × ℕ)) (set others : List ℕ) (first : ℕ) → IsStart Fits item pairs set others first → IsStart Fits item pairs (item ∷ []) others first
start_there Fits item pairs set others first s = subst (λ (xs : List ℕ). IsStart Fits item pairs xs others first) s.alone s

settled_there : (Fits : List ℕ → Type 0) (item : ℕ) (set others : List ℕ) (first : ℕ) (numbers : List ℕ) (end : ℕ) (none old new : List (List ℕ)) → set ≡ item ∷ [] → old ≡ none → IsSettled Fits set others first numbers end old new → IsSettled Fits (item ∷ []) others first numbers end none new
settled_there Fits item set others first numbers end none old new e f s = subst (λ (xs : List ℕ). IsSettled Fits xs others first numbers end none new) e (subst (λ (sets : List (List ℕ)). IsSettled Fits set others first numbers end sets new) f s)

root_there : (item : ℕ) (pairs : List (ℕ × ℕ)) (slice others : List ℕ) (place : ℕ) (set more : List ℕ) (begin : ℕ) → slice ≡ others → IsRoot item pairs slice place set more begin → IsRoot item pairs others place set more begin
root_there item pairs slice others place set more begin e r = subst (λ (xs : List ℕ). IsRoot item pairs xs place set more begin) e r

pub settle-requires-clause-fits : goal.settle-requires-clause-fits
settle-requires-clause-fits g c = c.requires.start.node.fits.fits

pub settle-requires-clause-others : goal.settle-requires-clause-others
settle-requires-clause-others g c = λ x d.
    together_here (g.F.Family.Fits c.args.family.now) (g.met.F.Family.hereditary c.args.family.now) (x ∷ c.args.start.now.set.items) ((c.requires.start.node.listed.exactly x).0 d).1

pub settle-requires-clause-within : goal.settle-requires-clause-within
settle-requires-clause-within g c = c.requires.start.node.within

pub returns-in_err-rest-clause-paid : goal.returns-in_err-rest-clause-paid
returns-in_err-rest-clause-paid g c = λ size h.
    let fits = g.F.Family.Fits c.args.family.now in
    let law = g.met.F.Family.hereditary c.args.family.now in
    let st = start_there fits c.args.item c.args.pairs.now c.args.start.now.set.items c.args.start.now.others.numbers.items c.args.start.now.others.first c.requires.start in
    start_paid fits law c.args.item c.args.pairs.now c.requires.pairs c.args.start.now.others.numbers.items c.args.start.now.others.first st size c.args.tally.now.tests c.settle.new.tally.tests h c.in_err-rest.ensures.tests

pub loop-place-init : goal.loop-place-init
loop-place-init g c =
    let fits = g.F.Family.Fits c.args.family.now in
    let law = g.met.F.Family.hereditary c.args.family.now in
    let st = start_there fits c.args.item c.args.pairs.now c.args.start.now.set.items c.args.start.now.others.numbers.items c.args.start.now.others.first c.requires.start in
    let none : map (λ set. set.items) c.new-found.result.items ≡ [] = search rules in
    let se = settled_there fits c.args.item c.args.start.now.set.items c.args.start.now.others.numbers.items c.args.start.now.others.first c.in_ok-rest.rest.numbers.items c.in_ok-rest.rest.first [] (map (λ set. set.items) c.new-found.result.items) (map (λ set. set.items) c.settle.new.found.items) c.requires.start.alone none c.in_ok-rest.ensures.settled in
    let n = start_narrowed fits law c.args.item c.args.pairs.now c.requires.pairs c.args.start.now.others.numbers.items c.args.start.now.others.first st c.in_ok-rest.rest.numbers.items c.in_ok-rest.rest.first [] (map (λ set. set.items) c.settle.new.found.items) se in
    record {
      low = n.more;
      high = omega arith;
      gains = start_gains fits law c.args.item c.args.pairs.now c.requires.pairs c.args.start.now.others.numbers.items c.args.start.now.others.first st c.in_ok-rest.rest.numbers.items c.in_ok-rest.rest.first [] (map (λ set. set.items) c.settle.new.found.items) se;
      paid = λ size h. settled_paid fits law c.args.item c.args.pairs.now c.requires.pairs c.args.start.now.others.numbers.items c.args.start.now.others.first st c.in_ok-rest.rest.numbers.items c.in_ok-rest.rest.first [] (map (λ set. set.items) c.settle.new.found.items) se size c.args.tally.now.tests c.settle.new.tally.tests h c.in_ok-rest.ensures.tests;
    }

pub root_at-requires : goal.root_at-requires
root_at-requires g c =
    let fits = g.F.Family.Fits c.args.family.now in
    let law = g.met.F.Family.hereditary c.args.family.now in
    let st = start_there fits c.args.item c.args.pairs.now c.args.start.now.set.items c.args.start.now.others.numbers.items c.args.start.now.others.first c.requires.start in
    let none : map (λ set. set.items) c.new-found.result.items ≡ [] = search rules in
    let se = settled_there fits c.args.item c.args.start.now.set.items c.args.start.now.others.numbers.items c.args.start.now.others.first c.in_ok-rest.rest.numbers.items c.in_ok-rest.rest.first [] (map (λ set. set.items) c.new-found.result.items) (map (λ set. set.items) c.settle.new.found.items) c.requires.start.alone none c.in_ok-rest.ensures.settled in
    let n = start_narrowed fits law c.args.item c.args.pairs.now c.requires.pairs c.args.start.now.others.numbers.items c.args.start.now.others.first st c.in_ok-rest.rest.numbers.items c.in_ok-rest.rest.first [] (map (λ set. set.items) c.settle.new.found.items) se in
    let bound : c.in_ok-rest.rest.first ≤ length c.in_ok-rest.rest.numbers.items = n.node.within in
    let low : c.args.start.now.others.first < c.loop-place.place = c.loop-place-test.true in
    let high : c.loop-place.place ≤ c.in_ok-rest.rest.first = c.loop-place.invariant.high in
    let inside : c.loop-place.place - 1 < length c.in_ok-rest.rest.numbers.items = omega arith in
    subst (λ (xs : List ℕ). c.loop-place.place - 1 < length xs) (sym c.as_slice.ensures.value) inside

pub explore-requires : goal.explore-requires
explore-requires g c =
    let fits = g.F.Family.Fits c.args.family.now in
    let law = g.met.F.Family.hereditary c.args.family.now in
    let st = start_there fits c.args.item c.args.pairs.now c.args.start.now.set.items c.args.start.now.others.numbers.items c.args.start.now.others.first c.requires.start in
    let none : map (λ set. set.items) c.new-found.result.items ≡ [] = search rules in
    let se = settled_there fits c.args.item c.args.start.now.set.items c.args.start.now.others.numbers.items c.args.start.now.others.first c.in_ok-rest.rest.numbers.items c.in_ok-rest.rest.first [] (map (λ set. set.items) c.new-found.result.items) (map (λ set. set.items) c.settle.new.found.items) c.requires.start.alone none c.in_ok-rest.ensures.settled in
    let low : c.args.start.now.others.first < c.loop-place.place = c.loop-place-test.true in
    let high : c.loop-place.place ≤ c.in_ok-rest.rest.first = c.loop-place.invariant.high in
    let root = root_there c.args.item c.args.pairs.now c.as_slice.result.now c.in_ok-rest.rest.numbers.items (c.loop-place.place - 1) c.in_ok-root.root.set.items c.in_ok-root.root.others.numbers.items c.in_ok-root.root.others.first c.as_slice.ensures.value c.in_ok-root.ensures in
    root_node fits law c.args.item c.args.pairs.now c.requires.pairs c.args.start.now.others.numbers.items c.args.start.now.others.first st c.in_ok-rest.rest.numbers.items c.in_ok-rest.rest.first [] (map (λ set. set.items) c.settle.new.found.items) se c.loop-place.place low high c.in_ok-root.root.set.items c.in_ok-root.root.others.numbers.items c.in_ok-root.root.others.first root

pub returns-in_err-root-clause-paid : goal.returns-in_err-root-clause-paid
returns-in_err-root-clause-paid g c = λ size h.
    let fits = g.F.Family.Fits c.args.family.now in
    let law = g.met.F.Family.hereditary c.args.family.now in
    let st = start_there fits c.args.item c.args.pairs.now c.args.start.now.set.items c.args.start.now.others.numbers.items c.args.start.now.others.first c.requires.start in
    let none : map (λ set. set.items) c.new-found.result.items ≡ [] = search rules in
    let se = settled_there fits c.args.item c.args.start.now.set.items c.args.start.now.others.numbers.items c.args.start.now.others.first c.in_ok-rest.rest.numbers.items c.in_ok-rest.rest.first [] (map (λ set. set.items) c.new-found.result.items) (map (λ set. set.items) c.settle.new.found.items) c.requires.start.alone none c.in_ok-rest.ensures.settled in
    paid_at fits law c.args.item c.args.pairs.now c.requires.pairs c.args.start.now.others.numbers.items c.args.start.now.others.first st c.in_ok-rest.rest.numbers.items c.in_ok-rest.rest.first [] (map (λ set. set.items) c.settle.new.found.items) se size c.args.tally.now.tests c.loop-place.tally.tests c.loop-place.place c.loop-place.invariant.low (c.loop-place.invariant.paid size h)

pub returns-in_err-explore-clause-paid : goal.returns-in_err-explore-clause-paid
returns-in_err-explore-clause-paid g c = λ size h.
    let fits = g.F.Family.Fits c.args.family.now in
    let law = g.met.F.Family.hereditary c.args.family.now in
    let st = start_there fits c.args.item c.args.pairs.now c.args.start.now.set.items c.args.start.now.others.numbers.items c.args.start.now.others.first c.requires.start in
    let none : map (λ set. set.items) c.new-found.result.items ≡ [] = search rules in
    let se = settled_there fits c.args.item c.args.start.now.set.items c.args.start.now.others.numbers.items c.args.start.now.others.first c.in_ok-rest.rest.numbers.items c.in_ok-rest.rest.first [] (map (λ set. set.items) c.new-found.result.items) (map (λ set. set.items) c.settle.new.found.items) c.requires.start.alone none c.in_ok-rest.ensures.settled in
    let low : c.args.start.now.others.first < c.loop-place.place = c.loop-place-test.true in
    let high : c.loop-place.place ≤ c.in_ok-rest.rest.first = c.loop-place.invariant.high in
    let root = root_there c.args.item c.args.pairs.now c.as_slice.result.now c.in_ok-rest.rest.numbers.items (c.loop-place.place - 1) c.in_ok-root.root.set.items c.in_ok-root.root.others.numbers.items c.in_ok-root.root.others.first c.as_slice.ensures.value c.in_ok-root.ensures in
    paid_at fits law c.args.item c.args.pairs.now c.requires.pairs c.args.start.now.others.numbers.items c.args.start.now.others.first st c.in_ok-rest.rest.numbers.items c.in_ok-rest.rest.first [] (map (λ set. set.items) c.settle.new.found.items) se size c.args.tally.now.tests c.explore.new.tally.tests (c.loop-place.place - 1) (omega arith)
    (root_paid fits law c.args.item c.args.pairs.now c.requires.pairs c.args.start.now.others.numbers.items c.args.start.now.others.first st c.in_ok-rest.rest.numbers.items c.in_ok-rest.rest.first [] (map (λ set. set.items) c.settle.new.found.items) se c.loop-place.place low high c.in_ok-root.root.set.items c.in_ok-root.root.others.numbers.items c.in_ok-root.root.others.first root size c.args.tally.now.tests c.loop-place.tally.tests c.explore.new.tally.tests h (c.loop-place.invariant.paid size h) c.in_err-explore.ensures.paid)

pub loop-place-preserved : goal.loop-place-preserved
loop-place-preserved g c =
    let fits = g.F.Family.Fits c.args.family.now in
    let law = g.met.F.Family.hereditary c.args.family.now in
    let st = start_there fits c.args.item c.args.pairs.now c.args.start.now.set.items c.args.start.now.others.numbers.items c.args.start.now.others.first c.requires.start in
    let none : map (λ set. set.items) c.new-found.result.items ≡ [] = search rules in
    let se = settled_there fits c.args.item c.args.start.now.set.items c.args.start.now.others.numbers.items c.args.start.now.others.first c.in_ok-rest.rest.numbers.items c.in_ok-rest.rest.first [] (map (λ set. set.items) c.new-found.result.items) (map (λ set. set.items) c.settle.new.found.items) c.requires.start.alone none c.in_ok-rest.ensures.settled in
    let low : c.args.start.now.others.first < c.loop-place.place = c.loop-place-test.true in
    let high : c.loop-place.place ≤ c.in_ok-rest.rest.first = c.loop-place.invariant.high in
    let root = root_there c.args.item c.args.pairs.now c.as_slice.result.now c.in_ok-rest.rest.numbers.items (c.loop-place.place - 1) c.in_ok-root.root.set.items c.in_ok-root.root.others.numbers.items c.in_ok-root.root.others.first c.as_slice.ensures.value c.in_ok-root.ensures in
    record {
      low = omega arith;
      high = omega arith;
      gains = root_gains fits law c.args.item c.args.pairs.now c.requires.pairs c.args.start.now.others.numbers.items c.args.start.now.others.first st c.in_ok-rest.rest.numbers.items c.in_ok-rest.rest.first [] (map (λ set. set.items) c.settle.new.found.items) se c.loop-place.place low high c.in_ok-root.root.set.items c.in_ok-root.root.others.numbers.items c.in_ok-root.root.others.first root [] (map (λ set. set.items) c.loop-place.found.items) (map (λ set. set.items) c.explore.new.found.items) c.loop-place.invariant.gains c.in_ok-explore.ensures.gains;
      paid = λ size h. root_paid fits law c.args.item c.args.pairs.now c.requires.pairs c.args.start.now.others.numbers.items c.args.start.now.others.first st c.in_ok-rest.rest.numbers.items c.in_ok-rest.rest.first [] (map (λ set. set.items) c.settle.new.found.items) se c.loop-place.place low high c.in_ok-root.root.set.items c.in_ok-root.root.others.numbers.items c.in_ok-root.root.others.first root size c.args.tally.now.tests c.loop-place.tally.tests c.explore.new.tally.tests h (c.loop-place.invariant.paid size h) c.in_ok-explore.ensures.paid;
    }

pub returns-clause-gains : goal.returns-clause-gains
returns-clause-gains g c =
    let fits = g.F.Family.Fits c.args.family.now in
    let law = g.met.F.Family.hereditary c.args.family.now in
    let st = start_there fits c.args.item c.args.pairs.now c.args.start.now.set.items c.args.start.now.others.numbers.items c.args.start.now.others.first c.requires.start in
    let none : map (λ set. set.items) c.new-found.result.items ≡ [] = search rules in
    let se = settled_there fits c.args.item c.args.start.now.set.items c.args.start.now.others.numbers.items c.args.start.now.others.first c.in_ok-rest.rest.numbers.items c.in_ok-rest.rest.first [] (map (λ set. set.items) c.new-found.result.items) (map (λ set. set.items) c.settle.new.found.items) c.requires.start.alone none c.in_ok-rest.ensures.settled in
    let n = start_narrowed fits law c.args.item c.args.pairs.now c.requires.pairs c.args.start.now.others.numbers.items c.args.start.now.others.first st c.in_ok-rest.rest.numbers.items c.in_ok-rest.rest.first [] (map (λ set. set.items) c.settle.new.found.items) se in
    let low : c.args.start.now.others.first ≤ c.loop-place.place = c.loop-place.invariant.low in
    let stop : c.loop-place.place ≤ c.args.start.now.others.first = c.loop-place-test.false in
    let same : c.loop-place.place ≡ c.args.start.now.others.first = omega arith in
    let found = map (λ set. set.items) c.loop-place.found.items in
    let there : Gains (IsClosedFrom (LiesInThree fits) (c.args.item ∷ []) (take c.args.start.now.others.first c.in_ok-rest.rest.numbers.items)) [] found = subst (λ (p : ℕ). Gains (IsClosedFrom (LiesInThree fits) (c.args.item ∷ []) (take p c.in_ok-rest.rest.numbers.items)) [] found) same c.loop-place.invariant.gains in
    subst (λ (xs : List ℕ). Gains (IsClosedFrom (LiesInThree fits) (c.args.item ∷ []) xs) [] found) n.same there

pub returns-clause-paid : goal.returns-clause-paid
returns-clause-paid g c = λ size h.
    let fits = g.F.Family.Fits c.args.family.now in
    let law = g.met.F.Family.hereditary c.args.family.now in
    let st = start_there fits c.args.item c.args.pairs.now c.args.start.now.set.items c.args.start.now.others.numbers.items c.args.start.now.others.first c.requires.start in
    let none : map (λ set. set.items) c.new-found.result.items ≡ [] = search rules in
    let se = settled_there fits c.args.item c.args.start.now.set.items c.args.start.now.others.numbers.items c.args.start.now.others.first c.in_ok-rest.rest.numbers.items c.in_ok-rest.rest.first [] (map (λ set. set.items) c.new-found.result.items) (map (λ set. set.items) c.settle.new.found.items) c.requires.start.alone none c.in_ok-rest.ensures.settled in
    paid_at fits law c.args.item c.args.pairs.now c.requires.pairs c.args.start.now.others.numbers.items c.args.start.now.others.first st c.in_ok-rest.rest.numbers.items c.in_ok-rest.rest.first [] (map (λ set. set.items) c.settle.new.found.items) se size c.args.tally.now.tests c.loop-place.tally.tests c.loop-place.place c.loop-place.invariant.low (c.loop-place.invariant.paid size h)
