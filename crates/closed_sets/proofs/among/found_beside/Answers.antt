use Rattle.std.proofs.Common.{◌≡◌, ℕ, ◌+◌, ◌-◌, ◌*◌, ◌≤◌, ◌<◌, List, [], ◌∷◌, length, map, take, get_or, sym, subst, arith, rules}
use Rattle.std.specs.List.{Contains}
use Rattle.closed_sets.specs.Around.{IsFittingWith}
use Rattle.closed_sets.specs.Counting.{IsPaid}
use Rattle.closed_sets.specs.Search.{AreBeside, Gains, IsClosedFrom, IsSettledAround, LiesInThree}
use Rattle.closed_sets.proofs.Partners.{around_beside, around_gains, around_same, around_sizes, gains_at, paid_at, paid_with}
use Rattle.closed_sets.proofs.Paying.{paid_free, rises_part}
use Rattle.closed_sets.proofs.among.found_beside.Goals as goal

-- what is told of the sets before, told of none
settled_there : (Fits : List ℕ → Type 0) (item : ℕ) (others : List ℕ) (first : ℕ) (numbers : List ℕ) (end : ℕ) (old new : List (List ℕ)) → old ≡ [] → IsSettledAround Fits item others first numbers end old new → IsSettledAround Fits item others first numbers end [] new
settled_there Fits item others first numbers end old new e s = subst (λ (sets : List (List ℕ)). IsSettledAround Fits item others first numbers end sets new) e s

-- what a call tells of a slice, told of the list
gains_there : (Fits : List ℕ → Type 0) (item : ℕ) (slice numbers : List ℕ) (place : ℕ) (old new : List (List ℕ)) → slice ≡ numbers → Gains (IsClosedFrom Fits (get_or slice place 0 ∷ item ∷ []) (take place slice)) old new → Gains (IsClosedFrom Fits (get_or numbers place 0 ∷ item ∷ []) (take place numbers)) old new
gains_there Fits item slice numbers place old new e g = subst (λ (xs : List ℕ). Gains (IsClosedFrom Fits (get_or xs place 0 ∷ item ∷ []) (take place xs)) old new) e g

paid_there : (Fits : List ℕ → Type 0) (item : ℕ) (slice numbers : List ℕ) (place size before after : ℕ) → slice ≡ numbers → length numbers ≤ size → ((most : ℕ) → length slice ≤ most → IsPaid (λ (set : List ℕ). IsFittingWith Fits item (take place slice) set × Contains set (get_or slice place 0)) most most before after) → IsPaid (λ (set : List ℕ). IsFittingWith Fits item (take place numbers) set × Contains set (get_or numbers place 0)) size size before after
paid_there Fits item slice numbers place size before after e h p =
    let told = subst (λ (xs : List ℕ). (most : ℕ) → length xs ≤ most → IsPaid (λ (set : List ℕ). IsFittingWith Fits item (take place xs) set × Contains set (get_or xs place 0)) most most before after) e p in
    told size h

pub returns-in_err-rest-clause-paid : goal.returns-in_err-rest-clause-paid
returns-in_err-rest-clause-paid g c = λ size h.
    let fits = g.F.Family.Fits c.args.family.now in
    let law = g.met.F.Family.hereditary c.args.family.now in
    paid_free (IsFittingWith fits c.args.item (take c.args.others.now.first c.args.others.now.numbers.items)) size (size * size + size + 1) c.args.tally.now.tests c.settle_around.new.tally.tests (rises_part (length c.args.others.now.numbers.items + 1) (size * size + size + 1) _ _ c.in_err-rest.ensures.tests (omega arith))

pub loop-place-init : goal.loop-place-init
loop-place-init g c =
    let fits = g.F.Family.Fits c.args.family.now in
    let law = g.met.F.Family.hereditary c.args.family.now in
    let none : map (λ set. set.items) c.new-found.result.items ≡ [] = search rules in
    let se = settled_there fits c.args.item c.args.others.now.numbers.items c.args.others.now.first c.in_ok-rest.rest.numbers.items c.in_ok-rest.rest.first (map (λ set. set.items) c.new-found.result.items) (map (λ set. set.items) c.settle_around.new.found.items) none c.in_ok-rest.ensures.settled in
    let sizes = around_sizes fits law c.args.item c.args.others.now.numbers.items c.args.others.now.first c.requires.others c.requires.within c.in_ok-rest.rest.numbers.items c.in_ok-rest.rest.first [] (map (λ set. set.items) c.settle_around.new.found.items) se in
    record {
      low = sizes.0;
      high = omega arith;
      gains = around_gains fits law c.args.item c.args.others.now.numbers.items c.args.others.now.first c.requires.others c.requires.within c.in_ok-rest.rest.numbers.items c.in_ok-rest.rest.first [] (map (λ set. set.items) c.settle_around.new.found.items) se;
      paid = λ size h. paid_free (IsFittingWith fits c.args.item (take c.in_ok-rest.rest.first c.in_ok-rest.rest.numbers.items)) size (size + 1 + (c.in_ok-rest.rest.first - c.in_ok-rest.rest.first) * size) c.args.tally.now.tests c.settle_around.new.tally.tests (rises_part (length c.args.others.now.numbers.items + 1) (size + 1 + (c.in_ok-rest.rest.first - c.in_ok-rest.rest.first) * size) _ _ c.in_ok-rest.ensures.tests (omega arith));
    }

pub explore_at-requires-clause-numbers : goal.explore_at-requires-clause-numbers
explore_at-requires-clause-numbers g c =
    let fits = g.F.Family.Fits c.args.family.now in
    let law = g.met.F.Family.hereditary c.args.family.now in
    let none : map (λ set. set.items) c.new-found.result.items ≡ [] = search rules in
    let se = settled_there fits c.args.item c.args.others.now.numbers.items c.args.others.now.first c.in_ok-rest.rest.numbers.items c.in_ok-rest.rest.first (map (λ set. set.items) c.new-found.result.items) (map (λ set. set.items) c.settle_around.new.found.items) none c.in_ok-rest.ensures.settled in
    subst (AreBeside (LiesInThree fits) (c.args.item ∷ [])) (sym c.as_slice.ensures.value) (around_beside fits law c.args.item c.args.others.now.numbers.items c.args.others.now.first c.requires.others c.requires.within c.in_ok-rest.rest.numbers.items c.in_ok-rest.rest.first [] (map (λ set. set.items) c.settle_around.new.found.items) se)

pub explore_at-requires-clause-place : goal.explore_at-requires-clause-place
explore_at-requires-clause-place g c =
    let fits = g.F.Family.Fits c.args.family.now in
    let law = g.met.F.Family.hereditary c.args.family.now in
    let none : map (λ set. set.items) c.new-found.result.items ≡ [] = search rules in
    let se = settled_there fits c.args.item c.args.others.now.numbers.items c.args.others.now.first c.in_ok-rest.rest.numbers.items c.in_ok-rest.rest.first (map (λ set. set.items) c.new-found.result.items) (map (λ set. set.items) c.settle_around.new.found.items) none c.in_ok-rest.ensures.settled in
    let known = around_beside fits law c.args.item c.args.others.now.numbers.items c.args.others.now.first c.requires.others c.requires.within c.in_ok-rest.rest.numbers.items c.in_ok-rest.rest.first [] (map (λ set. set.items) c.settle_around.new.found.items) se in
    let sizes = around_sizes fits law c.args.item c.args.others.now.numbers.items c.args.others.now.first c.requires.others c.requires.within c.in_ok-rest.rest.numbers.items c.in_ok-rest.rest.first [] (map (λ set. set.items) c.settle_around.new.found.items) se in
    let bound : c.in_ok-rest.rest.first ≤ length c.in_ok-rest.rest.numbers.items = sizes.1 in
    let few : length c.in_ok-rest.rest.numbers.items ≤ length c.args.others.now.numbers.items = sizes.2 in
    let low : c.args.others.now.first < c.loop-place.place = c.loop-place-test.true in
    let high : c.loop-place.place ≤ c.in_ok-rest.rest.first = c.loop-place.invariant.high in
    let inside : c.loop-place.place - 1 < length c.in_ok-rest.rest.numbers.items = omega arith in
    subst (λ (xs : List ℕ). c.loop-place.place - 1 < length xs) (sym c.as_slice.ensures.value) inside

pub returns-in_err-explore_at-clause-paid : goal.returns-in_err-explore_at-clause-paid
returns-in_err-explore_at-clause-paid g c = λ size h.
    let fits = g.F.Family.Fits c.args.family.now in
    let law = g.met.F.Family.hereditary c.args.family.now in
    let none : map (λ set. set.items) c.new-found.result.items ≡ [] = search rules in
    let se = settled_there fits c.args.item c.args.others.now.numbers.items c.args.others.now.first c.in_ok-rest.rest.numbers.items c.in_ok-rest.rest.first (map (λ set. set.items) c.new-found.result.items) (map (λ set. set.items) c.settle_around.new.found.items) none c.in_ok-rest.ensures.settled in
    let known = around_beside fits law c.args.item c.args.others.now.numbers.items c.args.others.now.first c.requires.others c.requires.within c.in_ok-rest.rest.numbers.items c.in_ok-rest.rest.first [] (map (λ set. set.items) c.settle_around.new.found.items) se in
    let sizes = around_sizes fits law c.args.item c.args.others.now.numbers.items c.args.others.now.first c.requires.others c.requires.within c.in_ok-rest.rest.numbers.items c.in_ok-rest.rest.first [] (map (λ set. set.items) c.settle_around.new.found.items) se in
    let bound : c.in_ok-rest.rest.first ≤ length c.in_ok-rest.rest.numbers.items = sizes.1 in
    let few : length c.in_ok-rest.rest.numbers.items ≤ length c.args.others.now.numbers.items = sizes.2 in
    let low : c.args.others.now.first < c.loop-place.place = c.loop-place-test.true in
    let high : c.loop-place.place ≤ c.in_ok-rest.rest.first = c.loop-place.invariant.high in
    let inside : c.loop-place.place - 1 < length c.in_ok-rest.rest.numbers.items = omega arith in
    paid_at fits law c.args.item c.args.others.now.numbers.items c.args.others.now.first c.requires.others c.requires.within c.in_ok-rest.rest.numbers.items c.in_ok-rest.rest.first [] (map (λ set. set.items) c.settle_around.new.found.items) se size c.args.tally.now.tests c.explore_at.new.tally.tests (c.loop-place.place - 1) h (omega arith) (omega arith)
    (paid_with fits law c.args.item c.in_ok-rest.rest.numbers.items known (c.loop-place.place - 1) inside c.loop-place.place (omega arith) size c.in_ok-rest.rest.first c.args.tally.now.tests c.loop-place.tally.tests c.explore_at.new.tally.tests high (c.loop-place.invariant.paid size h)
    (paid_there fits c.args.item c.as_slice.result.now c.in_ok-rest.rest.numbers.items (c.loop-place.place - 1) size c.loop-place.tally.tests c.explore_at.new.tally.tests c.as_slice.ensures.value (omega arith) c.in_err-explore_at.ensures.paid))

pub loop-place-preserved : goal.loop-place-preserved
loop-place-preserved g c =
    let fits = g.F.Family.Fits c.args.family.now in
    let law = g.met.F.Family.hereditary c.args.family.now in
    let none : map (λ set. set.items) c.new-found.result.items ≡ [] = search rules in
    let se = settled_there fits c.args.item c.args.others.now.numbers.items c.args.others.now.first c.in_ok-rest.rest.numbers.items c.in_ok-rest.rest.first (map (λ set. set.items) c.new-found.result.items) (map (λ set. set.items) c.settle_around.new.found.items) none c.in_ok-rest.ensures.settled in
    let known = around_beside fits law c.args.item c.args.others.now.numbers.items c.args.others.now.first c.requires.others c.requires.within c.in_ok-rest.rest.numbers.items c.in_ok-rest.rest.first [] (map (λ set. set.items) c.settle_around.new.found.items) se in
    let sizes = around_sizes fits law c.args.item c.args.others.now.numbers.items c.args.others.now.first c.requires.others c.requires.within c.in_ok-rest.rest.numbers.items c.in_ok-rest.rest.first [] (map (λ set. set.items) c.settle_around.new.found.items) se in
    let bound : c.in_ok-rest.rest.first ≤ length c.in_ok-rest.rest.numbers.items = sizes.1 in
    let few : length c.in_ok-rest.rest.numbers.items ≤ length c.args.others.now.numbers.items = sizes.2 in
    let low : c.args.others.now.first < c.loop-place.place = c.loop-place-test.true in
    let high : c.loop-place.place ≤ c.in_ok-rest.rest.first = c.loop-place.invariant.high in
    let inside : c.loop-place.place - 1 < length c.in_ok-rest.rest.numbers.items = omega arith in
    record {
      low = omega arith;
      high = omega arith;
      gains = gains_at fits law c.args.item c.in_ok-rest.rest.numbers.items known (c.loop-place.place - 1) inside c.loop-place.place (omega arith) [] (map (λ set. set.items) c.loop-place.found.items) (map (λ set. set.items) c.explore_at.new.found.items) c.loop-place.invariant.gains
          (gains_there (LiesInThree fits) c.args.item c.as_slice.result.now c.in_ok-rest.rest.numbers.items (c.loop-place.place - 1) (map (λ set. set.items) c.loop-place.found.items) (map (λ set. set.items) c.explore_at.new.found.items) c.as_slice.ensures.value c.in_ok-explore_at.ensures.gains);
      paid = λ size h. paid_with fits law c.args.item c.in_ok-rest.rest.numbers.items known (c.loop-place.place - 1) inside c.loop-place.place (omega arith) size c.in_ok-rest.rest.first c.args.tally.now.tests c.loop-place.tally.tests c.explore_at.new.tally.tests high (c.loop-place.invariant.paid size h)
          (paid_there fits c.args.item c.as_slice.result.now c.in_ok-rest.rest.numbers.items (c.loop-place.place - 1) size c.loop-place.tally.tests c.explore_at.new.tally.tests c.as_slice.ensures.value (omega arith) c.in_ok-explore_at.ensures.paid);
    }

pub returns-clause-gains : goal.returns-clause-gains
returns-clause-gains g c =
    let fits = g.F.Family.Fits c.args.family.now in
    let law = g.met.F.Family.hereditary c.args.family.now in
    let none : map (λ set. set.items) c.new-found.result.items ≡ [] = search rules in
    let se = settled_there fits c.args.item c.args.others.now.numbers.items c.args.others.now.first c.in_ok-rest.rest.numbers.items c.in_ok-rest.rest.first (map (λ set. set.items) c.new-found.result.items) (map (λ set. set.items) c.settle_around.new.found.items) none c.in_ok-rest.ensures.settled in
    let low : c.args.others.now.first ≤ c.loop-place.place = c.loop-place.invariant.low in
    let stop : c.loop-place.place ≤ c.args.others.now.first = c.loop-place-test.false in
    let same : c.loop-place.place ≡ c.args.others.now.first = omega arith in
    let found = map (λ set. set.items) c.loop-place.found.items in
    let there : Gains (IsClosedFrom (LiesInThree fits) (c.args.item ∷ []) (take c.args.others.now.first c.in_ok-rest.rest.numbers.items)) [] found = subst (λ (p : ℕ). Gains (IsClosedFrom (LiesInThree fits) (c.args.item ∷ []) (take p c.in_ok-rest.rest.numbers.items)) [] found) same c.loop-place.invariant.gains in
    subst (λ (xs : List ℕ). Gains (IsClosedFrom (LiesInThree fits) (c.args.item ∷ []) xs) [] found) (around_same fits law c.args.item c.args.others.now.numbers.items c.args.others.now.first c.requires.others c.requires.within c.in_ok-rest.rest.numbers.items c.in_ok-rest.rest.first [] (map (λ set. set.items) c.settle_around.new.found.items) se) there

pub returns-clause-paid : goal.returns-clause-paid
returns-clause-paid g c = λ size h.
    let fits = g.F.Family.Fits c.args.family.now in
    let law = g.met.F.Family.hereditary c.args.family.now in
    let none : map (λ set. set.items) c.new-found.result.items ≡ [] = search rules in
    let se = settled_there fits c.args.item c.args.others.now.numbers.items c.args.others.now.first c.in_ok-rest.rest.numbers.items c.in_ok-rest.rest.first (map (λ set. set.items) c.new-found.result.items) (map (λ set. set.items) c.settle_around.new.found.items) none c.in_ok-rest.ensures.settled in
    paid_at fits law c.args.item c.args.others.now.numbers.items c.args.others.now.first c.requires.others c.requires.within c.in_ok-rest.rest.numbers.items c.in_ok-rest.rest.first [] (map (λ set. set.items) c.settle_around.new.found.items) se size c.args.tally.now.tests c.loop-place.tally.tests c.loop-place.place h c.loop-place.invariant.low c.loop-place.invariant.high (c.loop-place.invariant.paid size h)
