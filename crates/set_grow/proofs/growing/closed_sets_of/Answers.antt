use Rattle.std.proofs.Common.{◌≡◌, ◌+◌, ◌++◌, ◌∷◌, [], ℕ, List, Vec, Global, length, map, take, get_or, sym, subst}
use Rattle.std.proofs.lemmas.List.{map-append, take_all, take_more}
use Rattle.std.proofs.lemmas.List.Elements.{Contains-get_or}
use Rattle.closed_sets.specs.Around.{AreClosedSetsWith, HasBothOfEach}
use Rattle.set_grow.specs.Growing.{AreGrown}
use Rattle.set_grow.specs.SkyData.{FitsWithParts}
use Rattle.set_grow.proofs.Gathering.{front_set, grown_more}
use Rattle.set_grow.proofs.PaidBoth.{both_next, both_of_front, both_of_pairs, both_tested, none_so_far}
use Rattle.set_grow.proofs.growing.closed_sets_of.Goals as goal

pub closed_sets_with-requires-clause-done : goal.closed_sets_with-requires-clause-done
closed_sets_with-requires-clause-done c = front_set c.args.items.now c.loop-place.place c.requires

pub closed_sets_with-requires-clause-pairs : goal.closed_sets_with-requires-clause-pairs
closed_sets_with-requires-clause-pairs c = rw c.as_slice.ensures.value c.in_ok-pairs.ensures.pairs

pub loop-place-preserved : goal.loop-place-preserved
loop-place-preserved c =
    let item : ℕ = get_or c.args.items.now c.loop-place.place 0 in
    let before : List ℕ = take c.loop-place.place c.args.items.now in
    let old : List (List ℕ) = map (λ (set : Vec ℕ Global). set.items) c.loop-place.found.items in
    let sets : List (List ℕ) = map (λ (set : Vec ℕ Global). set.items) c.in_ok-sets.sets.items in
    let found : AreClosedSetsWith (FitsWithParts c.args.sky.now) item before sets = c.in_ok-sets.ensures.sets in
    let more : AreGrown c.args.sky.now (before ++ item ∷ []) (old ++ sets) = grown_more c.args.sky.now before item old sets c.loop-place.invariant.grown found in
    let joined : map (λ (set : Vec ℕ Global). set.items) (c.loop-place.found.items ++ c.in_ok-sets.sets.items) ≡ old ++ sets = map-append (λ (set : Vec ℕ Global). set.items) c.loop-place.found.items c.in_ok-sets.sets.items in
    record {
      grown = rw (take_more c.args.items.now c.loop-place.place 0 c.loop-place-test.true, c.in_ok-append.ensures.items, joined) more;
      paid = λ numbers all.
          let pairs = both_of_pairs c.args.sky.now c.args.items.now (get_or c.args.items.now c.loop-place.place 0) c.in_ok-pairs.pairs.items numbers (Contains-get_or c.args.items.now c.loop-place.place 0 c.loop-place-test.true) c.in_ok-pairs.ensures.pairs all in
          both_next c.args.sky.now c.args.items.now c.loop-place.place (length numbers) c.args.tally.now.tests c.loop-place.tally.tests c.pairs_around.new.tally.tests c.closed_sets_with.new.tally.tests c.requires c.loop-place-test.true (c.loop-place.invariant.paid numbers all) c.pairs_around.ensures.paid
          (c.closed_sets_with.ensures.paid numbers (subst (λ list. HasBothOfEach list numbers) (sym c.as_slice.ensures.value) pairs));
    }

pub returns-clause-sets : goal.returns-clause-sets
returns-clause-sets c =
    let all : take c.loop-place.place c.args.items.now ≡ c.args.items.now = take_all c.loop-place.place c.args.items.now c.loop-place-test.false in
    subst (λ list. AreGrown c.args.sky.now list (map (λ (set : Vec ℕ Global). set.items) c.loop-place.found.items)) all c.loop-place.invariant.grown

pub returns-clause-paid : goal.returns-clause-paid
returns-clause-paid c = λ numbers all. both_of_front c.args.sky.now c.args.items.now c.loop-place.place (length numbers) c.args.tally.now.tests c.loop-place.tally.tests (c.loop-place.invariant.paid numbers all)

pub loop-place-init : goal.loop-place-init
loop-place-init c = rw c.new-found.ensures.items (none_so_far c.args.sky.now c.args.items.now c.args.tally.now.tests)

pub returns-in_err-pairs-clause-paid : goal.returns-in_err-pairs-clause-paid
returns-in_err-pairs-clause-paid c = λ numbers all.
    both_of_front c.args.sky.now c.args.items.now (c.loop-place.place + 1) (length numbers) c.args.tally.now.tests c.pairs_around.new.tally.tests
    (both_tested c.args.sky.now c.args.items.now c.loop-place.place (length numbers) c.args.tally.now.tests c.loop-place.tally.tests c.pairs_around.new.tally.tests c.requires c.loop-place-test.true (c.loop-place.invariant.paid numbers all) c.pairs_around.ensures.paid)

pub returns-in_err-sets-clause-paid : goal.returns-in_err-sets-clause-paid
returns-in_err-sets-clause-paid c = λ numbers all.
    let pairs = both_of_pairs c.args.sky.now c.args.items.now (get_or c.args.items.now c.loop-place.place 0) c.in_ok-pairs.pairs.items numbers (Contains-get_or c.args.items.now c.loop-place.place 0 c.loop-place-test.true) c.in_ok-pairs.ensures.pairs all in
    both_of_front c.args.sky.now c.args.items.now (c.loop-place.place + 1) (length numbers) c.args.tally.now.tests c.closed_sets_with.new.tally.tests
    (both_next c.args.sky.now c.args.items.now c.loop-place.place (length numbers) c.args.tally.now.tests c.loop-place.tally.tests c.pairs_around.new.tally.tests c.closed_sets_with.new.tally.tests c.requires c.loop-place-test.true (c.loop-place.invariant.paid numbers all) c.pairs_around.ensures.paid
    (c.closed_sets_with.ensures.paid numbers (subst (λ list. HasBothOfEach list numbers) (sym c.as_slice.ensures.value) pairs)))

pub returns-in_err-append-clause-paid : goal.returns-in_err-append-clause-paid
returns-in_err-append-clause-paid c = λ numbers all.
    let pairs = both_of_pairs c.args.sky.now c.args.items.now (get_or c.args.items.now c.loop-place.place 0) c.in_ok-pairs.pairs.items numbers (Contains-get_or c.args.items.now c.loop-place.place 0 c.loop-place-test.true) c.in_ok-pairs.ensures.pairs all in
    both_of_front c.args.sky.now c.args.items.now (c.loop-place.place + 1) (length numbers) c.args.tally.now.tests c.closed_sets_with.new.tally.tests
    (both_next c.args.sky.now c.args.items.now c.loop-place.place (length numbers) c.args.tally.now.tests c.loop-place.tally.tests c.pairs_around.new.tally.tests c.closed_sets_with.new.tally.tests c.requires c.loop-place-test.true (c.loop-place.invariant.paid numbers all) c.pairs_around.ensures.paid
    (c.closed_sets_with.ensures.paid numbers (subst (λ list. HasBothOfEach list numbers) (sym c.as_slice.ensures.value) pairs)))
