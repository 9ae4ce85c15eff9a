use Rattle.std.proofs.Common.{◌≡◌, ℕ, ◌≤◌, ◌<◌, ◌↔◌, ◌∙◌, List, [], ◌∷◌, inl, inr, length, map, take, sym, subst, arith, rules}
use Rattle.std.specs.List.{Contains}
use Rattle.std.proofs.lemmas.Bool.{cases_lt}
use Rattle.closed_sets.specs.Around.{IsFree}
use Rattle.closed_sets.specs.Families.{IsClosed}
use Rattle.closed_sets.specs.Search.{Gains, IsClosedFrom, IsStart, LiesInThree}
use Rattle.closed_sets.proofs.Fitting.{if_ok}
use Rattle.closed_sets.proofs.Lists.{one_of}
use Rattle.closed_sets.proofs.Starts.{all_there, closed_from, few_others, none_there, none_without, not_done, paid_done, starts}
use Rattle.closed_sets.proofs.around.found_with.Goals as goal

is_some : (first size len : ℕ) → len ≡ size → first ≤ size → (¬ (first ≡ len)) → first < size
is_some first size len e within differ = elim (cases_lt first size) [ inl less ↦ less | inr more ↦ absurd (differ (omega arith)) ]

pub returns-then-has_rising-clause-sets : goal.returns-then-has_rising-clause-sets
returns-then-has_rising-clause-sets g c =
    let fits = g.F.Family.Fits c.args.family.now in
    let none : map (λ set. set.items) c.new.result.items ≡ [] = search rules in
    none_there (λ set. IsClosed fits set × Contains set c.args.item × IsFree c.args.done.now set × 3 ≤ length set) (map (λ set. set.items) c.new.result.items) none
    (λ set w. w.2 c.args.item ((one_of c.args.done.now c.args.item).0 (sym c.has_rising.ensures ∙ c.if-has_rising.true)) w.1)

pub returns-then-others-len-clause-sets : goal.returns-then-others-len-clause-sets
returns-then-others-len-clause-sets g c =
    let fits = g.F.Family.Fits c.args.family.now in
    let law = g.met.F.Family.hereditary c.args.family.now in
    let new = not_done c.args.done.now c.args.item c.has_rising.result c.has_rising.ensures c.if-has_rising.false in
    let len : c.len.result ≡ length c.in_ok-others.others.numbers.items = search rules in
    let at : c.in_ok-others.others.first ≡ c.len.result = c.if-others-len.true in
    let none : map (λ set. set.items) c.new-then-others-len.result.items ≡ [] = search rules in
    none_there (λ set. IsClosed fits set × Contains set c.args.item × IsFree c.args.done.now set × 3 ≤ length set) (map (λ set. set.items) c.new-then-others-len.result.items) none
    (λ set w. none_without fits law c.args.item c.args.pairs.now c.requires.pairs c.args.done.now c.in_ok-others.others.numbers.items c.in_ok-others.others.first c.in_ok-others.ensures new (omega arith) set (record { fits = w.0.fits; has = w.1; free = w.2; large = w.3 }))

pub found_from-requires-clause-start : goal.found_from-requires-clause-start
found_from-requires-clause-start g c =
    let fits = g.F.Family.Fits c.args.family.now in
    let law = g.met.F.Family.hereditary c.args.family.now in
    let new = not_done c.args.done.now c.args.item c.has_rising.result c.has_rising.ensures c.if-has_rising.false in
    let len : c.len.result ≡ length c.in_ok-others.others.numbers.items = search rules in
    let some = is_some c.in_ok-others.others.first (length c.in_ok-others.others.numbers.items) c.len.result len c.in_ok-others.ensures.within c.if-others-len.false in
    subst (λ (set : List ℕ). IsStart fits c.args.item c.args.pairs.now set c.in_ok-others.others.numbers.items c.in_ok-others.others.first) (sym c.in_ok-set.ensures.items)
    (starts fits law c.args.item c.args.pairs.now c.requires.pairs c.args.done.now c.in_ok-others.others.numbers.items c.in_ok-others.others.first c.in_ok-others.ensures new some)

pub returns-clause-sets : goal.returns-clause-sets
returns-clause-sets g c =
    let fits = g.F.Family.Fits c.args.family.now in
    let law = g.met.F.Family.hereditary c.args.family.now in
    let new = not_done c.args.done.now c.args.item c.has_rising.result c.has_rising.ensures c.if-has_rising.false in
    let len : c.len.result ≡ length c.in_ok-others.others.numbers.items = search rules in
    let some = is_some c.in_ok-others.others.first (length c.in_ok-others.others.numbers.items) c.len.result len c.in_ok-others.ensures.within c.if-others-len.false in
    let front : List ℕ = take c.in_ok-others.others.first c.in_ok-others.others.numbers.items in
    let closed = closed_from fits law c.args.item c.args.pairs.now c.requires.pairs c.args.done.now c.in_ok-others.others.numbers.items c.in_ok-others.others.first c.in_ok-others.ensures new some in
    if_ok (λ sets. Gains (IsClosedFrom (LiesInThree fits) (c.args.item ∷ []) front) [] (map (λ set. set.items) sets.items)) (λ sets. (set : List ℕ) → Contains (map (λ set. set.items) sets.items) set ↔ (IsClosed fits set × Contains set c.args.item × IsFree c.args.done.now set × 3 ≤ length set)) c.found_from.result
    (λ sets gains. all_there (IsClosedFrom (LiesInThree fits) (c.args.item ∷ []) front) (λ set. IsClosed fits set × Contains set c.args.item × IsFree c.args.done.now set × 3 ≤ length set) (map (λ set. set.items) sets.items) closed gains) c.found_from.ensures.gains

pub returns-clause-paid : goal.returns-clause-paid
returns-clause-paid g c = λ partners h.
    let fits = g.F.Family.Fits c.args.family.now in
    let law = g.met.F.Family.hereditary c.args.family.now in
    let new = not_done c.args.done.now c.args.item c.has_rising.result c.has_rising.ensures c.if-has_rising.false in
    let len : c.len.result ≡ length c.in_ok-others.others.numbers.items = search rules in
    let some = is_some c.in_ok-others.others.first (length c.in_ok-others.others.numbers.items) c.len.result len c.in_ok-others.ensures.within c.if-others-len.false in
    paid_done fits law c.args.item c.args.pairs.now c.requires.pairs c.args.done.now c.in_ok-others.others.numbers.items c.in_ok-others.others.first c.in_ok-others.ensures new some (length partners) c.args.tally.now.tests c.found_from.new.tally.tests
    (c.found_from.ensures.paid (length partners) (few_others fits law c.args.item c.args.pairs.now c.requires.pairs c.args.done.now c.in_ok-others.others.numbers.items c.in_ok-others.others.first c.in_ok-others.ensures new partners h))
