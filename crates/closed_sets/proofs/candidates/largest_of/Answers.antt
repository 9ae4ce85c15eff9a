use Rattle.std.proofs.Common.{◌≡◌, ℕ, ◌+◌, length, List, [], ◌∷◌, ap, subst, sym, arith}
use Rattle.closed_sets.specs.Search.{IsLargest, IsUnion}
use Rattle.closed_sets.proofs.Fitting.{if_ok}
use Rattle.closed_sets.proofs.Largest.{largest_none}
use Rattle.closed_sets.proofs.Lists.{empty, in_front}
use Rattle.closed_sets.proofs.Paying.{rises_part}
use Rattle.std.specs.List.{Contains}
use Rattle.closed_sets.proofs.candidates.largest_of.Goals as goal

pub returns-in-None-clause-largest : goal.returns-in-None-clause-largest
returns-in-None-clause-largest g c =
    let fits = g.F.Family.Fits c.args.family.now in
    let none : c.args.candidates.now ≡ [] = empty c.args.candidates.now c.in-None.ensures.cases in
    if_ok _ _ c.united.result (λ union u. subst (λ (xs : List ℕ). IsLargest fits c.args.set.now xs union.items) (sym none)
    (largest_none fits (g.met.F.Family.hereditary c.args.family.now) c.args.set.now union.items c.requires.fits (subst (λ (xs : List ℕ). IsUnion c.args.set.now xs union.items) none u))) c.united.ensures

pub largest_with-requires : goal.largest_with-requires
largest_with-requires g c =
    let parts : c.args.candidates.now ≡ c.in-Some.first.now ∷ c.in-Some.rest.now = c.in-Some.ensures.cases.0 in
    c.requires.candidates c.in-Some.first.now (subst (λ (xs : List ℕ). Contains xs c.in-Some.first.now) (sym parts) (in_front c.in-Some.first.now c.in-Some.rest.now))

pub returns-in-Some-clause-largest : goal.returns-in-Some-clause-largest
returns-in-Some-clause-largest g c =
    let fits = g.F.Family.Fits c.args.family.now in
    let parts : c.args.candidates.now ≡ c.in-Some.first.now ∷ c.in-Some.rest.now = c.in-Some.ensures.cases.0 in
    if_ok _ _ c.largest_with.result (λ largest l. subst (λ (xs : List ℕ). IsLargest fits c.args.set.now xs largest.items) (sym parts) l) c.largest_with.ensures.largest

pub returns-in-Some-clause-tests : goal.returns-in-Some-clause-tests
returns-in-Some-clause-tests g c =
    let parts : length c.args.candidates.now ≡ length (c.in-Some.first.now ∷ c.in-Some.rest.now) = ap length c.in-Some.ensures.cases.0 in
    rises_part (length c.in-Some.rest.now + 1) (length c.args.candidates.now) _ _ c.largest_with.ensures.tests (omega arith)
