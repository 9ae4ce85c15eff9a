use Rattle.std.proofs.Common.{◌≡◌, ◌↔◌, ℕ, List, map, rules}
use Rattle.std.specs.List.{Contains}
use Rattle.closed_sets.specs.Families.{IsSet}
use Rattle.closed_sets.specs.Search.{IsPaired, IsUnion}
use Rattle.closed_sets.proofs.Fitting.{if_ok}
use Rattle.closed_sets.proofs.Pairs.{numbers_in}
use Rattle.closed_sets.proofs.roots.numbers_of.Goals as goal

pub returns-clause-is_set : goal.returns-clause-is_set
returns-clause-is_set c = if_ok (λ union. IsUnion c.as_slice.result.now c.as_slice-2.result.now union.items) (λ union. IsSet union.items) c.united.result (λ union u. u.is_set) c.united.ensures

pub returns-clause-exactly : goal.returns-clause-exactly
returns-clause-exactly c =
    let pairs : List (ℕ × ℕ) = c.args.pairs.now in
    let one : c.as_slice.result.now ≡ map (λ (pair : ℕ × ℕ). pair.0) pairs = search rules in
    let other : c.as_slice-2.result.now ≡ map (λ (pair : ℕ × ℕ). pair.1) pairs = search rules in
    if_ok (λ union. IsUnion c.as_slice.result.now c.as_slice-2.result.now union.items) (λ union. (x : ℕ) → Contains union.items x ↔ ((y : ℕ) × IsPaired c.args.pairs.now x y)) c.united.result
    (λ union u. numbers_in c.args.pairs.now c.as_slice.result.now c.as_slice-2.result.now union.items one other u) c.united.ensures
