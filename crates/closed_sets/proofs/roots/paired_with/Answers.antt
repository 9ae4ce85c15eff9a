use Rattle.std.proofs.Common.{◌≡◌, ◌↔◌, ℕ, rules}
use Rattle.std.specs.List.{Contains}
use Rattle.closed_sets.specs.Families.{IsSet}
use Rattle.closed_sets.specs.Search.{IsPaired, IsUnion}
use Rattle.closed_sets.proofs.Fitting.{if_ok}
use Rattle.closed_sets.proofs.Pairs.{firsts, paired_in, seconds}
use Rattle.closed_sets.proofs.roots.paired_with.Goals as goal

pub returns-clause-is_set : goal.returns-clause-is_set
returns-clause-is_set c = if_ok (λ union. IsUnion c.as_slice.result.now c.as_slice-2.result.now union.items) (λ union. IsSet union.items) c.united.result (λ union u. u.is_set) c.united.ensures

pub returns-clause-exactly : goal.returns-clause-exactly
returns-clause-exactly c =
    let one : c.as_slice.result.now ≡ firsts c.args.pairs.now c.args.number = search rules in
    let other : c.as_slice-2.result.now ≡ seconds c.args.pairs.now c.args.number = search rules in
    if_ok (λ union. IsUnion c.as_slice.result.now c.as_slice-2.result.now union.items) (λ union. (x : ℕ) → Contains union.items x ↔ IsPaired c.args.pairs.now c.args.number x) c.united.result
    (λ union u. paired_in c.args.pairs.now c.args.number c.as_slice.result.now c.as_slice-2.result.now union.items one other u) c.united.ensures
