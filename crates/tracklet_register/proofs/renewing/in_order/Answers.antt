use Rattle.std.proofs.Common.{◌==◌, sym, subst}
use Rattle.std.proofs.lemmas.List.Filters.{dedup_is}
use Rattle.std.proofs.lemmas.List.Kept.{Contains-dedup_nat, Contains-from_dedup}
use Rattle.std.proofs.lemmas.List.Sorted.{Contains-permutation, IsPermutation-sym}
use Rattle.std.proofs.lemmas.Map.Keys.{IsStrictlyIncreasing-dedup, sorted_from_strictly_increasing}
use Rattle.std.specs.List.{Contains}
use Rattle.closed_sets.specs.Families.{IsSet}
use Rattle.tracklet_register.proofs.renewing.in_order.Goals as goal

pub returns-clause-in_order : goal.returns-clause-in_order
returns-clause-in_order c =
    subst IsSet (sym (dedup_is (λ x y. x == y) _ _ c.dedup.ensures.filtered)) (sorted_from_strictly_increasing _ (IsStrictlyIncreasing-dedup c.sort_unstable.new.self.items c.sort_unstable.ensures.sorted))

pub returns-clause-exactly : goal.returns-clause-exactly
returns-clause-exactly c =
    let left = dedup_is (λ x y. x == y) _ _ c.dedup.ensures.filtered in
    λ place. (
      λ d. Contains-permutation _ _ place (IsPermutation-sym _ _ c.sort_unstable.ensures.permutation) (Contains-from_dedup (λ x y. x == y) _ place (subst (λ l. Contains l place) left d)),
      λ d. subst (λ l. Contains l place) (sym left) (Contains-dedup_nat _ place (Contains-permutation _ _ place c.sort_unstable.ensures.permutation d)),
    )
