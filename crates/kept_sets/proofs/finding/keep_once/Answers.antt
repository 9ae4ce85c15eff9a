use Rattle.std.proofs.Common.{◌==◌, sym, subst}
use Rattle.std.proofs.lemmas.List.Filters.{dedup_is}
use Rattle.std.proofs.lemmas.List.Kept.{Contains-dedup_nat, Contains-from_dedup}
use Rattle.std.proofs.lemmas.List.Sorted.{Contains-permutation, IsPermutation-sym}
use Rattle.std.specs.List.{Contains}
use Rattle.kept_sets.proofs.finding.keep_once.Goals as goal

pub returns : goal.returns
returns c =
    let left = dedup_is (λ x y. x == y) _ _ c.dedup.ensures.filtered in
    λ place. (
      λ d. Contains-permutation _ _ place (IsPermutation-sym _ _ c.sort_unstable.ensures.permutation) (Contains-from_dedup (λ x y. x == y) _ place (subst (λ l. Contains l place) left d)),
      λ d. subst (λ l. Contains l place) (sym left) (Contains-dedup_nat _ place (Contains-permutation _ _ place c.sort_unstable.ensures.permutation d)),
    )
