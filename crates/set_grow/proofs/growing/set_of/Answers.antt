use Rattle.std.proofs.Common.{◌≡◌, ℕ, List, subst, sym}
use Rattle.std.proofs.lemmas.List.Filters.{dedup_is}
use Rattle.std.proofs.lemmas.List.Kept.{Contains-dedup_nat, Contains-from_dedup}
use Rattle.std.proofs.lemmas.List.Sorted.{Contains-permutation, IsPermutation-sym}
use Rattle.std.proofs.lemmas.Map.Keys.{IsStrictlyIncreasing-dedup, sorted_from_strictly_increasing}
use Rattle.std.specs.List.{Contains, dedup}
use Rattle.closed_sets.specs.Families.{IsSet}
use Rattle.set_grow.proofs.SortedSets.{nat_same}
use Rattle.set_grow.proofs.growing.set_of.Goals as goal

pub returns-clause-is_set : goal.returns-clause-is_set
returns-clause-is_set c =
    let is : c.dedup.new.self.items ≡ dedup nat_same c.sort_unstable.new.self.items = dedup_is nat_same _ _ c.dedup.ensures.filtered in
    subst IsSet (sym is) (sorted_from_strictly_increasing _ (IsStrictlyIncreasing-dedup c.sort_unstable.new.self.items c.sort_unstable.ensures.sorted))

pub returns-clause-exactly : goal.returns-clause-exactly
returns-clause-exactly c = λ x.
    let is : c.dedup.new.self.items ≡ dedup nat_same c.sort_unstable.new.self.items = dedup_is nat_same _ _ c.dedup.ensures.filtered in (
      λ d. Contains-permutation _ _ x (IsPermutation-sym _ _ c.sort_unstable.ensures.permutation) (Contains-from_dedup nat_same c.sort_unstable.new.self.items x (subst (λ (l : List ℕ). Contains l x) is d)),
      λ d. subst (λ (l : List ℕ). Contains l x) (sym is) (Contains-dedup_nat c.sort_unstable.new.self.items x (Contains-permutation _ _ x c.sort_unstable.ensures.permutation d)),
    )
