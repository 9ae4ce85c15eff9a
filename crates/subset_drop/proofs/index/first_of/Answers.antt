use Rattle.std.proofs.Common.{ℕ, ltb, rules}
use Rattle.std.proofs.lemmas.Bool.{ltb-true, ltb-false}
use Rattle.std.proofs.lemmas.List.Sorted.{IsPartitionPoint-from_clause, IsPartitionedBy-ltb}
use Rattle.subset_drop.proofs.index.first_of.Goals as goal

pub returns-clause-first : goal.returns-clause-first
returns-clause-first c =
    let parted = IsPartitionedBy-ltb (λ (pair : ℕ × ℕ). pair.0) c.args.pairs.now c.args.number c.requires in
    let point = IsPartitionPoint-from_clause (λ (pair : ℕ × ℕ). ltb pair.0 c.args.number) _ _ c.partition_point.ensures.partitioned parted (λ a r q k. search rules) in
    (λ k d l h. ltb-true _ _ (point.0 k d l h), λ k d l h. ltb-false _ _ (point.1 k d l h))
