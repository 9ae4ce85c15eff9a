use Rattle.std.proofs.Common.{ℕ, leb, rules}
use Rattle.std.proofs.lemmas.Bool.{leb-true, leb-false}
use Rattle.std.proofs.lemmas.List.Sorted.{IsPartitionPoint-from_clause, IsPartitionedBy-leb}
use Rattle.subset_drop.proofs.index.end_of.Goals as goal

pub returns-clause-end : goal.returns-clause-end
returns-clause-end c =
    let parted = IsPartitionedBy-leb (λ (pair : ℕ × ℕ). pair.0) c.args.pairs.now c.args.number c.requires in
    let point = IsPartitionPoint-from_clause (λ (pair : ℕ × ℕ). leb pair.0 c.args.number) _ _ c.partition_point.ensures.partitioned parted (λ a r q k. search rules) in
    (λ k d l h. leb-true _ _ (point.0 k d l h), λ k d l h. leb-false _ _ (point.1 k d l h))
