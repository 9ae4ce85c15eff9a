use Rattle.std.proofs.Common.{ℕ, length, map, rules}
use Rattle.std.proofs.lemmas.List.{length-map}
use Rattle.std.proofs.lemmas.List.Sorted.{IsNonDecreasingBy-from_sort_by_key}
use Rattle.subset_drop.specs.Index.{HasPairsOf}
use Rattle.subset_drop.proofs.Pairs.{index_made}
use Rattle.subset_drop.proofs.index.index_of.Goals as goal

pub returns : goal.returns
returns c =
    let rising = IsNonDecreasingBy-from_sort_by_key (λ (pair : ℕ × ℕ). pair.0) _ c.in_ok-sort_by_key.ensures.sorted (λ a r q k. search rules) in
    let held : HasPairsOf (map (λ list. list.items) c.args.lists.now) (length (map (λ list. list.items) c.args.lists.now)) c.in_ok-pairs.pairs.items = rw (length-map c.args.lists.now (λ list. list.items)) c.in_ok-pairs.ensures in
    index_made (map (λ list. list.items) c.args.lists.now) c.in_ok-pairs.pairs.items c.sort_by_key.new.self.items held c.in_ok-sort_by_key.ensures.permutation rising
