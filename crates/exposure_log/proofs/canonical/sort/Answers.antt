use Rattle.std.proofs.Common.{rules, of_calls}
use Rattle.std.proofs.lemmas.Fn.{always_returns_same}
use Rattle.std.proofs.lemmas.List.Sorted.{All-permutation}
use Rattle.exposure_log.proofs.OneExposure.{has_lower_id, ids_rank, IsOfIt, the_exposure, rising_by_ids, stable_by_ids}
use Rattle.exposure_log.proofs.Sorting.{stands_lower, canonical_ranks, rising_from_sorted, where_ok, then_ok}
use Rattle.exposure_log.proofs.canonical.sort.Goals as goal

pub returns-then-is_one_exposure-clause-order : goal.returns-then-is_one_exposure-clause-order
returns-then-is_one_exposure-clause-order c =
    let it = the_exposure c.args.list.now.items (rw c.as_slice.ensures.value at (c.is_one_exposure.ensures.0 c.if-is_one_exposure.true)) in
    let still = All-permutation (IsOfIt it.0 it.1) c.args.list.now.items c.sort_by.new.self.items c.sort_by.ensures.permutation it.2 in
    then_ok c.sort_by.result _ _
    (λ sorted. rising_by_ids it.0 it.1 c.sort_by.new.self.items still (sorted has_lower_id ids_rank (always_returns_same _ _ _ (λ a r f k. search (rules, of_calls)))))
    c.sort_by.ensures.sorted

pub returns-then-is_one_exposure-clause-stable : goal.returns-then-is_one_exposure-clause-stable
returns-then-is_one_exposure-clause-stable c =
    let it = the_exposure c.args.list.now.items (rw c.as_slice.ensures.value at (c.is_one_exposure.ensures.0 c.if-is_one_exposure.true)) in
    let still = All-permutation (IsOfIt it.0 it.1) c.args.list.now.items c.sort_by.new.self.items c.sort_by.ensures.permutation it.2 in
    let by_ids = c.sort_by.ensures.stable has_lower_id ids_rank (always_returns_same _ _ _ (λ a r f k. search (rules, of_calls))) in
    where_ok c.sort_by.result _ (stable_by_ids it.0 it.1 c.args.list.now.items c.sort_by.new.self.items it.2 still by_ids)

pub returns-clause-order : goal.returns-clause-order
returns-clause-order c =
    then_ok c.sort_by-2.result _ _ (λ sorted. rising_from_sorted c.sort_by-2.new.self.items (sorted stands_lower canonical_ranks (always_returns_same _ _ _ (λ a r f k. search (rules, of_calls)))))
    c.sort_by-2.ensures.sorted

pub returns-clause-stable : goal.returns-clause-stable
returns-clause-stable c = where_ok c.sort_by-2.result _ (c.sort_by-2.ensures.stable stands_lower canonical_ranks (always_returns_same _ _ _ (λ a r f k. search (rules, of_calls))))
