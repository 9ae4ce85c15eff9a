use Rattle.std.proofs.Common.{◌≡◌, ℕ, List, map, sym, subst}
use Rattle.closed_sets.specs.Around.{AreFittingPairs}
use Rattle.closed_sets.specs.Families.{IsSet}
use Rattle.closed_sets.specs.Objects.{IsSeen}
use Rattle.closed_sets.proofs.tests.closed_text.Goals as goal

pub closed_sets_with-requires-clause-done : goal.closed_sets_with-requires-clause-done
closed_sets_with-requires-clause-done c = subst IsSet (sym c.as_slice.ensures.value) c.set_of-done.ensures.is_set

pub closed_sets_with-requires-clause-pairs : goal.closed_sets_with-requires-clause-pairs
closed_sets_with-requires-clause-pairs c =
    let whole : c.as_slice-2.result.now ≡ c.in_ok-pairs.pairs.items = c.as_slice-2.ensures.value in
    subst (λ (ps : List (ℕ × ℕ)). AreFittingPairs (IsSeen (map (λ object. object.items) c.in_ok-family.family.objects.items)) c.args.item ps) (sym whole) c.in_ok-pairs.ensures
