use Rattle.std.proofs.Common.{ℕ, ◌<◌, List, ◌∷◌, map, sym, subst}
use Rattle.std.specs.List.{Contains}
use Rattle.std.proofs.lemmas.List.Elements.{All-contains}
use Rattle.closed_sets.specs.Around.{HasPartners}
use Rattle.closed_sets.specs.Families.{IsSet}
use Rattle.closed_sets.specs.Objects.{IsSeen}
use Rattle.closed_sets.proofs.Lists.{among, in_rest}
use Rattle.closed_sets.proofs.tests.among_text.Goals as goal

all_partners : (objects : List (List ℕ)) (item : ℕ) (partners : List ℕ) → ((x : ℕ) → x < 10 → Contains partners x) → HasPartners (IsSeen objects) item partners
all_partners objects item partners h set seen c large = among set (item ∷ partners) (λ x d. in_rest item partners x (h x (All-contains (λ y. y < 10) set x seen.small d)))

pub closed_sets_among-requires-clause-done : goal.closed_sets_among-requires-clause-done
closed_sets_among-requires-clause-done c = subst IsSet (sym c.as_slice.ensures.value) c.set_of-done.ensures.is_set

pub closed_sets_among-requires-clause-partners : goal.closed_sets_among-requires-clause-partners
closed_sets_among-requires-clause-partners c =
    let objects = map (λ object. object.items) c.in_ok-family.family.objects.items in
    subst (HasPartners (IsSeen objects) c.args.item) (sym c.as_slice-2.ensures.value) (all_partners objects c.args.item c.in_ok-partners.partners.items c.in_ok-partners.ensures)
