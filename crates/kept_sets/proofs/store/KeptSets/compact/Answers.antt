use Rattle.std.proofs.Common.{ℕ, Vec, Global, List, map, sym, subst, ap, ◌∙◌}
use Rattle.kept_sets.specs.declared.finding.Holders.{Holders}
use Rattle.kept_sets.specs.Stored.{IsFound, IsStore, filled}
use Rattle.kept_sets.proofs.Compacted.{compacted, filled_again}
use Rattle.kept_sets.proofs.store.KeptSets.compact.Goals as goal

abbrev items_of : Vec ℕ Global → List ℕ
items_of set = set.items

abbrev places_of : Holders → List ℕ
places_of holders = holders.places.items

pub invariant_of-self : goal.invariant_of-self
invariant_of-self c =
    let index : IsFound (filled (map items_of c.self.inside.sets.items)) (map places_of c.in_ok-self-inside.field-0.items) = subst (λ l. IsFound (filled (map items_of l)) (map places_of c.in_ok-self-inside.field-0.items)) c.as_slice.ensures.value c.in_ok-self-inside.ensures in
    subst (λ l. IsStore l (map places_of c.in_ok-self-inside.field-0.items)) (sym c.drop_empty.ensures) (compacted (map items_of c.self.inside.sets.items) (map places_of c.self.inside.index.items) (map places_of c.in_ok-self-inside.field-0.items) c.self.invariant index)

pub returns : goal.returns
returns c = ap filled c.drop_empty.ensures ∙ filled_again (map items_of c.self.inside.sets.items) ∙ c.self.view_is
