use Rattle.std.proofs.Common.{◌≡◌, ℕ, Vec, Global, List, [], map, sym, subst, ap, ◌∙◌}
use Rattle.std.proofs.lemmas.List.{get_or-map}
use Rattle.std.specs.List.{Contains}
use Rattle.kept_sets.specs.declared.finding.Holders.{Holders}
use Rattle.kept_sets.specs.Stored.{at}
use Rattle.kept_sets.proofs.Entered.{below_more}
use Rattle.kept_sets.proofs.entering.enter_all.Goals as goal

abbrev places_of : Holders → List ℕ
places_of holders = holders.places.items

pub loop-place-preserved : goal.loop-place-preserved
loop-place-preserved c =
    let items_of = λ (set : Vec ℕ Global). set.items in
    let there : at (map items_of c.args.sets.now) c.loop-place.place ≡ c.as_slice.result.now = get_or-map items_of c.args.sets.now c.loop-place.place c.index-sets-place.result [] c.loop-place-test.true ∙ ap items_of (sym c.index-sets-place.is) ∙ sym c.as_slice.ensures.value in
    below_more (map places_of c.args.index.now.items) (map places_of c.loop-place.index.items) (map places_of c.enter.new.index.items) (map items_of c.args.sets.now) c.args.first c.loop-place.place c.loop-place.invariant c.enter.ensures.wider (λ item d. c.in_ok-enter.ensures.entered item (subst (λ s. Contains s item) there d))
