use Rattle.std.proofs.Common.{ℕ, List, [], ◌∷◌, map, sym, subst, ◌∙◌}
use Rattle.std.proofs.lemmas.List.Elements.{Contains-append_left, Contains-push}
use Rattle.std.specs.List.{Contains}
use Rattle.kept_sets.specs.declared.finding.Holders.{Holders}
use Rattle.kept_sets.proofs.Entered.{at_set_same, wider_same, wider_set, wider_then}
use Rattle.kept_sets.proofs.entering.enter_item.Goals as goal

abbrev places_of : Holders → List ℕ
places_of holders = holders.places.items

pub returns-in_err-push-clause-wider : goal.returns-in_err-push-clause-wider
returns-in_err-push-clause-wider c =
    let now : Holders = record { places = c.push.new.self; emptied = c.index_mut.result.now.emptied } in
    wider_then (map places_of c.args.index.now.items) (map places_of c.widen.new.index.items) _
    (wider_same (map places_of c.args.index.now.items) (map places_of c.widen.new.index.items) c.widen.ensures.same)
    (wider_set places_of c.widen.new.index.items c.args.item now c.index_mut.result.now c.in_ok-widen.ensures.reaches c.index_mut.ensures.value (λ y d. subst (λ l. Contains l y) (sym c.in_err-push.ensures.items) d))

pub returns-clause-wider : goal.returns-clause-wider
returns-clause-wider c =
    let now : Holders = record { places = c.push.new.self; emptied = c.index_mut.result.now.emptied } in
    wider_then (map places_of c.args.index.now.items) (map places_of c.widen.new.index.items) _
    (wider_same (map places_of c.args.index.now.items) (map places_of c.widen.new.index.items) c.widen.ensures.same)
    (wider_set places_of c.widen.new.index.items c.args.item now c.index_mut.result.now c.in_ok-widen.ensures.reaches c.index_mut.ensures.value (λ y d. subst (λ l. Contains l y) (sym c.in_ok-push.ensures.items) (Contains-append_left c.index_mut.result.now.places.items (c.args.place ∷ []) y d)))

pub returns-clause-entered : goal.returns-clause-entered
returns-clause-entered c =
    let now : Holders = record { places = c.push.new.self; emptied = c.index_mut.result.now.emptied } in
    subst (λ l. Contains l c.args.place) (sym (at_set_same places_of c.widen.new.index.items c.args.item now c.in_ok-widen.ensures.reaches ∙ c.in_ok-push.ensures.items)) (Contains-push c.index_mut.result.now.places.items c.args.place)
