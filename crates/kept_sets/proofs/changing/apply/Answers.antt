use Rattle.std.proofs.Common.{◌≡◌, ℕ, Vec, Global, List, ◌++◌, map, sym, subst, ap, ◌∙◌}
use Rattle.std.proofs.lemmas.List.{map-append}
use Rattle.std.proofs.lemmas.Result.{IfOk-from_err}
use Rattle.std.specs.List.{Contains}
use Rattle.kept_sets.specs.declared.finding.Holders.{Holders}
use Rattle.kept_sets.specs.Stored.{AreEmptied, IsFound}
use Rattle.kept_sets.proofs.Changed.{both_emptied}
use Rattle.kept_sets.proofs.Entered.{found_left}
use Rattle.kept_sets.proofs.Exits.{on_err}
use Rattle.kept_sets.proofs.changing.apply.Goals as goal

abbrev items_of : Vec ℕ Global → List ℕ
items_of set = set.items

abbrev places_of : Holders → List ℕ
places_of holders = holders.places.items

pub returns-in_err-append-clause-found : goal.returns-in_err-append-clause-found
returns-in_err-append-clause-found c =
    subst (λ l. IsFound (map items_of l) (map places_of c.args.index.now.items)) (sym c.in_err-append.ensures.items)
    (found_left (map items_of c.args.sets.now.items) (map items_of c.args.prepared.added.items) (map places_of c.args.index.now.items) c.requires)

pub returns-in_err-append-clause-same : goal.returns-in_err-append-clause-same
returns-in_err-append-clause-same c = on_err c.from_residual.result _ c.in_err-append.ensures.items

pub returns-in_err-append-clause-emptied : goal.returns-in_err-append-clause-emptied
returns-in_err-append-clause-emptied c = IfOk-from_err c.from_residual.result _ c.from_residual.ensures.0

pub take_out-requires : goal.take_out-requires
take_out-requires c =
    let joined : map items_of c.append.new.self.items ≡ map items_of c.args.sets.now.items ++ map items_of c.args.prepared.added.items = ap (map items_of) c.in_ok-append.ensures.items ∙ map-append items_of c.args.sets.now.items c.args.prepared.added.items in
    subst (λ l. IsFound l (map places_of c.args.index.now.items)) (sym joined) c.requires

pub take_out-requires-2 : goal.take_out-requires-2
take_out-requires-2 c = c.take_out.ensures.found

pub returns-clause-found : goal.returns-clause-found
returns-clause-found c = c.take_out-2.ensures.found

pub returns-clause-emptied : goal.returns-clause-emptied
returns-clause-emptied c =
    let joined : map items_of c.append.new.self.items ≡ map items_of c.args.sets.now.items ++ map items_of c.args.prepared.added.items = ap (map items_of) c.in_ok-append.ensures.items ∙ map-append items_of c.args.sets.now.items c.args.prepared.added.items in
    subst (λ l. AreEmptied l c.args.prepared.broken.items c.args.prepared.extended.items (map items_of c.take_out-2.new.sets.items)) joined
    (both_emptied (map items_of c.append.new.self.items) (map items_of c.take_out.new.sets.items) (map items_of c.take_out-2.new.sets.items) c.args.prepared.broken.items c.args.prepared.extended.items
    (λ place d. c.take_out.ensures.emptied place (subst (λ l. Contains l place) (sym c.as_slice.ensures.value) d))
    (λ place n. c.take_out.ensures.left place (λ d. n (subst (λ l. Contains l place) c.as_slice.ensures.value d)))
    (λ place d. c.take_out-2.ensures.emptied place (subst (λ l. Contains l place) (sym c.as_slice-2.ensures.value) d))
    (λ place n. c.take_out-2.ensures.left place (λ d. n (subst (λ l. Contains l place) c.as_slice-2.ensures.value d))))
