use Rattle.std.proofs.Common.{◌≡◌, ℕ, ◌+◌, Vec, Global, List, length, map, sym, subst}
use Rattle.std.proofs.lemmas.List.{length-map}
use Rattle.std.proofs.lemmas.Result.{IfOk-from_err}
use Rattle.std.specs.List.{Contains}
use Rattle.kept_sets.specs.declared.finding.Holders.{Holders}
use Rattle.kept_sets.specs.Stored.{IsFound, IsStore, at}
use Rattle.kept_sets.proofs.Entered.{found_all, wider_itself, wider_then}
use Rattle.kept_sets.proofs.changing.prepare.Goals as goal

abbrev items_of : Vec ℕ Global → List ℕ
items_of set = set.items

abbrev places_of : Holders → List ℕ
places_of holders = holders.places.items

pub holding_places-requires : goal.holding_places-requires
holding_places-requires c = subst (λ l. IsFound (map items_of c.args.sets.now) (map places_of l)) (sym c.as_slice.ensures.value) c.requires.store.found

pub returns-in_err-broken-clause-wider : goal.returns-in_err-broken-clause-wider
returns-in_err-broken-clause-wider c = wider_itself (map places_of c.args.index.now.items)

pub returns-in_err-broken-clause-found : goal.returns-in_err-broken-clause-found
returns-in_err-broken-clause-found c = IfOk-from_err c.from_residual.result _ c.from_residual.ensures.0

pub returns-in_err-broken-clause-prepared : goal.returns-in_err-broken-clause-prepared
returns-in_err-broken-clause-prepared c = IfOk-from_err c.from_residual.result _ c.from_residual.ensures.0

pub extended_places-requires-clause-store : goal.extended_places-requires-clause-store
extended_places-requires-clause-store c = subst (λ l. IsStore (map items_of c.args.sets.now) (map places_of l)) (sym c.as_slice-2.ensures.value) c.requires.store

pub returns-in_err-extended-clause-wider : goal.returns-in_err-extended-clause-wider
returns-in_err-extended-clause-wider c = wider_itself (map places_of c.args.index.now.items)

pub returns-in_err-extended-clause-found : goal.returns-in_err-extended-clause-found
returns-in_err-extended-clause-found c = IfOk-from_err c.from_residual-in_err-extended.result _ c.from_residual-in_err-extended.ensures.0

pub returns-in_err-extended-clause-prepared : goal.returns-in_err-extended-clause-prepared
returns-in_err-extended-clause-prepared c = IfOk-from_err c.from_residual-in_err-extended.result _ c.from_residual-in_err-extended.ensures.0

pub returns-in_err-enter_all-clause-wider : goal.returns-in_err-enter_all-clause-wider
returns-in_err-enter_all-clause-wider c = c.enter_all.ensures.wider

pub returns-in_err-enter_all-clause-found : goal.returns-in_err-enter_all-clause-found
returns-in_err-enter_all-clause-found c = IfOk-from_err c.from_residual-in_err-enter_all.result _ c.from_residual-in_err-enter_all.ensures.0

pub returns-in_err-enter_all-clause-prepared : goal.returns-in_err-enter_all-clause-prepared
returns-in_err-enter_all-clause-prepared c = IfOk-from_err c.from_residual-in_err-enter_all.result _ c.from_residual-in_err-enter_all.ensures.0

pub add_rests-requires-clause-found : goal.add_rests-requires-clause-found
add_rests-requires-clause-found c =
    let sets = map items_of c.args.sets.now in
    let size : length (map items_of c.args.sets.now) ≡ length c.args.sets.now = length-map c.args.sets.now items_of in
    found_all (map items_of c.args.sets.now) (map items_of c.args.grown.items) (map places_of c.args.index.now.items) (map places_of c.enter_all.new.index.items) c.requires.store.found c.enter_all.ensures.wider
    (λ place item d. subst (λ n. Contains (at (map places_of c.enter_all.new.index.items) item) (n + place)) (sym size) (c.in_ok-enter_all.ensures.entered place item (subst (λ l. Contains (at (map items_of l) place) item) (sym c.as_slice-4.ensures.value) d)))

pub add_rests-requires-clause-sets : goal.add_rests-requires-clause-sets
add_rests-requires-clause-sets c = c.requires.sets

pub extended_places-requires-clause-came : goal.extended_places-requires-clause-came
extended_places-requires-clause-came c = c.requires.came

pub add_rests-requires-clause-went : goal.add_rests-requires-clause-went
add_rests-requires-clause-went c = c.requires.went

pub add_rests-requires-clause-once : goal.add_rests-requires-clause-once
add_rests-requires-clause-once c = c.requires.once

pub returns-in_err-add_rests-clause-wider : goal.returns-in_err-add_rests-clause-wider
returns-in_err-add_rests-clause-wider c = wider_then (map places_of c.args.index.now.items) (map places_of c.enter_all.new.index.items) (map places_of c.add_rests.new.index.items) c.enter_all.ensures.wider c.add_rests.ensures.wider

pub returns-in_err-add_rests-clause-found : goal.returns-in_err-add_rests-clause-found
returns-in_err-add_rests-clause-found c = IfOk-from_err c.from_residual-in_err-add_rests.result _ c.from_residual-in_err-add_rests.ensures.0

pub returns-in_err-add_rests-clause-prepared : goal.returns-in_err-add_rests-clause-prepared
returns-in_err-add_rests-clause-prepared c = IfOk-from_err c.from_residual-in_err-add_rests.result _ c.from_residual-in_err-add_rests.ensures.0

pub returns-clause-wider : goal.returns-clause-wider
returns-clause-wider c = wider_then (map places_of c.args.index.now.items) (map places_of c.enter_all.new.index.items) (map places_of c.add_rests.new.index.items) c.enter_all.ensures.wider c.add_rests.ensures.wider

pub returns-clause-found : goal.returns-clause-found
returns-clause-found c = c.in_ok-add_rests.ensures.found

pub returns-clause-prepared : goal.returns-clause-prepared
returns-clause-prepared c = record {
  breaks = c.in_ok-broken.ensures;
  extends = rw c.as_slice-3.ensures.value at c.in_ok-extended.ensures;
  adds = rw c.as_slice-5.ensures.value at c.in_ok-add_rests.ensures.added;
}
