use Rattle.std.proofs.Common.{◌≡◌, ◌↔◌, ℕ, ◌++◌, Vec, Global, List, map, sym, subst, ap, ◌∙◌}
use Rattle.std.proofs.lemmas.Result.{IfOk-from_err}
use Rattle.std.specs.List.{Contains}
use Rattle.kept_sets.specs.declared.finding.Holders.{Holders}
use Rattle.kept_sets.specs.Changes.{AreReady, IsAfter}
use Rattle.kept_sets.specs.Lists.{AreDifferent}
use Rattle.kept_sets.specs.Stored.{IsFound, IsPrepared, IsStore, at, filled}
use Rattle.kept_sets.proofs.Changed.{IsMade, after_is, apart_now, are_sets}
use Rattle.kept_sets.proofs.Emptied.{different_filled}
use Rattle.kept_sets.proofs.Entered.{found_wider}
use Rattle.kept_sets.proofs.Exits.{on_err}
use Rattle.kept_sets.proofs.store.KeptSets.change.Goals as goal

abbrev items_of : Vec ℕ Global → List ℕ
items_of set = set.items

abbrev places_of : Holders → List ℕ
places_of holders = holders.places.items

pub prepare-requires-clause-store : goal.prepare-requires-clause-store
prepare-requires-clause-store c = subst (λ l. IsStore (map items_of l) (map places_of c.self.inside.index.items)) (sym c.as_slice.ensures.value) c.self.invariant

pub prepare-requires-clause-sets : goal.prepare-requires-clause-sets
prepare-requires-clause-sets c =
    let ready : AreReady c.args.went.now c.args.came.now (filled (map items_of c.self.inside.sets.items)) (map items_of c.args.grown.items) = subst (λ old. AreReady c.args.went.now c.args.came.now old (map items_of c.args.grown.items)) (sym c.self.view_is) c.requires.ready in
    are_sets (map items_of c.as_slice.result.now) (λ set d. ready.sets set (subst (λ l. Contains (filled (map items_of l)) set) c.as_slice.ensures.value d))

pub prepare-requires-clause-once : goal.prepare-requires-clause-once
prepare-requires-clause-once c = c.requires.ready.once

pub prepare-requires-clause-went : goal.prepare-requires-clause-went
prepare-requires-clause-went c = c.requires.went

pub prepare-requires-clause-came : goal.prepare-requires-clause-came
prepare-requires-clause-came c = c.requires.came

pub invariant_of-self : goal.invariant_of-self
invariant_of-self c = record {
  found = found_wider (map items_of c.self.inside.sets.items) (map places_of c.self.inside.index.items) (map places_of c.prepare.new.index.items) c.self.invariant.found c.prepare.ensures.wider;
  apart = c.self.invariant.apart;
}

pub returns-in_err-prepared-clause-once : goal.returns-in_err-prepared-clause-once
returns-in_err-prepared-clause-once c = different_filled (map items_of c.self.inside.sets.items) c.self.invariant.apart

pub returns-in_err-prepared-clause-same : goal.returns-in_err-prepared-clause-same
returns-in_err-prepared-clause-same c = on_err c.from_residual.result _ c.self.view_is

pub returns-in_err-prepared-clause-changed : goal.returns-in_err-prepared-clause-changed
returns-in_err-prepared-clause-changed c = IfOk-from_err c.from_residual.result _ c.from_residual.ensures.0

pub apply-requires : goal.apply-requires
apply-requires c = subst (λ l. IsFound (map items_of l ++ map items_of c.in_ok-prepared.prepared.added.items) (map places_of c.prepare.new.index.items)) c.as_slice.ensures.value c.in_ok-prepared.ensures.found

-- where memory is wanting at the last step, the sets are the old ones
pub invariant_of-self-in_err-apply : goal.invariant_of-self-in_err-apply
invariant_of-self-in_err-apply c = record {
  found = c.apply.ensures.found;
  apart = subst (λ l. (place other item : ℕ) → Contains (at (map items_of l) place) item → at (map items_of l) place ≡ at (map items_of l) other → place ≡ other) (sym c.in_err-apply.ensures.same) c.self.invariant.apart;
}

pub returns-in_err-apply-clause-once : goal.returns-in_err-apply-clause-once
returns-in_err-apply-clause-once c = subst (λ l. AreDifferent (filled (map items_of l))) (sym c.in_err-apply.ensures.same) (different_filled (map items_of c.self.inside.sets.items) c.self.invariant.apart)

pub returns-in_err-apply-clause-same : goal.returns-in_err-apply-clause-same
returns-in_err-apply-clause-same c = on_err c.from_residual-in_err-apply.result _ (ap (λ l. filled (map items_of l)) c.in_err-apply.ensures.same ∙ c.self.view_is)

pub returns-in_err-apply-clause-changed : goal.returns-in_err-apply-clause-changed
returns-in_err-apply-clause-changed c = IfOk-from_err c.from_residual-in_err-apply.result _ c.from_residual-in_err-apply.ensures.0

made : (c : goal.After-self-1) → IsMade (map items_of c.self.inside.sets.items) (map places_of c.self.inside.index.items) c.args.went.now c.args.came.now (map items_of c.args.grown.items) c.in_ok-prepared.prepared.broken.items c.in_ok-prepared.prepared.extended.items (map items_of c.in_ok-prepared.prepared.added.items) (map items_of c.apply.new.sets.items)
made c = record {
  store = c.self.invariant;
  ready = subst (λ old. AreReady c.args.went.now c.args.came.now old (map items_of c.args.grown.items)) (sym c.self.view_is) c.requires.ready;
  prepared = subst (λ l. IsPrepared (map items_of l) c.args.went.now c.args.came.now (map items_of c.args.grown.items) c.in_ok-prepared.prepared.broken.items c.in_ok-prepared.prepared.extended.items (map items_of c.in_ok-prepared.prepared.added.items)) c.as_slice.ensures.value c.in_ok-prepared.ensures.prepared;
  emptied = c.in_ok-apply.ensures.emptied;
}

pub invariant_of-self-2 : goal.invariant_of-self-2
invariant_of-self-2 c = record { found = c.apply.ensures.found; apart = apart_now _ _ _ _ _ _ _ _ _ (made c) }

pub returns-clause-once : goal.returns-clause-once
returns-clause-once c = different_filled (map items_of c.apply.new.sets.items) (apart_now _ _ _ _ _ _ _ _ _ (made c))

pub returns-clause-changed : goal.returns-clause-changed
returns-clause-changed c = subst (λ old. (set : List ℕ) → Contains (filled (map items_of c.apply.new.sets.items)) set ↔ IsAfter c.args.went.now c.args.came.now old (map items_of c.args.grown.items) set) c.self.view_is (after_is _ _ _ _ _ _ _ _ _ (made c))
