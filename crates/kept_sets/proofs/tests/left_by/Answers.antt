use Rattle.std.proofs.Common.{◌≡◌, List, [], ◌∷◌, Vec, ℕ, Global, map, refl}
use mathlib.Core.Logic.{◌⊎◌, inl, inr}
use Rattle.kept_sets.specs.Lists.{HoldsOne}
use Rattle.kept_sets.proofs.Cases.{ready_one}
use Rattle.kept_sets.proofs.Emptied.{has_items}
use Rattle.kept_sets.proofs.tests.left_by.Goals as goal

abbrev items_of : Vec ℕ Global → List ℕ
items_of set = set.items

pub change-requires-clause-ready : goal.change-requires-clause-ready
change-requires-clause-ready c =
    let w = c.if-not-are_ready.ensures refl in
    let sets = map items_of c.in_ok-grown.grown.items in
    let grown = c.args.case.now.grown.now in
    let one : (sets ≡ []) ⊎ ((sets ≡ grown ∷ []) × HoldsOne c.args.case.now.came.now grown × (HoldsOne c.args.case.now.went.now grown → ⊥)) = elim w.5 [
      | inl e ↦ inl (c.in_ok-grown.ensures.none e)
      | inr p ↦ inr (c.in_ok-grown.ensures.one (has_items c.args.case.now.grown.now p.0.0 p.0.2), p.0, p.1)
    ] in
    ready_one c.args.case.now.set.now c.args.case.now.went.now c.args.case.now.came.now grown c.in_ok-kept.kept sets w.0 c.in_ok-kept.ensures w.4 one

pub change-requires-clause-went : goal.change-requires-clause-went
change-requires-clause-went c = (c.if-not-are_ready.ensures refl).1

pub change-requires-clause-came : goal.change-requires-clause-came
change-requires-clause-came c = (c.if-not-are_ready.ensures refl).2
