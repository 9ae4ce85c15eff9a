use Rattle.std.proofs.Common.{take, get_or, refl, sym, subst, ◌∙◌}
use Rattle.std.proofs.lemmas.Bool.{false≢true}
use Rattle.std.proofs.lemmas.List.{take_all, take_more}
use Rattle.std.proofs.lemmas.List.Elements.{Contains-get_or, Contains-push_cases}
use Rattle.std.specs.List.{Contains}
use mathlib.Core.Logic.{inl, inr}
use Rattle.kept_sets.proofs.Basics.{in_none, one_of}
use Rattle.kept_sets.proofs.tests.holds_one.Goals as goal

pub loop-item-init : goal.loop-item-init
loop-item-init c = λ w. in_none w.0 w.2

pub returns-then-has : goal.returns-then-has
returns-then-has c =
    let item = get_or c.args.set.now c.loop-item.item-index 0 in
    (λ t. (item, (one_of c.args.items.now item).0 (sym c.if-has.ensures), Contains-get_or c.args.set.now c.loop-item.item-index 0 c.loop-item-test.true), λ h. refl)

pub loop-item-preserved : goal.loop-item-preserved
loop-item-preserved c =
    let item = get_or c.args.set.now c.loop-item.item-index 0 in
    let next = take_more c.args.set.now c.loop-item.item-index 0 c.loop-item-test.true in
    λ w. elim (Contains-push_cases (take c.loop-item.item-index c.args.set.now) item w.0 (subst (λ l. Contains l w.0) next w.2)) [
      | inl d ↦ c.loop-item.invariant (w.0, w.1, d)
      | inr e ↦ false≢true (c.if-has.ensures ∙ (one_of c.args.items.now item).1 (subst (Contains c.args.items.now) (sym e) w.1))
    ]

pub returns : goal.returns
returns c =
    let all = take_all c.loop-item.item-index c.args.set.now c.loop-item-test.false in
    (λ t. absurd (false≢true t), λ h. absurd (c.loop-item.invariant (h.0, h.1, subst (λ l. Contains l h.0) (sym all) h.2)))
