use Rattle.std.proofs.Common.{◌≡◌, ℕ, take, get_or, refl, sym, ◌∙◌}
use Rattle.std.proofs.lemmas.Bool.{false≢true}
use Rattle.std.proofs.lemmas.List.{take_all}
use Rattle.std.proofs.lemmas.List.Elements.{All-contains, All-more, Contains-get_or}
use Rattle.std.specs.List.{All, Contains}
use Rattle.kept_sets.specs.Lists.{less}
use Rattle.kept_sets.proofs.Basics.{among, in_less, member, of_less, one_of}
use Rattle.kept_sets.proofs.numbers.rest_is_among.Goals as goal
use Rattle.kept_sets.proofs.numbers.rest_is_among.Goals.{else-not-has_rising-via-then-not-has_rising+else-not-has, else-not-has_rising-via-else-not-has_rising}

pub returns-then-not-has : goal.returns-then-not-has
returns-then-not-has c =
    let item = get_or c.args.set.now c.loop-item.item-index 0 in
    let here : Contains c.args.set.now item = Contains-get_or c.args.set.now c.loop-item.item-index 0 c.loop-item-test.true in
    let left = in_less c.args.went.now c.args.set.now item here (λ k. false≢true (c.if-not-has_rising.ensures ∙ (one_of c.args.went.now item).1 k)) in (
      λ h. absurd (false≢true h),
      λ a. absurd (false≢true (c.if-not-has.ensures ∙ (one_of c.args.other.now item).1 (member (less c.args.went.now c.args.set.now) c.args.other.now a item left))),
    )

pub loop-item-preserved : goal.loop-item-preserved
loop-item-preserved c =
    let item = get_or c.args.set.now c.loop-item.item-index 0 in
    let P = λ (x : ℕ). (Contains c.args.went.now x → ⊥) → Contains c.args.other.now x in
    let here : P item = elim c.else-not-has_rising.branch [
      | else-not-has_rising-via-then-not-has_rising+else-not-has w ↦ λ n. (one_of c.args.other.now item).0 (sym w.if-not-has.ensures)
      | else-not-has_rising-via-else-not-has_rising w ↦ λ n. absurd (n ((one_of c.args.went.now item).0 (sym w.if-not-has_rising.ensures)))
    ] in
    All-more P c.args.set.now c.loop-item.item-index 0 c.loop-item-test.true c.loop-item.invariant here

pub returns : goal.returns
returns c =
    let P = λ (x : ℕ). (Contains c.args.went.now x → ⊥) → Contains c.args.other.now x in
    let all : take c.loop-item.item-index c.args.set.now ≡ c.args.set.now = take_all c.loop-item.item-index c.args.set.now c.loop-item-test.false in
    let each : All P c.args.set.now = rw all at c.loop-item.invariant in
    (λ h. among (less c.args.went.now c.args.set.now) c.args.other.now (λ x d. let w = of_less c.args.went.now c.args.set.now x d in All-contains P c.args.set.now x each w.0 w.1), λ a. refl)
