use Rattle.std.proofs.Common.{◌≡◌, ℕ, Vec, Global, map, take, get_or, sym, subst, ◌∙◌}
use Rattle.std.proofs.lemmas.Bool.{false≢true}
use Rattle.std.proofs.lemmas.List.{take_all, take_more}
use Rattle.std.specs.List.{Contains}
use Rattle.kept_sets.specs.Stored.{at}
use Rattle.kept_sets.proofs.Basics.{one_of}
use Rattle.kept_sets.proofs.Places.{HasHolding, holding_none, holding_with, holding_without}
use Rattle.kept_sets.proofs.finding.push_holding.Goals as goal
use Rattle.kept_sets.proofs.finding.push_holding.Goals.{then-has+in_ok-push, else-has}

pub loop-place-init : goal.loop-place-init
loop-place-init c = holding_none (map (λ (set : Vec ℕ Global). set.items) c.args.sets.now) c.args.item c.args.places.now.items

pub loop-place-preserved : goal.loop-place-preserved
loop-place-preserved c =
    let sets = map (λ (set : Vec ℕ Global). set.items) c.args.sets.now in
    let place = get_or c.args.holders.now c.loop-place.place-index 0 in
    let holders = take c.loop-place.place-index c.args.holders.now in
    let places = c.loop-place.places.items in
    let next = take_more c.args.holders.now c.loop-place.place-index 0 c.loop-place-test.true in
    rw next (elim c.if-has.branch [
      | then-has+in_ok-push w ↦
          let here : Contains (at sets place) c.args.item = subst (λ l. Contains l c.args.item) c.set_at.ensures ((one_of c.set_at.result.now c.args.item).0 (sym w.if-has.ensures)) in
          let pushed = w.in_ok-push.ensures.items in
          rw (w.places-is, pushed) (holding_with sets c.args.item c.args.places.now.items holders places place here c.loop-place.invariant)
      | else-has w ↦
          rw w.places-is (holding_without sets c.args.item c.args.places.now.items holders places place (λ d. false≢true (w.if-has.ensures ∙ (one_of c.set_at.result.now c.args.item).1 (subst (λ l. Contains l c.args.item) (sym c.set_at.ensures) d))) c.loop-place.invariant)
    ])

pub returns : goal.returns
returns c =
    let all : take c.loop-place.place-index c.args.holders.now ≡ c.args.holders.now = take_all c.loop-place.place-index c.args.holders.now c.loop-place-test.false in
    let has : HasHolding (map (λ (set : Vec ℕ Global). set.items) c.args.sets.now) c.args.item c.args.places.now.items c.args.holders.now c.loop-place.places.items = rw all at c.loop-place.invariant in
    has.exactly
