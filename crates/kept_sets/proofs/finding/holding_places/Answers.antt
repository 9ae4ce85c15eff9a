use Rattle.std.proofs.Common.{◌≡◌, ℕ, Vec, Global, map, take, get_or}
use Rattle.std.proofs.lemmas.List.{take_all, take_more}
use Rattle.kept_sets.specs.declared.finding.Holders.{Holders}
use Rattle.kept_sets.proofs.Places.{HasHoldingOne, holding_one_none, holding_one_more}
use Rattle.kept_sets.proofs.finding.holding_places.Goals as goal

pub loop-item-init : goal.loop-item-init
loop-item-init c = rw c.new-places.ensures.items (holding_one_none (map (λ (set : Vec ℕ Global). set.items) c.args.sets.now))

pub loop-item-preserved : goal.loop-item-preserved
loop-item-preserved c =
    let sets = map (λ (set : Vec ℕ Global). set.items) c.args.sets.now in
    let index = map (λ (holders : Holders). holders.places.items) c.args.index.now in
    let item = get_or c.args.items.now c.loop-item.item-index 0 in
    let next = take_more c.args.items.now c.loop-item.item-index 0 c.loop-item-test.true in
    let more = rw c.holders_of.ensures at c.in_ok-push_holding.ensures in
    rw next (holding_one_more sets index (take c.loop-item.item-index c.args.items.now) c.loop-item.places.items c.push_holding.new.places.items item c.requires more c.loop-item.invariant)

pub returns : goal.returns
returns c =
    let all : take c.loop-item.item-index c.args.items.now ≡ c.args.items.now = take_all c.loop-item.item-index c.args.items.now c.loop-item-test.false in
    let has : HasHoldingOne (map (λ (set : Vec ℕ Global). set.items) c.args.sets.now) c.args.items.now c.loop-item.places.items = rw all at c.loop-item.invariant in
    λ place. (λ d. (has.exactly place).0 ((c.keep_once.ensures place).0 d), λ w. (c.keep_once.ensures place).1 ((has.exactly place).1 w))
