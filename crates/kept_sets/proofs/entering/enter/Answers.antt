use Rattle.std.proofs.Common.{ℕ, List, map, take, get_or, subst}
use Rattle.std.proofs.lemmas.List.{take_all, take_more}
use Rattle.std.specs.List.{Contains}
use Rattle.kept_sets.specs.declared.finding.Holders.{Holders}
use Rattle.kept_sets.specs.Stored.{at}
use Rattle.kept_sets.proofs.Entered.{HasEntered, entered_more}
use Rattle.kept_sets.proofs.entering.enter.Goals as goal

abbrev places_of : Holders → List ℕ
places_of holders = holders.places.items

pub loop-item-preserved : goal.loop-item-preserved
loop-item-preserved c =
    let next = take_more c.args.set.now c.loop-item.item-index 0 c.loop-item-test.true in
    rw next (entered_more (map places_of c.args.index.now.items) (map places_of c.loop-item.index.items) (map places_of c.enter_item.new.index.items) (take c.loop-item.item-index c.args.set.now) (get_or c.args.set.now c.loop-item.item-index 0) c.in-Ok.place c.loop-item.invariant c.enter_item.ensures.wider c.in_ok-enter_item.ensures.entered)

pub returns-clause-entered : goal.returns-clause-entered
returns-clause-entered c =
    let all = take_all c.loop-item.item-index c.args.set.now c.loop-item-test.false in
    let has : HasEntered (map places_of c.args.index.now.items) (map places_of c.loop-item.index.items) c.args.set.now c.in-Ok.place = rw all at c.loop-item.invariant in
    λ item d. subst (Contains (at (map places_of c.loop-item.index.items) item)) c.in-Ok.ensures.1 (has.entered item d)
