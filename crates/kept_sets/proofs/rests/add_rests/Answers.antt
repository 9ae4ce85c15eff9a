use Rattle.std.proofs.Common.{ℕ, Vec, Global, List, map, take, get_or}
use Rattle.std.proofs.lemmas.List.{take_all, take_more}
use Rattle.kept_sets.specs.declared.finding.Holders.{Holders}
use Rattle.kept_sets.proofs.Entered.{wider_then}
use Rattle.kept_sets.proofs.Remaining.{HasRests, rests_more, rests_none}
use Rattle.kept_sets.proofs.rests.add_rests.Goals as goal

abbrev items_of : Vec ℕ Global → List ℕ
items_of set = set.items

abbrev places_of : Holders → List ℕ
places_of holders = holders.places.items

pub loop-place-init : goal.loop-place-init
loop-place-init c = rests_none (map items_of c.args.sets.now) c.args.went.now (map items_of c.args.added.now.items) (map places_of c.args.index.now.items) c.requires.found c.requires.sets c.requires.once

pub loop-place-preserved : goal.loop-place-preserved
loop-place-preserved c =
    let next = take_more c.args.places.now c.loop-place.place-index 0 c.loop-place-test.true in
    rw next (rests_more (map items_of c.args.sets.now) c.args.went.now (map items_of c.args.added.now.items) (map places_of c.args.index.now.items) (take c.loop-place.place-index c.args.places.now) (get_or c.args.places.now c.loop-place.place-index 0)
    (map items_of c.loop-place.added.items) (map places_of c.loop-place.index.items) (map items_of c.add_rest.new.added.items) (map places_of c.add_rest.new.index.items) c.requires.sets c.loop-place.invariant c.add_rest.ensures.wider c.in_ok-add_rest.ensures.found c.in_ok-add_rest.ensures.added)

pub returns-in_err-add_rest-clause-wider : goal.returns-in_err-add_rest-clause-wider
returns-in_err-add_rest-clause-wider c = wider_then (map places_of c.args.index.now.items) (map places_of c.loop-place.index.items) (map places_of c.add_rest.new.index.items) c.loop-place.invariant.wider c.add_rest.ensures.wider

pub returns : goal.returns
returns c =
    let all = take_all c.loop-place.place-index c.args.places.now c.loop-place-test.false in
    let has : HasRests (map items_of c.args.sets.now) c.args.went.now (map items_of c.args.added.now.items) (map places_of c.args.index.now.items) c.args.places.now (map items_of c.loop-place.added.items) (map places_of c.loop-place.index.items) = rw all at c.loop-place.invariant in
    record { wider = has.wider; found = has.found; added = has.added_so_far }
