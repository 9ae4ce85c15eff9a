use Rattle.std.proofs.Common.{◌≡◌, ◌∙◌, ap, rules, w64}
use mir.Facts.{to_z-of_z}
use mir.Val.{SFits}
use Rattle.window_incr.specs.Answers.{id_of_number}
use Rattle.window_incr.specs.Asked.{place_of}
use Rattle.window_incr.proofs.AskedPlaces.{placed_more}
use Rattle.window_incr.proofs.asking.placed.Goals as goal

pub loop-spot-preserved : goal.loop-spot-preserved
loop-spot-preserved c =
    let num : c.place_of-num.result ≡ place_of c.args.ids.now (id_of_number c.args.log.now c.spot.inside.num) = c.place_of-num.ensures ∙ ap (place_of c.args.ids.now) c.id_bytes.ensures in
    let epoch : SFits w64 c.spot.inside.epoch = search rules in
    let ra : SFits w64 c.spot.inside.ra = search rules in
    let dec : SFits w64 c.spot.inside.dec = search rules in
    (simp to_z-of_z at c.in_ok-push.ensures.items) ∙ placed_more c.args.log.now c.args.ids.now c.args.spots.now c.loop-spot.placed.items c.loop-spot.spot-index c.place_of-num.result c.spot-item.result
    (record { num = c.spot.inside.num; epoch = c.spot.inside.epoch; ra = c.spot.inside.ra; dec = c.spot.inside.dec }) c.loop-spot-test.true c.spot-item.is c.spot.view_is num c.loop-spot.invariant
