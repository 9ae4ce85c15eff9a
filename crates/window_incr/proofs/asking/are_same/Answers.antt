use Rattle.std.proofs.Common.{◌<◌, length, sym, ap, ◌∙◌, arith}
use Rattle.sky_units.specs.SpotData.{SpotData}
use Rattle.window_incr.proofs.TrackNumbers.{other_number, same_numbers}
use Rattle.window_incr.proofs.asking.are_same.Goals as goal

pub returns-then-spot-other_spot : goal.returns-then-spot-other_spot
returns-then-spot-other_spot c =
    let within : c.loop-i.i < length c.args.other.now = omega (arith, c.loop-i-test.true, c.if-one-other.false) in
    other_number c.args.one.now c.args.other.now c.loop-i.i c.index-one-i.result c.index-other-i.result c.loop-i-test.true within c.index-one-i.is c.index-other-i.is
    (λ e. c.if-spot-other_spot.true (ap (λ (s : SpotData). s.num) c.spot.view_is ∙ (e ∙ sym (ap (λ (s : SpotData). s.num) c.other_spot.view_is))))

pub returns : goal.returns
returns c = same_numbers c.args.one.now c.args.other.now c.loop-i.i c.if-one-other.false c.loop-i-test.false c.loop-i.invariant
