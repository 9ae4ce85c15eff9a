use Rattle.std.proofs.Common.{◌≡◌, true, sym, ap, ◌∙◌}
use Rattle.sky_units.specs.Tracks.{numbers_of}
use Rattle.window_incr.specs.Asked.{is_part}
use Rattle.window_incr.proofs.TrackNumbers.{number_found, number_missing}
use Rattle.window_incr.proofs.asking.number_around.Goals as goal

pub returns-then-is_part : goal.returns-then-is_part
returns-then-is_part c =
    let test : is_part c.args.numbers.now (numbers_of c.index-list-i.result) ≡ true = ap (is_part c.args.numbers.now) (sym (c.as_slice.ensures.value ∙ c.in_ok-listed.ensures)) ∙ sym c.if-is_part.ensures in
    sym (number_found (is_part c.args.numbers.now) c.args.list.now c.loop-i.i c.index-list-i.result c.loop-i-test.true c.index-list-i.is test c.loop-i.invariant)

pub returns : goal.returns
returns c = sym (number_missing (is_part c.args.numbers.now) c.args.list.now c.loop-i.i c.loop-i-test.false c.loop-i.invariant)
