use Rattle.std.proofs.Common.{◌≡◌, take, refl}
use Rattle.std.proofs.lemmas.List.{take_all}
use Rattle.std.proofs.lemmas.List.Elements.{All-more}
use Rattle.std.specs.List.{Contains}
use Rattle.sky_units.specs.Tracks.{AreAmong}
use Rattle.closed_sets.proofs.tests.has_all.Goals as goal

pub loop-number-preserved : goal.loop-number-preserved
loop-number-preserved c = All-more (Contains c.args.object.now) c.args.numbers.now c.loop-number.number-index 0 c.loop-number-test.true c.loop-number.invariant (c.if-not-has.ensures.0 refl)

pub returns : goal.returns
returns c =
    let all : take c.loop-number.number-index c.args.numbers.now ≡ c.args.numbers.now = take_all c.loop-number.number-index c.args.numbers.now c.loop-number-test.false in
    let among : AreAmong c.args.numbers.now c.args.object.now = rw all at c.loop-number.invariant in
    (λ h. among, λ a. refl)
