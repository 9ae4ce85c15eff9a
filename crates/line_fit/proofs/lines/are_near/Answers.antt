use Rattle.std.proofs.Common.{◌≡◌, ◌-ℤ◌, pos, ◌<ℤ◌, ◌≤ℤ◌, true, to_z, of_z, w64, rules, arith}
use Rattle.std.proofs.lemmas.Int.{to_z-of_z}
use Rattle.line_fit.specs.Slopes.{AreSuited, Holds, Suits}
use Rattle.line_fit.proofs.Along.{none_suited, suited_all, suited_more}
use Rattle.line_fit.proofs.Steps.{read_two}
use Rattle.line_fit.proofs.lines.are_near.Goals as goal

pub loop-at-init : goal.loop-at-init
loop-at-init c = none_suited c.args.axis (to_z w64 (of_z w64 c.args.tol)) c.args.along.num c.args.along.den c.args.spots.now

pub of_two-requires-clause-later : goal.of_two-requires-clause-later
of_two-requires-clause-later c = read_two (λ x y. x.epoch <ℤ y.epoch) c.args.spots.now 0 c.loop-at.at c.index-spots-0.result c.index-spots-at.result (search rules) c.loop-at-test.true c.index-spots-0.is c.index-spots-at.is c.requires.arc.rising

pub of_two-requires-clause-day : goal.of_two-requires-clause-day
of_two-requires-clause-day c = read_two (λ x y. (y.epoch -ℤ x.epoch) ≤ℤ pos 1000000) c.args.spots.now 0 c.loop-at.at c.index-spots-0.result c.index-spots-at.result (search rules) c.loop-at-test.true c.index-spots-0.is c.index-spots-at.is c.requires.day

pub loop-at-preserved : goal.loop-at-preserved
loop-at-preserved c =
    let held : c.hold.result ≡ true = search rules in
    let among : Holds c.of_two.result c.args.along.num c.args.along.den = c.hold.ensures held in
    let suits : Suits c.args.axis (to_z w64 (of_z w64 c.args.tol)) c.args.along.num c.args.along.den c.index-spots-0.result c.index-spots-at.result = rw (c.of_two.ensures.low, c.of_two.ensures.high) at among in
    suited_more c.args.axis (to_z w64 (of_z w64 c.args.tol)) c.args.along.num c.args.along.den c.args.spots.now c.loop-at.at c.index-spots-0.result c.index-spots-at.result c.loop-at-test.true c.index-spots-0.is c.index-spots-at.is c.loop-at.invariant suits

pub returns : goal.returns
returns c =
    let tol : to_z w64 (of_z w64 c.args.tol) ≡ c.args.tol = to_z-of_z w64 c.args.tol c.ranges.tol in
    let seen : AreSuited c.args.axis c.args.tol c.args.along.num c.args.along.den c.args.spots.now c.loop-at.at = rw tol at c.loop-at.invariant in
    λ same. suited_all c.args.axis c.args.tol c.args.along.num c.args.along.den c.args.spots.now c.loop-at.at (omega arith) seen
