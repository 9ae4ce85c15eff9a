use Rattle.std.proofs.Common.{◌≡◌, ◌∙◌, false, arith, to_z, of_z, w64}
use Rattle.std.specs.Int.Signed.{lt_z}
use Rattle.std.specs.List.{All}
use Rattle.std.proofs.lemmas.Int.{ints}
use Rattle.sky_math.specs.Night.{night_at}
use Rattle.exposure_log.specs.Nights.{listed_of}
use Rattle.exposure_log.proofs.Removing.{night_rises, night_listed, listed_without_night, later_exposures, all_from_night}
use Rattle.exposure_log.proofs.log.forget_before.Goals as goal

pub let_go_listed-requires-clause-order : goal.let_go_listed-requires-clause-order
let_go_listed-requires-clause-order c =
    let taken = c.in-Some.ensures.some in
    rw c.as_slice.ensures.value (night_rises c.loop-listed.nights.shift taken.0 (listed_of c.loop-listed.nights) c.in-Some.listed.items taken.2 c.loop-listed.invariant.listed.in_order)

pub let_go_listed-requires-clause-each : goal.let_go_listed-requires-clause-each
let_go_listed-requires-clause-each c =
    let taken = c.in-Some.ensures.some in
    rw c.as_slice.ensures.value (night_listed c.loop-listed.register c.loop-listed.nights.shift taken.0 (listed_of c.loop-listed.nights) c.in-Some.listed.items taken.2 c.loop-listed.invariant.listed.each)

pub loop-listed-preserved : goal.loop-listed-preserved
loop-listed-preserved c =
    let taken = c.in-Some.ensures.some in
    let at = rw c.as_slice.ensures.value at c.let_go_listed.ensures.at in
    let count = rw c.as_slice.ensures.value at c.let_go_listed.ensures.count in
    let listed = listed_without_night c.loop-listed.register c.let_go_listed.new.register (listed_of c.loop-listed.nights) c.loop-listed.invariant.listed c.loop-listed.nights.shift taken.0 c.in-Some.listed.items taken.2 at count in
    let exposures = later_exposures c.loop-listed.register c.let_go_listed.new.register (listed_of c.loop-listed.nights) c.loop-listed.invariant.listed c.loop-listed.nights.shift taken.0 c.in-Some.listed.items taken.2 at (to_z w64 (of_z w64 c.args.night)) c.args.nights.now.shift c.loop-listed.invariant.shift taken.1 in
    record {
      shift = c.in-Some.ensures.shift ∙ c.loop-listed.invariant.shift;
      listed = rw taken.3 listed;
      exposures = rw taken.3 (exposures ∙ c.loop-listed.invariant.exposures);
    }

pub returns-clause-exposures : goal.returns-clause-exposures
returns-clause-exposures c =
    let night : to_z w64 (of_z w64 c.args.night) ≡ c.args.night = omega (arith, ints) in
    let none : All (λ g. lt_z (night_at c.args.nights.now.shift g.epoch) c.args.night ≡ false) (listed_of c.loop-listed.nights) = rw (night, c.loop-listed.invariant.shift) at c.in_default.ensures.none in
    let all = all_from_night c.loop-listed.register c.args.nights.now.shift c.args.night (listed_of c.loop-listed.nights) none in
    rw c.in_default.ensures.same (all ∙ (rw night at c.loop-listed.invariant.exposures))
