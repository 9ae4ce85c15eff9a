use Rattle.std.proofs.Common.{◌≡◌, ◌++◌, take_all, map, arith, refl}
use Rattle.exposure_log.specs.Held.{spot_of}
use Rattle.exposure_log.specs.Numbered.{entries_of}
use Rattle.exposure_log.proofs.Spots.{one_more}
use Rattle.exposure_log.proofs.log.spots_of.Goals as goal

pub loop-numbered-preserved : goal.loop-numbered-preserved
loop-numbered-preserved c =
    let more = one_more c.args.register.now c.args.listed.now c.loop-numbered.numbered-index c.numbered-item.result (omega arith) c.numbered-item.is in
    let pushed : c.push_spots.new.spots.items ≡ c.loop-numbered.spots.items ++ map spot_of (entries_of c.args.register.now c.numbered-item.result.numbers.items) =
    rw c.as_slice.ensures.value at c.in_ok-push_spots.ensures in
    rw (more, pushed, c.loop-numbered.invariant) refl

pub returns : goal.returns
returns c =
    let all = take_all c.loop-numbered.numbered-index c.args.listed.now c.loop-numbered-test.false in
    rw all at c.loop-numbered.invariant
