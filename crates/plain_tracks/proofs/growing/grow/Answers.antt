use Rattle.std.proofs.Common.{◌≡◌, take, sym, ◌∙◌}
use Rattle.std.proofs.lemmas.List.{take_all}
use Rattle.std.specs.List.{Contains}
use Rattle.plain_tracks.proofs.Steps.{HasGrown, HasSomeGrown, taken, some_none, some_more, all_grown}
use Rattle.plain_tracks.proofs.growing.grow.Goals as goal

pub loop-set-init : goal.loop-set-init
loop-set-init c = rw c.new-grown.ensures.items (some_none c.args.settings.now c.args.night.now)

pub push_grown-requires : goal.push_grown-requires
push_grown-requires c =
    let k : Contains c.as_slice-set-items.result.now c.set-item.result = (c.loop-set.set-index, c.loop-set-test.true, sym c.set-item.is) in
    rw c.tracklets.ensures.value (c.requires c.set-item.result (rw c.as_slice-set-items.ensures.value at k))

pub loop-set-preserved : goal.loop-set-preserved
loop-set-preserved c =
    let sets = take c.loop-set.set-index c.as_slice-set-items.result.now in
    let more = taken c.as_slice-set-items.result.now c.loop-set.set-index c.set-item.result c.loop-set-test.true c.set-item.is in
    let step : HasGrown c.args.settings.now c.set-item.result c.args.night.now c.loop-set.grown.items c.push_grown.new.grown.items = rw c.tracklets.ensures.value at c.in_ok-push_grown.ensures in
    rw more (some_more c.args.settings.now sets c.set-item.result c.args.night.now c.loop-set.grown.items c.push_grown.new.grown.items c.loop-set.invariant step)

pub returns : goal.returns
returns c =
    let all : take c.loop-set.set-index c.as_slice-set-items.result.now ≡ c.as_slice-set-items.result.now = take_all c.loop-set.set-index c.as_slice-set-items.result.now c.loop-set-test.false in
    let sets : take c.loop-set.set-index c.as_slice-set-items.result.now ≡ c.args.sets.items = all ∙ c.as_slice-set-items.ensures.value in
    let h : HasSomeGrown c.args.settings.now c.args.sets.items c.args.night.now c.loop-set.grown.items = rw sets at c.loop-set.invariant in
    rw c.in_ok-append.ensures.items (all_grown c.args.settings.now c.args.sets.items c.args.night.now c.loop-set.grown.items h)
