use Rattle.std.proofs.Common.{◌≡◌, drop, length, take, ap, ◌∙◌}
use Rattle.closed_tracks.proofs.Walks.{all_numbered, enough_left, none_numbered, one_numbered}
use Rattle.closed_tracks.proofs.numbering.numbered.Goals as goal

pub loop-night-init : goal.loop-night-init
loop-night-init c = rw c.in_ok-numbered.ensures.items (none_numbered c.args.nights.now c.args.numbers.now c.requires)

pub split_at-requires : goal.split_at-requires
split_at-requires c =
    rw c.tracklets.ensures (enough_left c.args.nights.now c.loop-night.night-index c.loop-night.left.now c.loop-night.numbered.items c.night-item.result c.loop-night-test.true c.night-item.is c.loop-night.invariant)

pub loop-night-preserved : goal.loop-night-preserved
loop-night-preserved c =
    let size : length c.tracklets.result.now ≡ length c.night-item.result.tracklets = ap length c.tracklets.ensures in
    rw (c.in_ok-push.ensures.items, c.of.ensures)
    (one_numbered c.args.nights.now c.loop-night.night-index c.loop-night.left.now c.split_at.result.0.now c.split_at.result.1.now c.loop-night.numbered.items c.night-item.result c.loop-night-test.true c.night-item.is
    (c.split_at.ensures.front ∙ ap (λ n. take n c.loop-night.left.now) size)
    (c.split_at.ensures.back ∙ ap (λ n. drop n c.loop-night.left.now) size)
    c.loop-night.invariant)

pub returns : goal.returns
returns c = all_numbered c.args.nights.now c.loop-night.night-index c.loop-night.left.now c.loop-night.numbered.items c.loop-night-test.false c.loop-night.invariant
