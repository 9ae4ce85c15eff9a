use Rattle.std.proofs.Common.{◌≡◌, ℕ, map, subst, arith}
use Rattle.closed_sets.proofs.Seen.{HasSecond, second_all, second_more, second_none}
use Rattle.closed_sets.proofs.tests.pairs_around.Goals as goal

pub loop-second-init : goal.loop-second-init
loop-second-init c = second_none (map (λ object. object.items) c.args.family.now.objects.items) c.args.item c.new-pairs.result.items c.new-pairs.ensures.items

pub loop-second-preserved : goal.loop-second-preserved
loop-second-preserved c = second_more (map (λ object. object.items) c.args.family.now.objects.items) c.args.item c.loop-second.pairs.items c.push_pairs.new.pairs.items c.loop-second.second c.loop-second.invariant c.in_ok-push_pairs.ensures

pub returns : goal.returns
returns c =
    let objects = map (λ object. object.items) c.args.family.now.objects.items in
    let end : c.loop-second.second ≡ 10 = omega arith in
    second_all objects c.args.item c.loop-second.pairs.items (subst (λ (n : ℕ). HasSecond objects c.args.item n c.loop-second.pairs.items) end c.loop-second.invariant)
