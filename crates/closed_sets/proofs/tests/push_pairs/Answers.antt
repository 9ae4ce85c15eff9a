use Rattle.std.proofs.Common.{◌≡◌, ℕ, map, subst, arith}
use Rattle.closed_sets.proofs.Seen.{HasFirst, first_all, first_more, first_none}
use Rattle.closed_sets.proofs.tests.push_pairs.Goals as goal

pub loop-first-init : goal.loop-first-init
loop-first-init c = first_none (map (λ object. object.items) c.args.family.now.objects.items) c.args.item c.args.pairs.now.items c.args.second

pub loop-first-preserved : goal.loop-first-preserved
loop-first-preserved c = first_more (map (λ object. object.items) c.args.family.now.objects.items) c.args.item c.args.pairs.now.items c.loop-first.pairs.items c.push_where.new.pairs.items c.args.second c.loop-first.first c.in_ok-fits.fits c.in_ok-fits.ensures c.in_ok-push_where.ensures c.loop-first.invariant

pub returns : goal.returns
returns c =
    let objects = map (λ object. object.items) c.args.family.now.objects.items in
    let end : c.loop-first.first ≡ c.args.second = omega arith in
    first_all objects c.args.item c.args.pairs.now.items c.loop-first.pairs.items c.args.second (subst (λ (n : ℕ). HasFirst objects c.args.item c.args.pairs.now.items c.args.second n c.loop-first.pairs.items) end c.loop-first.invariant)
