use Rattle.std.proofs.Common.{◌∙◌, sym}
use Rattle.night_tree.proofs.Sets.{first_group, purged_away, purged_none, purged_one}
use Rattle.night_tree.proofs.stages.purge_each.Goals as goal

pub loop-group-init : goal.loop-group-init
loop-group-init c = purged_none c.args.settings.now c.args.spots.now c.args.groups.items c.new-sets.result.items c.into_iter-group-iterator.result.rest.items c.requires c.new-sets.ensures.items c.into_iter-group-iterator.ensures.into_iter_gives.0

pub purge_places-requires-clause-arc : goal.purge_places-requires-clause-arc
purge_places-requires-clause-arc c = (first_group c.args.settings.now c.args.spots.now c.args.groups.items c.loop-group.sets.items c.loop-group.group-iterator.rest.items c.next.new.self.rest.items c.in-Some.group c.loop-group.invariant c.in-Some.ensures.steps.0).arc

pub purge_places-requires-clause-day : goal.purge_places-requires-clause-day
purge_places-requires-clause-day c = (first_group c.args.settings.now c.args.spots.now c.args.groups.items c.loop-group.sets.items c.loop-group.group-iterator.rest.items c.next.new.self.rest.items c.in-Some.group c.loop-group.invariant c.in-Some.ensures.steps.0).day

pub loop-group-preserved-in-Continue-branch-3 : goal.loop-group-preserved-in-Continue-branch-3
loop-group-preserved-in-Continue-branch-3 c =
    purged_one c.args.settings.now c.args.spots.now c.args.groups.items c.loop-group.sets.items c.loop-group.group-iterator.rest.items c.next.new.self.rest.items c.push.new.self.items c.in-Some.group c.in-Some-2.left c.loop-group.invariant c.in-Some.ensures.steps.0
    (sym c.in_ok-left.ensures ∙ c.in-Some-2.is) c.in_ok-push.ensures.items

pub loop-group-preserved : goal.loop-group-preserved
loop-group-preserved c =
    purged_away c.args.settings.now c.args.spots.now c.args.groups.items c.loop-group.sets.items c.loop-group.group-iterator.rest.items c.next.new.self.rest.items c.in-Some.group c.loop-group.invariant c.in-Some.ensures.steps.0 (sym c.in_ok-left.ensures ∙ c.in_default.is)
