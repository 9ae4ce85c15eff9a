use Rattle.std.proofs.Common.{[], length, get_or, subst, sym, ◌∙◌}
use Rattle.collapse.specs.Groups.{ArePlaces}
use Rattle.collapse.proofs.Searching.{first_not}
use Rattle.collapse.proofs.joining.first_of.Goals as goal

pub returns-then-not-may_reach : goal.returns-then-not-may_reach
returns-then-not-may_reach c =
    first_not c.args.settings.now c.args.spots.now c.args.pair c.args.groups.now c.args.entry c.args.below
    (c.may_reach.ensures c.if-not-may_reach.true (get_or c.args.groups.now c.args.entry.group []) (c.requires.groups.places c.args.entry.group [] c.requires.entry.within) c.requires.entry.among)

pub joins-requires-clause-group : goal.joins-requires-clause-group
joins-requires-clause-group c = subst (ArePlaces (length c.args.spots.now)) (sym (c.items.ensures ∙ c.index-groups-entry.is)) (c.requires.groups.places c.args.entry.group c.index-groups-entry.result c.requires.entry.within)
