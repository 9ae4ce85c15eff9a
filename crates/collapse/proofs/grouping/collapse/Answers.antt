use Rattle.std.proofs.Common.{ℕ, List, [], length, map, get_or, refl, subst, sym, ap, ◌∙◌}
use Rattle.std.proofs.lemmas.List.{take_all}
use Rattle.std.specs.List.{All}
use Rattle.sky_units.specs.SettingsData.{AreSettings}
use Rattle.collapse.specs.Groups.{IsPairBelow, join_all}
use Rattle.collapse.proofs.Filing.{filed_next, filed_none, groups_so_far}
use Rattle.collapse.proofs.Firsts.{one_more_pair, pairs_below}
use Rattle.collapse.proofs.grouping.collapse.Goals as goal

pub loop-at-init : goal.loop-at-init
loop-at-init c = record {
  joined = c.new-groups.ensures.items;
  filed = λ some. filed_none c.args.spots.now c.grid_of-grid.result.width (get_or c.args.pairs.now 0 (0, 0)).0 (map (λ list. list.items) c.in_ok-strips.strips.items) c.new-groups.result.items c.in_ok-strips.ensures c.new-groups.ensures.items;
}

pub add_pair-requires-clause-pair : goal.add_pair-requires-clause-pair
add_pair-requires-clause-pair c =
    let below : All (IsPairBelow (length c.args.spots.now)) c.args.pairs.now = subst (All (IsPairBelow (length c.args.spots.now))) (sym c.requires.pairs) (pairs_below c.args.settings.now c.args.spots.now c.requires.order) in
    below c.loop-at.at (0, 0) c.loop-at-test.true

pub add_pair-requires-clause-groups : goal.add_pair-requires-clause-groups
add_pair-requires-clause-groups c =
    let ranges : AreSettings c.args.settings.now = subst AreSettings c.settings.view_is c.settings.invariant in
    groups_so_far c.args.settings.now c.args.spots.now c.args.pairs.now c.loop-at.at c.loop-at.groups.items ranges c.requires.order c.requires.day c.requires.pairs c.loop-at.invariant.joined

pub add_pair-requires-clause-filed : goal.add_pair-requires-clause-filed
add_pair-requires-clause-filed c = c.loop-at.invariant.filed c.loop-at-test.true

pub loop-at-preserved : goal.loop-at-preserved
loop-at-preserved c = record {
  joined = one_more_pair c.args.settings.now c.args.spots.now c.args.pairs.now c.loop-at.at (get_or c.args.pairs.now c.loop-at.at (0, 0)) c.loop-at.groups.items c.add_pair.new.groups.items c.loop-at-test.true refl c.loop-at.invariant.joined c.in_ok-add_pair.ensures.groups;
  filed = filed_next c.args.settings.now c.args.spots.now c.args.pairs.now c.loop-at.at c.grid_of-grid.result.width (map (λ list. list.items) c.add_pair.new.strips.items) c.add_pair.new.groups.items c.requires.pairs c.in_ok-add_pair.ensures.filed;
}

pub returns : goal.returns
returns c = c.loop-at.invariant.joined ∙ ap (λ (pairs : List (ℕ × ℕ)). join_all c.args.settings.now c.args.spots.now pairs []) (take_all c.loop-at.at c.args.pairs.now c.loop-at-test.false ∙ c.requires.pairs)
