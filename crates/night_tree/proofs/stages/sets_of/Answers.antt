use Rattle.std.proofs.Common.{subst, sym}
use Rattle.std.specs.List.{All}
use Rattle.sky_units.specs.SettingsData.{AreSettings}
use Rattle.night_tree.specs.Tracklets.{IsGroup}
use Rattle.night_tree.proofs.NightTracklets.{groups_are_groups}
use Rattle.night_tree.proofs.stages.sets_of.Goals as goal

pub purge_each-requires : goal.purge_each-requires
purge_each-requires c =
    let ranges : AreSettings c.args.settings.now = subst AreSettings c.settings.view_is c.settings.invariant in
    subst (All (IsGroup c.args.spots.now)) (sym c.in_ok-groups.ensures) (groups_are_groups c.args.settings.now c.args.spots.now ranges c.requires.order c.requires.day)
