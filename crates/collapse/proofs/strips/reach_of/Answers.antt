use Rattle.std.proofs.Common.{◌<◌, pos, ◌+ℤ◌, ◌-ℤ◌, ◌*ℤ◌, ◌≤ℤ◌, length, rules, subst}
use Rattle.sky_units.specs.Ranges.{IsBetween}
use Rattle.sky_units.specs.SettingsData.{AreSettings}
use Rattle.collapse.proofs.Filing.{covers_all, day_between, held_difference}
use Rattle.collapse.proofs.strips.reach_of.Goals as goal

pub reach_over-requires : goal.reach_over-requires
reach_over-requires c =
    let some : 0 < length c.args.spots.now = search rules in
    let day = day_between c.args.spots.now c.index-spots-0.result c.index-spots-spots.result c.requires.order c.requires.day some c.index-spots-0.is c.index-spots-spots.is in
    let day' : IsBetween (pos 0) (pos 1000000) (c.last.inside.epoch -ℤ c.first.inside.epoch) = rw (← c.last.view_is, ← c.first.view_is) at day in
    rw (held_difference c.first.inside.epoch c.last.inside.epoch c.first.invariant.epoch_in_range c.last.invariant.epoch_in_range) day'

pub returns-clause-covers : goal.returns-clause-covers
returns-clause-covers c =
    let ranges : AreSettings c.args.settings.now = subst AreSettings c.settings.view_is c.settings.invariant in
    let held = held_difference c.first.inside.epoch c.last.inside.epoch c.first.invariant.epoch_in_range c.last.invariant.epoch_in_range in
    let covers = rw held at c.reach_over.ensures.covers in
    let covers' : ((c.args.settings.now.rate_dec *ℤ (c.index-spots-spots.result.epoch -ℤ c.index-spots-0.result.epoch)) +ℤ ((c.args.settings.now.line_tol +ℤ c.args.settings.now.line_tol) *ℤ pos 1000000)) ≤ℤ (pos c.reach_over.result *ℤ pos 1000000) =
    rw (← c.last.view_is, ← c.first.view_is) covers in
    covers_all c.args.settings.now.rate_dec _ _ c.args.spots.now c.index-spots-0.result c.index-spots-spots.result ranges.rate_dec_in_range.from c.requires.order c.index-spots-0.is c.index-spots-spots.is covers'
