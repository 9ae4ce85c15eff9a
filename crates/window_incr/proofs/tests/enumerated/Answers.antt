use Rattle.std.proofs.Common.{sym, ap, subst, ◌∙◌}
use Rattle.sky_units.specs.Tracks.{AreNights}
use Rattle.night_tree.specs.Nights.{tracklets_of_each}
use Rattle.kept_nights.proofs.HeldNights.{nights_follow}
use Rattle.window_incr.proofs.tests.enumerated.Goals as goal

pub maximal_tracks-requires : goal.maximal_tracks-requires
maximal_tracks-requires c = subst AreNights (sym (ap tracklets_of_each (c.nights.ensures.value ∙ c.nights.ensures.kept.nights))) (nights_follow c.args.linker.now.state c.settings-settings.ensures.sound.state)
