use Rattle.std.proofs.Common.{sym, ap, ◌∙◌}
use Rattle.set_grow.specs.Nights.{NumberedNightData}
use Rattle.set_grow.specs.Numbered.{without_numbers}
use Rattle.set_grow.proofs.NightParts.{tracklets_are}
use Rattle.set_grow.proofs.nights.NumberedNight.tracklets.Goals as goal

pub returns : goal.returns
returns c =
    c.tracklets.ensures ∙ (sym (tracklets_are c.self.inside.numbers.now c.self.inside.night.now.tracklets c.self.invariant) ∙ ap (λ (n : NumberedNightData). without_numbers n.tracklets) c.self.view_is)
