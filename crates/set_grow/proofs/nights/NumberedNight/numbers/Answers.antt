use Rattle.std.proofs.Common.{sym, ap, ◌∙◌}
use Rattle.set_grow.specs.Nights.{NumberedNightData}
use Rattle.set_grow.specs.Numbered.{numbers_in}
use Rattle.set_grow.proofs.NightParts.{numbers_are}
use Rattle.set_grow.proofs.nights.NumberedNight.numbers.Goals as goal

pub returns : goal.returns
returns c =
    sym (numbers_are c.self.inside.numbers.now c.self.inside.night.now.tracklets c.self.invariant) ∙ ap (λ (n : NumberedNightData). numbers_in n.tracklets) c.self.view_is
