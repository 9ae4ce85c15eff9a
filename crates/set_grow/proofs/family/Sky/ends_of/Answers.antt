use Rattle.std.proofs.Common.{◌≡◌, ◌<◌, List, length, get_or, ap, subst, sym, ◌∙◌}
use Rattle.set_grow.specs.Ends.{ends_in}
use Rattle.set_grow.specs.Nights.{NumberedNightData}
use Rattle.set_grow.specs.Numbered.{without_numbers}
use Rattle.set_grow.specs.SkyData.{SkyData}
use Rattle.set_grow.proofs.EndsOfNights.{ends_there_in}
use Rattle.set_grow.proofs.family.Sky.ends_of.Goals as goal

pub returns : goal.returns
returns c = λ d.
    let nights : c.self.inside.nights.now ≡ c.args.self.now.nights = ap (λ (s : SkyData). s.nights) c.self.view_is in
    let settings : c.self.inside.settings.now ≡ c.args.self.now.settings = ap (λ (s : SkyData). s.settings) c.self.view_is in
    let l : c.args.night < length c.self.inside.nights.now = subst (λ (n : List NumberedNightData). c.args.night < length n) (sym nights) c.requires in
    let there : c.index.result.now ≡ ends_in c.self.inside.settings.now (without_numbers (get_or c.self.inside.nights.now c.args.night d).tracklets) = ends_there_in c.self.inside.settings.now c.self.inside.nights.now c.self.inside.ends.items c.args.night d c.index.result.now c.self.invariant.1 l c.index.ensures in
    let read = c.each.ensures ∙ there in
    rw (nights, settings) at read
