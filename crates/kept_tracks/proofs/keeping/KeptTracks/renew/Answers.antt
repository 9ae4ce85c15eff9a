use Rattle.std.proofs.Common.{◌≡◌, ◌++◌, List, [], ◌∷◌, sym, subst, ap, ◌∙◌}
use Rattle.night_tree.specs.Nights.{NightData}
use Rattle.kept_tracks.specs.Costs.{BringNothing}
use Rattle.kept_tracks.proofs.keeping.KeptTracks.renew.Goals as goal

pub returns-clause-calm : goal.returns-clause-calm
returns-clause-calm c =
    let one : c.push.new.self.items ≡ c.args.night ∷ [] = c.in_ok-push.ensures.items ∙ ap (λ (list : List NightData). list ++ c.args.night ∷ []) c.new-changed.ensures.items in
    λ nothing. c.renew_all.ensures.calm (subst (λ (changed : List NightData). BringNothing c.args.nights.now.items changed) (sym one) nothing)
