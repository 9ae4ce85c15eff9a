use Rattle.std.proofs.Common.{List, sym, subst, ◌∙◌}
use Rattle.night_tree.specs.Nights.{NightData}
use Rattle.kept_tracks.specs.Costs.{BringNothing}
use Rattle.kept_tracks.proofs.keeping.KeptTracks.renew_all.Goals as goal

pub returns-in_err-exchange_all-clause-calm : goal.returns-in_err-exchange_all-clause-calm
returns-in_err-exchange_all-clause-calm c = λ nothing. c.exchange_all.ensures.calm
    (subst (λ (before : List NightData). BringNothing before c.as_slice-2.result.now) (sym (c.as_slice.ensures.value ∙ c.reserve.ensures.items))
    (subst (λ (changed : List NightData). BringNothing c.args.nights.now.items changed) (sym c.as_slice-2.ensures.value) nothing))

pub returns-clause-calm : goal.returns-clause-calm
returns-clause-calm c = λ nothing. c.exchange_all.ensures.calm
    (subst (λ (before : List NightData). BringNothing before c.as_slice-2.result.now) (sym (c.as_slice.ensures.value ∙ c.reserve.ensures.items))
    (subst (λ (changed : List NightData). BringNothing c.args.nights.now.items changed) (sym c.as_slice-2.ensures.value) nothing))
