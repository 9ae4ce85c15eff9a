use Rattle.std.proofs.Common.{List, inr, map, subst, ◌∙◌}
use Rattle.std.proofs.lemmas.Result.{on_ok_weaker}
use Rattle.kept_sets.specs.Kept.{AreKept}
use Rattle.set_grow.specs.Costs.{IsBounded}
use Rattle.set_grow.specs.Fitting.{FitsByNumber}
use Rattle.set_grow.specs.Nights.{NumberedNightData, by_night}
use Rattle.tracklet_register.proofs.Linking.{in_place}
use Rattle.kept_tracks.proofs.keeping.change_sets.Goals as goal

pub change-requires-clause-place : goal.change-requires-clause-place
change-requires-clause-place c = rw (c.as_slice.ensures.value, c.in_ok-numbered.ensures)
    (in_place c.table.result.now c.args.register.now.nights (map (λ night. night.now) c.args.nights.now) (c.table.ensures.nights (map (λ night. night.now) c.args.nights.now)) c.requires.numbered c.requires.follow c.requires.rising)

pub change-requires-clause-exchange : goal.change-requires-clause-exchange
change-requires-clause-exchange c = rw (c.as_slice.ensures.value, c.in_ok-numbered.ensures) c.requires.exchange

pub returns-clause-ok : goal.returns-clause-ok
returns-clause-ok c =
    let numbered = c.as_slice.ensures.value ∙ c.in_ok-numbered.ensures in
    on_ok_weaker c.change.result (subst (λ (list : List NumberedNightData). AreKept (FitsByNumber c.args.settings.now (by_night list)) c.change.new.sets) numbered) c.change.ensures.ok

pub returns-clause-tests : goal.returns-clause-tests
returns-clause-tests c =
    let numbered = c.as_slice.ensures.value ∙ c.in_ok-numbered.ensures in
    inr (c.table.result.now, subst (λ (list : List NumberedNightData). IsBounded (record { settings = c.args.settings.now; nights = list; table = c.table.result.now }) c.args.exchanged.now.came.items c.args.tally.now.tests c.change.new.tally.tests) numbered c.change.ensures.tests)
