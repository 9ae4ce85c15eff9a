use Rattle.std.proofs.Common.{ℕ, List, Vec, Global, map, subst, ◌∙◌}
use Rattle.std.proofs.lemmas.Result.{on_ok_weaker}
use Rattle.kept_sets.specs.Kept.{AreGrown}
use Rattle.set_grow.specs.Costs.{IsBounded}
use Rattle.set_grow.specs.Fitting.{FitsByNumber}
use Rattle.set_grow.specs.Nights.{by_night}
use Rattle.kept_tracks.proofs.SetChanges.{are_kept, are_ready}
use Rattle.kept_tracks.proofs.changing.change.Goals as goal

pub returns-in_err-grown-clause-tests : goal.returns-in_err-grown-clause-tests
returns-in_err-grown-clause-tests c =
    subst (λ (came : List ℕ). IsBounded (record { settings = c.args.settings.now; nights = c.args.nights.now; table = c.args.table.now }) came c.args.tally.now.tests c.grown_around.new.tally.tests) c.as_slice-came.ensures.value c.grown_around.ensures.tests

pub returns-in_err-grown-clause-calm : goal.returns-in_err-grown-clause-calm
returns-in_err-grown-clause-calm c = λ none. c.grown_around.ensures.calm (c.as_slice-came.ensures.value ∙ none)

pub change-requires-clause-ready : goal.change-requires-clause-ready
change-requires-clause-ready c =
    let grown : AreGrown (FitsByNumber c.args.settings.now (by_night c.args.nights.now)) c.args.change.now.came.items (map (λ (set : Vec ℕ Global). set.items) c.in_ok-grown.grown.items) =
    subst (λ (came : List ℕ). AreGrown (FitsByNumber c.args.settings.now (by_night c.args.nights.now)) came (map (λ (set : Vec ℕ Global). set.items) c.in_ok-grown.grown.items)) c.as_slice-came.ensures.value c.in_ok-grown.ensures.grown in
    rw (c.as_slice.ensures.value, c.as_slice-came.ensures.value) (are_ready _ _ _ _ _ _ c.requires.place.in_time c.requires.place.rising c.requires.exchange grown)

pub returns-clause-ok : goal.returns-clause-ok
returns-clause-ok c =
    let grown : AreGrown (FitsByNumber c.args.settings.now (by_night c.args.nights.now)) c.args.change.now.came.items (map (λ (set : Vec ℕ Global). set.items) c.in_ok-grown.grown.items) =
    subst (λ (came : List ℕ). AreGrown (FitsByNumber c.args.settings.now (by_night c.args.nights.now)) came (map (λ (set : Vec ℕ Global). set.items) c.in_ok-grown.grown.items)) c.as_slice-came.ensures.value c.in_ok-grown.ensures.grown in
    on_ok_weaker c.change.result (are_kept _ _ _ _ _ _ c.requires.place.in_time c.requires.place.rising c.requires.exchange grown _ c.change.ensures.once) (rw (c.as_slice.ensures.value, c.as_slice-came.ensures.value) at c.change.ensures.changed)

pub returns-clause-tests : goal.returns-clause-tests
returns-clause-tests c =
    subst (λ (came : List ℕ). IsBounded (record { settings = c.args.settings.now; nights = c.args.nights.now; table = c.args.table.now }) came c.args.tally.now.tests c.grown_around.new.tally.tests) c.as_slice-came.ensures.value c.grown_around.ensures.tests

pub returns-clause-calm : goal.returns-clause-calm
returns-clause-calm c = λ none. c.grown_around.ensures.calm (c.as_slice-came.ensures.value ∙ none)
