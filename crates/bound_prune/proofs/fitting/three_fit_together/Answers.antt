use Rattle.std.proofs.Common.{◌≡◌, ◌↔◌, ◌++◌, IsTrue, ◌∙◌, refl, ◌<◌, ◌^◌, rules}
use Rattle.sky_units.specs.Motion.{Fits}
use Rattle.bound_prune.proofs.Counted.{rises_by_one}
use Rattle.bound_prune.proofs.fitting.three_fit_together.Goals as goal

pub returns-clause-yes : goal.returns-clause-yes
returns-clause-yes c =
    let first : c.spots-first.result.now ≡ c.args.a.now.spots = c.spots-first.ensures.value ∙ c.tracklet.ensures in
    let second : c.spots-second.result.now ≡ c.args.b.now.spots = c.spots-second.ensures.value ∙ c.tracklet-2.ensures in
    let third : c.spots-third.result.now ≡ c.args.c.now.spots = c.spots-third.ensures.value ∙ c.tracklet-3.ensures in
    let told : IsTrue c.fits_joined.result ↔ Fits c.args.settings.now (c.args.a.now.spots ++ c.args.b.now.spots ++ c.args.c.now.spots) = rw (first, second, third) at c.fits_joined.ensures.fits in
    (λ t. record { tested = c.if-not-are_arc_of_three.ensures.0 refl; fits = told.0 t }, λ w. told.1 w.fits)

pub returns-clause-tests : goal.returns-clause-tests
returns-clause-tests c =
    let few : c.args.tally.now.tests < 2 ^ 64 = search rules in
    rises_by_one c.args.tally.now.tests c.fits_joined.new.tally.tests few c.fits_joined.ensures.counted
