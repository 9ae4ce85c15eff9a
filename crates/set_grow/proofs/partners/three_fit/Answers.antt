use Rattle.std.proofs.Common.{◌≡◌, ◌++◌, ◌↔◌, IsTrue, ap, subst}
use Rattle.sky_units.specs.Arcs.{IsArc}
use Rattle.sky_units.specs.Motion.{Fits}
use Rattle.set_grow.specs.Nights.{AreInPlace}
use Rattle.set_grow.specs.Seats.{one_at}
use Rattle.set_grow.specs.SkyData.{SkyData}
use Rattle.set_grow.proofs.Together.{three_there}
use Rattle.set_grow.proofs.partners.three_fit.Goals as goal

pub returns-clause-fits : goal.returns-clause-fits
returns-clause-fits c =
    let p : AreInPlace c.args.sky.now.nights c.args.sky.now.table = subst (λ (s : SkyData). AreInPlace s.nights s.table) c.sky.view_is c.sky.invariant.0 in
    let settings : c.sky.inside.settings.now ≡ c.args.sky.now.settings = ap (λ (s : SkyData). s.settings) c.sky.view_is in
    let there = three_there c.args.sky.now c.args.a.now.number c.args.b.now.number c.args.c.now.number c.args.a.now.seat c.args.b.now.seat c.args.c.now.seat p c.requires.a.seat c.requires.b.seat c.requires.c.seat c.requires.second c.requires.third in
    let test : IsTrue c.are_fitting_arc.result ↔ (IsArc ((one_at c.args.sky.now.nights c.args.a.now.seat).tracklet ++ (one_at c.args.sky.now.nights c.args.b.now.seat).tracklet ++ (one_at c.args.sky.now.nights c.args.c.now.seat).tracklet) × Fits c.args.sky.now.settings ((one_at c.args.sky.now.nights c.args.a.now.seat).tracklet ++ (one_at c.args.sky.now.nights c.args.b.now.seat).tracklet ++ (one_at c.args.sky.now.nights c.args.c.now.seat).tracklet)) = rw (settings, c.spots_at-first.ensures, c.spots_at-second.ensures, c.spots_at-third.ensures) at c.are_fitting_arc.ensures.fits in
    (λ t. there.0 (test.0 t), λ f. test.1 (there.1 f))
