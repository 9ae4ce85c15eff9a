use Rattle.std.proofs.Common.{◌≡◌, ◌++◌, [], ◌↔◌, IsTrue, refl}
use Rattle.std.proofs.lemmas.List.{append-nil}
use Rattle.sky_units.specs.Arcs.{IsArc}
use Rattle.sky_units.specs.Motion.{Fits}
use Rattle.plain_tracks.proofs.growing.fit_together.Goals as goal

pub returns-then-is_arc_joined : goal.returns-then-is_arc_joined
returns-then-is_arc_joined c =
    let same : c.args.spots.now ++ c.args.more.now ++ [] ≡ c.args.spots.now ++ c.args.more.now = append-nil (c.args.spots.now ++ c.args.more.now) in
    let fits : IsTrue c.fits_joined.result ↔ Fits c.args.settings.now (c.args.spots.now ++ c.args.more.now) = rw same at c.fits_joined.ensures.fits in
    let arc : IsArc (c.args.spots.now ++ c.args.more.now) = rw same at (c.if-is_arc_joined.ensures.0 refl) in
    (λ h. record { spread = arc.spread; fits = fits.0 h }, λ f. fits.1 f.fits)
