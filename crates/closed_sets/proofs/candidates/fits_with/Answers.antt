use Rattle.std.proofs.Common.{◌≡◌, [], ◌∷◌, rules}
use Rattle.closed_sets.proofs.Fitting.{told}
use Rattle.closed_sets.proofs.candidates.fits_with.Goals as goal

pub returns-clause-fits : goal.returns-clause-fits
returns-clause-fits g c =
    let one : c.as_slice.result.now ≡ c.args.number ∷ [] = search rules in
    told (g.F.Family.Fits c.args.family.now) (g.met.F.Family.hereditary c.args.family.now) c.fits.result c.args.set.now c.as_slice.result.now c.in_ok-grown.grown.items c.as_slice-2.result.now c.args.number one c.as_slice-2.ensures.value c.in_ok-grown.ensures c.fits.ensures.fits
