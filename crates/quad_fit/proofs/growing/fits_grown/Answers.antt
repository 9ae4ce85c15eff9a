use Rattle.std.proofs.Common.{◌++◌, List}
use Rattle.std.specs.List.{Contains}
use Rattle.sky_units.specs.SpotData.{SpotData}
use Rattle.quad_fit.specs.Bases.{IsBasis}
use Rattle.quad_fit.specs.declared.growing.Basis.{Basis}
use Rattle.quad_fit.proofs.Grown.{basis_fits}
use Rattle.quad_fit.proofs.Parts.{still_in}
use Rattle.quad_fit.proofs.growing.fits_grown.Goals as goal

pub returns-clause-fits : goal.returns-clause-fits
returns-clause-fits c =
    let spots : List SpotData = c.args.a.now ++ c.args.b.now ++ c.args.c.now in
    let among : Contains spots c.args.basis.now.base = still_in c.args.a.now c.args.b.now c.args.c.now c.args.basis.now.base c.requires.known.among in
    let grown : Basis = record { base = c.args.basis.now.base; ra = c.in_ok-ra.ra; dec = c.in_ok-dec.dec } in
    let is : IsBasis c.args.settings.now spots grown = record { among = among; on_ra = c.in_ok-ra.ensures; on_dec = c.in_ok-dec.ensures } in
    (basis_fits c.args.settings.now spots grown c.requires.arc is, is)
