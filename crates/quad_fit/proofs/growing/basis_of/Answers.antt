use Rattle.std.proofs.Common.{◌++◌, List, arith}
use Rattle.std.specs.List.{Contains}
use Rattle.sky_units.specs.SpotData.{SpotData}
use Rattle.quad_fit.specs.Bases.{IsBasis}
use Rattle.quad_fit.specs.declared.growing.Basis.{Basis}
use Rattle.quad_fit.proofs.Grown.{basis_fits}
use Rattle.quad_fit.proofs.MarkLists.{first_among}
use Rattle.quad_fit.proofs.growing.basis_of.Goals as goal

pub returns : goal.returns
returns c =
    let spots : List SpotData = c.args.a.now ++ c.args.b.now ++ c.args.c.now in
    let among : Contains spots c.joined_spot-base.result.now = first_among c.joined_spot-base.result.now spots (omega arith) c.joined_spot-base.ensures in
    let basis : Basis = record { base = c.joined_spot-base.result.now; ra = c.in_ok-ra.ra; dec = c.in_ok-dec.dec } in
    let is : IsBasis c.args.settings.now spots basis = record { among = among; on_ra = c.in_ok-ra.ensures; on_dec = c.in_ok-dec.ensures } in
    (basis_fits c.args.settings.now spots basis c.requires.arc is, is)
