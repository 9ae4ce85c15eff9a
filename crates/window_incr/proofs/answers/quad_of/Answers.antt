use Rattle.std.proofs.Common.{subst, arith}
use Rattle.sky_units.specs.QuadData.{IsQuad, QuadData}
use Rattle.sky_units.specs.Ranges.{IsSpot}
use Rattle.sky_units.specs.SpotData.{SpotData}
use Rattle.window_incr.proofs.ValidQuads.{valid_quad}
use Rattle.window_incr.proofs.answers.quad_of.Goals as goal

pub returns-clause-valid : goal.returns-clause-valid
returns-clause-valid c =
    let ranges = subst (λ (spot : SpotData). IsSpot spot.epoch spot.ra spot.dec) c.first.view_is c.first.invariant in
    let last_ranges = subst (λ (spot : SpotData). IsSpot spot.epoch spot.ra spot.dec) c.last.view_is c.last.invariant in
    let numbers = subst (λ (quad : QuadData). IsQuad quad.den quad.p quad.v quad.q) c.quad.view_is c.quad.invariant in
    valid_quad c.args.axis c.args.settings.now c.args.spots.now c.index-spots-0.result c.index-spots-spots.result c.reported-quad.result (omega (arith, c.requires.two)) c.index-spots-0.is c.index-spots-spots.is ranges last_ranges c.reported-quad.ensures numbers
