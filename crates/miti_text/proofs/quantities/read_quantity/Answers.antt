use Rattle.std.proofs.Common.{rules, w64}
use mir.Val.{SFits}
use Rattle.std.proofs.lemmas.Int.{to_z-of_z}
use Rattle.miti_text.specs.Quantities.{quantity_of}
use Rattle.miti_text.proofs.Kept.{in_range}
use Rattle.miti_text.proofs.quantities.read_quantity.Goals as goal

pub returns-in_err-units-clause-value : goal.returns-in_err-units-clause-value
unfolding quantity_of
returns-in_err-units-clause-value c = search rules

pub returns-clause-value : goal.returns-clause-value
unfolding quantity_of
returns-clause-value c = search rules

pub returns-clause-range : goal.returns-clause-range
returns-clause-range c =
    let within = rw (c.limit.ensures.value, c.places.ensures.value) at c.in_ok-units.ensures.range in
    let kept_fits : SFits w64 c.keep.result = record { sfits = c.keep.type_inv } in
    let signed_fits : SFits w64 c.signed.result = record { sfits = c.signed.type_inv } in
    rw (to_z-of_z w64 c.keep.result kept_fits, c.keep.ensures, to_z-of_z w64 c.signed.result signed_fits, c.signed.ensures)
    (in_range c.args.quantity c.split_sign-negative.result.0 c.in_ok-units.units within)
