use Rattle.std.proofs.Common.{w64, sym, ◌∙◌}
use mir.Val.{SFits}
use Rattle.std.proofs.lemmas.Int.{to_z-of_z}
use Rattle.miti_text.proofs.Kept.{in_range}
use Rattle.miti_text.proofs.ShortDecimals.{short_is}
use Rattle.miti_text.proofs.short_decimals.short_quantity.Goals as goal

pub returns-clause-value : goal.returns-clause-value
returns-clause-value c =
    let kept_fits : SFits w64 c.keep.result = record { sfits = c.keep.type_inv } in
    let signed_fits : SFits w64 c.signed.result = record { sfits = c.signed.type_inv } in
    rw (to_z-of_z w64 c.keep.result kept_fits, c.keep.ensures, to_z-of_z w64 c.signed.result signed_fits, c.signed.ensures)
    (short_is c.args.quantity c.args.text.now c.split_sign-negative.result.1.now c.decimal_in_front-decimal.result c.split_sign-negative.result.0 c.limit-limit.result c.places.result c.in_ok-units.units
    c.split_sign-negative.ensures.minus c.split_sign-negative.ensures.rest c.decimal_in_front-decimal.ensures c.if-decimal-eq0.false (sym c.ends_word.ensures ∙ c.if-not-ends_word.false)
    c.limit-limit.ensures.value c.places.ensures.value c.in_ok-units.ensures.value)

pub returns-clause-range : goal.returns-clause-range
returns-clause-range c =
    let within = rw (c.limit-limit.ensures.value, c.places.ensures.value) at c.in_ok-units.ensures.range in
    let kept_fits : SFits w64 c.keep.result = record { sfits = c.keep.type_inv } in
    let signed_fits : SFits w64 c.signed.result = record { sfits = c.signed.type_inv } in
    rw (to_z-of_z w64 c.keep.result kept_fits, c.keep.ensures, to_z-of_z w64 c.signed.result signed_fits, c.signed.ensures)
    (in_range c.args.quantity c.split_sign-negative.result.0 c.in_ok-units.units within)
