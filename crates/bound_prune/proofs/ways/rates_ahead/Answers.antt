use Rattle.std.proofs.Common.{◌≡◌, pos, ◌+ℤ◌, SFits, get_or, rules, to_z, of_z, w64, arith}
use Rattle.std.specs.Int.{saturate_signed}
use Rattle.std.proofs.lemmas.Int.{ints, to_z-of_z}
use Rattle.box_tree.specs.Boxes.{end_on}
use Rattle.bound_prune.specs.Bounds.{rate_axis}
use Rattle.bound_prune.proofs.Saturated.{sum_stands}
use Rattle.bound_prune.proofs.ways.rates_ahead.Goals as goal

pub returns : goal.returns
returns c =
    let a_high : SFits w64 (get_or c.args.a.now.high c.rate_axis-rate.result (pos 0)) = search rules in
    let b_high : SFits w64 (get_or c.args.b.now.high c.rate_axis-rate.result (pos 0)) = search rules in
    let gained : to_z w64 (of_z w64 c.args.gained) ≡ c.args.gained = omega (arith, ints) in
    let kept : to_z w64 (of_z w64 c.saturating_add.result) ≡ c.saturating_add.result = omega (arith, ints) in
    let result : to_z w64 (of_z w64 c.saturating_add-2.result) ≡ c.saturating_add-2.result = omega (arith, ints) in
    let sum : c.saturating_add.result ≡ saturate_signed w64 (end_on c.args.a.now.high (rate_axis c.args.axis) +ℤ end_on c.args.b.now.high (rate_axis c.args.axis)) = rw c.rate_axis-rate.ensures.value at (simp to_z-of_z at c.saturating_add.ensures) in
    let whole : c.saturating_add-2.result ≡ saturate_signed w64 (c.saturating_add.result +ℤ c.args.gained) = rw (kept, gained) at c.saturating_add-2.ensures in
    rw result (sum_stands (end_on c.args.a.now.high (rate_axis c.args.axis) +ℤ end_on c.args.b.now.high (rate_axis c.args.axis)) c.args.gained c.saturating_add.result c.saturating_add-2.result c.requires sum whole)
