use Rattle.std.proofs.Common.{◌≡◌, pos, ◌-ℤ◌, ◌*ℤ◌, ◌≤ℤ◌, ◌<ℤ◌, to_z, of_z, w64, arith}
use Rattle.std.specs.Int.{int_min, saturate_signed}
use Rattle.std.proofs.lemmas.Int.{ints}
use Rattle.bound_prune.proofs.Cuts.{apart_cut, apart_most, apart_within, most_apart, tells}
use Rattle.bound_prune.proofs.rates.is_above_by.Goals as goal

pub returns : goal.returns
returns c =
    let less : c.args.other <ℤ c.args.one = grind (arith, ints, c.if-one-other.false) in
    let low : pos 0 <ℤ (c.args.one -ℤ c.args.other) = omega (arith, ints) in
    let one : to_z w64 (of_z w64 c.args.one) ≡ c.args.one = omega (arith, ints) in
    let other : to_z w64 (of_z w64 c.args.other) ≡ c.args.other = omega (arith, ints) in
    let kept : to_z w64 (of_z w64 c.saturating_sub.result) ≡ c.saturating_sub.result = omega (arith, ints) in
    let sub : c.saturating_sub.result ≡ saturate_signed w64 (c.args.one -ℤ c.args.other) = rw (one, other) at c.saturating_sub.ensures in
    let apart : c.min-apart.result ≡ int_min (c.args.one -ℤ c.args.other) (pos 100000000) = apart_cut c.args.one c.args.other c.min-apart.result less (rw (kept, sub) at c.min-apart.ensures.value) in
    let range = apart_within (c.args.one -ℤ c.args.other) c.min-apart.result low apart in
    let from : pos 0 ≤ℤ c.min-apart.result = range.from in
    let to : c.min-apart.result ≤ℤ pos 100000000 = range.to in
    let most : to_z w64 (of_z w64 c.args.most) ≡ c.args.most = omega (arith, ints) in
    let scaled : to_z w64 (of_z w64 (pos 1000000 *ℤ to_z w64 (of_z w64 c.min-apart.result))) ≡ pos 1000000 *ℤ c.min-apart.result = omega (arith, ints, from, to) in
    let small : c.args.most ≤ℤ pos 29999999000000 = c.requires.to in
    rw (scaled, most) (tells (pos 1000000 *ℤ c.min-apart.result) c.args.most ((pos 1000000 *ℤ (c.args.one -ℤ c.args.other)) ≤ℤ c.args.most)
    (λ h. apart_most (c.args.one -ℤ c.args.other) c.args.most c.min-apart.result low small apart h)
    (λ h. most_apart (c.args.one -ℤ c.args.other) c.args.most c.min-apart.result apart h))
