-- Quotients are no farther from zero than what is divided.
use Rattle.std.proofs.Common.{◌/◌, ◌≤◌, arith}
use Rattle.std.specs.Prelude.{ℤ, pos, negsuc, neg_ℤ, ◌<ℤ◌}
use Rattle.std.proofs.Math.Nat.{div-le_self}
use Rattle.std.proofs.lemmas.Int.{ints}
use Rattle.sky_units.specs.Ranges.{IsBetween}
use Rattle.bound_prune.specs.Boxes.{ceiling_of, floor_of}
use Rattle.bound_prune.specs.EndsData.{IsUsualRate}

floor_small : (z n : ℤ) → pos 0 <ℤ n → IsUsualRate z → IsUsualRate (floor_of z n)
floor_small (pos a) (pos b) p h =
    let m : a / b ≤ a = div-le_self a b in
    let to = h.to in
    record { from = omega (arith, ints); to = omega (arith, ints, m, to) }
floor_small (negsuc a) (pos b) p h =
    let m : a / b ≤ a = div-le_self a b in
    let from = h.from in
    record { from = omega (arith, ints, m, from); to = omega (arith, ints) }
floor_small z (negsuc b) p h = absurd (omega (arith, ints))

pub usual_floor : (z n : ℤ) → pos 0 <ℤ n → IsBetween (neg_ℤ (pos 1000000000000000)) (pos 1000000000000000) z → IsUsualRate (floor_of z n)
usual_floor z n p h = floor_small z n p h

pub usual_ceiling : (z n : ℤ) → pos 0 <ℤ n → IsBetween (neg_ℤ (pos 1000000000000000)) (pos 1000000000000000) z → IsUsualRate (ceiling_of z n)
usual_ceiling z n p h =
    let hf = h.from in
    let ht = h.to in
    let f : IsUsualRate (floor_of (neg_ℤ z) n) = floor_small (neg_ℤ z) n p (record { from = omega (arith, ints, ht); to = omega (arith, ints, hf) }) in
    let from = f.from in
    let to = f.to in
    record { from = omega (arith, ints, to); to = omega (arith, ints, from) }
