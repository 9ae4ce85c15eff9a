use Rattle.std.proofs.Common.{◌≡◌, pos, ◌-ℤ◌, false, arith, refl, to_z, of_z, w64}
use Rattle.std.specs.Int.Signed.{lt_z, le_z}
use Rattle.std.proofs.lemmas.Int.{ints}
use Rattle.exposure_log.proofs.log.ExposureLog.check_window.Goals as goal

pub returns-else-hi-last : goal.returns-else-hi-last
returns-else-hi-last c =
    let lo : to_z w64 (of_z w64 c.args.lo) ≡ c.args.lo = omega (arith, ints) in
    let hi : to_z w64 (of_z w64 c.args.hi) ≡ c.args.hi = omega (arith, ints) in
    let order : lt_z c.args.hi c.args.lo ≡ false = rw (lo, hi) at c.if-hi-lo.false in
    let gap : to_z w64 (of_z w64 (c.args.hi -ℤ c.args.lo)) ≡ c.args.hi -ℤ c.args.lo = omega (arith, ints, c.requires.lo_from, c.requires.lo_to, c.requires.hi_from, c.requires.hi_to) in
    let wide : le_z (pos 30) (c.args.hi -ℤ c.args.lo) ≡ false = rw (lo, hi, gap) at c.if-hi-lo-ge-MOST_NIGHTS.false in
    let from : to_z w64 (of_z w64 c.in-Some.first) ≡ c.in-Some.first = omega (arith, ints) in
    let to : to_z w64 (of_z w64 c.in-Some.last) ≡ c.in-Some.last = omega (arith, ints) in
    let first : lt_z c.args.lo c.in-Some.first ≡ false = rw (lo, from) at c.if-lo-first.false in
    let last : lt_z c.args.hi c.in-Some.last ≡ false = rw (hi, to) at c.if-hi-last.false in
    rw (← c.self.view_is, c.in-Some.is, order, wide, first, last) refl
