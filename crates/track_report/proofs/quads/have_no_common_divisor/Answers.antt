use Rattle.std.proofs.Common.{refl, nat_eq}
use Rattle.std.proofs.Math.Facts.{to_z-of_z}
use Rattle.track_report.proofs.Divisors.{decides_lowest}
use Rattle.track_report.proofs.quads.have_no_common_divisor.Goals as goal

pub returns : goal.returns
returns c = decides_lowest c.args.den c.args.p c.args.v c.args.q c.common_divisor-front.result c.common_divisor-back.result c.common_divisor.result
    (rw (c.unsigned_abs.ensures.value, c.unsigned_abs-2.ensures.value, to_z-of_z c.ranges.den, to_z-of_z c.ranges.p) at (c.common_divisor-front.ensures)) (rw (c.unsigned_abs-3.ensures.value, c.unsigned_abs-4.ensures.value, to_z-of_z c.ranges.v, to_z-of_z c.ranges.q) at (c.common_divisor-back.ensures)) c.common_divisor.ensures (nat_eq c.common_divisor.result 1) refl
