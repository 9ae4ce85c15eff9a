use Rattle.std.proofs.Common.{rules, refl}
use Rattle.std.proofs.Math.Facts.{to_z-of_z}
use Rattle.track_report.proofs.quads.quad_of.Goals as goal

pub returns-then-not-have_no_common_divisor : goal.returns-then-not-have_no_common_divisor
returns-then-not-have_no_common_divisor c quad =
    let none = rw (to_z-of_z c.ranges.den, to_z-of_z c.ranges.p, to_z-of_z c.ranges.v, to_z-of_z c.ranges.q) at (c.if-not-have_no_common_divisor.ensures) in
    none quad.lowest

pub returns : goal.returns
returns c =
    let lowest = rw (to_z-of_z c.ranges.den, to_z-of_z c.ranges.p, to_z-of_z c.ranges.v, to_z-of_z c.ranges.q) at (c.if-not-have_no_common_divisor.ensures) in (
      record {
        den_in_range = search rules;
        p_in_range = search rules;
        v_in_range = search rules;
        q_in_range = search rules;
        lowest = lowest;
      },
      rw (to_z-of_z c.ranges.base, to_z-of_z c.ranges.start, to_z-of_z c.ranges.den, to_z-of_z c.ranges.p, to_z-of_z c.ranges.v, to_z-of_z c.ranges.q) refl,
    )
