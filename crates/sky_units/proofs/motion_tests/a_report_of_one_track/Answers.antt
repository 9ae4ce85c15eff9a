use Rattle.std.proofs.Common.{arith}
use Rattle.std.proofs.Math.Nat.{eq-one_of_dvd-one}
use Rattle.std.proofs.lemmas.Int.{ints}
use Rattle.sky_units.proofs.motion_tests.a_report_of_one_track.Goals as goal

pub invariant_of-ra : goal.invariant_of-ra
invariant_of-ra c = λ d. record {
  den_in_range = record { from = omega (arith, ints); to = omega (arith, ints) };
  p_in_range = record { from = omega (arith, ints); to = omega (arith, ints) };
  v_in_range = record { from = omega (arith, ints); to = omega (arith, ints) };
  q_in_range = record { from = omega (arith, ints); to = omega (arith, ints) };
  lowest = λ k divides p v q. eq-one_of_dvd-one divides;
}
