use Rattle.std.proofs.Common.{arith}
use Rattle.std.proofs.Math.Nat.{eq-one_of_dvd-one}
use Rattle.std.proofs.lemmas.Int.{ints}
use Rattle.track_report.proofs.tests.three_nights.Goals as goal

pub invariant_of-ra : goal.invariant_of-ra
invariant_of-ra c = record {
  den_in_range = record { from = omega (arith, ints); to = omega (arith, ints) };
  p_in_range = record { from = omega (arith, ints); to = omega (arith, ints) };
  v_in_range = record { from = omega (arith, ints); to = omega (arith, ints) };
  q_in_range = record { from = omega (arith, ints); to = omega (arith, ints) };
  lowest = λ k d p v q. eq-one_of_dvd-one d;
}

pub invariant_of-dec : goal.invariant_of-dec
invariant_of-dec c = record {
  den_in_range = record { from = omega (arith, ints); to = omega (arith, ints) };
  p_in_range = record { from = omega (arith, ints); to = omega (arith, ints) };
  v_in_range = record { from = omega (arith, ints); to = omega (arith, ints) };
  q_in_range = record { from = omega (arith, ints); to = omega (arith, ints) };
  lowest = λ k d p v q. eq-one_of_dvd-one d;
}
