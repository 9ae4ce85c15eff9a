use Rattle.std.proofs.Common.{◌≡◌, ◌+◌, ◌≤◌, length}
use Rattle.std.specs.Vec.{vec_len, vec_capacity}
use Rattle.number_register.specs.Numbering.{slot, count_held}
use Rattle.number_register.proofs.Takings.{Took}
use Rattle.number_register.proofs.taking.take_all.Given as goal

abbrev pub invariant-loop-detection : goal.invariant-loop-detection
invariant-loop-detection l = record {
  took : Took (slot l.fn.register) l.fn.detections.items l.rest.items l.numbers.items (slot l.register);
  count : count_held l.register ≡ count_held l.fn.register + length l.numbers.items;
  room : length l.fn.detections.items ≤ vec_capacity l.numbers;
}

abbrev pub decreases-loop-detection : goal.decreases-loop-detection
decreases-loop-detection l = vec_len l.rest
