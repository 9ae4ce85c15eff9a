use Rattle.std.proofs.Common.{◌≡◌, ℕ, ◌+◌, take}
use Rattle.number_register.specs.Numbering.{slot, count_held}
use Rattle.number_register.specs.Numbering.{without_numbers}
use Rattle.number_register.proofs.taking.let_go_all.Given as goal

abbrev pub invariant-loop-number : goal.invariant-loop-number
invariant-loop-number l = record {
  at : (k : ℕ) → slot l.register k ≡ without_numbers (slot l.initial.register) (take l.number-index l.numbers) k;
  count : count_held l.register + l.number-index ≡ count_held l.initial.register;
}
