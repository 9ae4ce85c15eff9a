use Rattle.std.proofs.Common.{◌≡◌, ℕ, ◌+◌, take, cond, None, length}
use Rattle.std.specs.List.{sum_by}
use Rattle.number_register.specs.Numbering.{slot, count_held}
use Rattle.exposure_log.proofs.Forgetting.{in_some}
use Rattle.exposure_log.proofs.numbered.let_go_listed.Given as goal

abbrev pub invariant-loop-numbered : goal.invariant-loop-numbered
invariant-loop-numbered l = record {
  at : (n : ℕ) → slot l.register n ≡ cond (in_some (take l.numbered-index l.listed) n) None (slot l.initial.register n);
  count : count_held l.register + sum_by (λ g. length g.numbers.items) (take l.numbered-index l.listed) ≡ count_held l.initial.register;
}
