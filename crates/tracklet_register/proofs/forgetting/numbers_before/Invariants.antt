use Rattle.std.proofs.Common.{◌↔◌, ℕ, take}
use Rattle.std.specs.List.{Contains}
use Rattle.tracklet_register.proofs.Entries.{IsOfEntry}
use Rattle.tracklet_register.proofs.forgetting.numbers_before.Given as goal

abbrev pub invariant-loop-index : goal.invariant-loop-index
invariant-loop-index l = (number : ℕ) → Contains l.numbers.items number ↔ IsOfEntry l.nights l.first (take l.index l.nights) number
