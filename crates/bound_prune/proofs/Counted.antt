-- One test that was counted.
use Rattle.std.proofs.Common.{◌≡◌, ℕ, ◌+◌, ◌-◌, ◌<◌, ◌^◌, min, arith}
use Rattle.box_tree.specs.Counts.{Rises}

pub rises_by_one : (before after : ℕ) → before < 2 ^ 64 → after ≡ min (before + 1) (2 ^ 64 - 1) → Rises 1 before after
rises_by_one before after few e = record { no_less = omega (arith, few, e); few = omega (arith, few, e) }
