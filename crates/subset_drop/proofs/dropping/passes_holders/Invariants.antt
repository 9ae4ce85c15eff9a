use Rattle.std.proofs.Common.{map, take}
use Rattle.std.specs.List.{All}
use Rattle.subset_drop.specs.Kept.{Passes}
use Rattle.subset_drop.proofs.dropping.passes_holders.Given as goal

abbrev pub invariant-loop-holder : goal.invariant-loop-holder
invariant-loop-holder l = All (λ pair. Passes (map (λ list. list.items) l.lists) l.place pair.1) (take l.holder-index l.holders)
