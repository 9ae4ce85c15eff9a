use Rattle.std.proofs.Common.{map, take}
use Rattle.plain_tracks.specs.Numbers.{IsMaximalAmong}
use Rattle.plain_tracks.proofs.maximal.is_maximal.Given as goal

abbrev pub invariant-loop-list : goal.invariant-loop-list
invariant-loop-list l = IsMaximalAmong (take l.list-index (map (λ list. list.items) l.lists)) l.numbers
