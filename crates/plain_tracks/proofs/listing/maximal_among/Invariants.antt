use Rattle.std.proofs.Common.{map}
use Rattle.plain_tracks.proofs.Entries.{AreListed}
use Rattle.plain_tracks.proofs.listing.maximal_among.Given as goal

abbrev pub invariant-loop-set : goal.invariant-loop-set
invariant-loop-set l = AreListed (map (λ list. list.items) l.lists.items) l.yielded l.listed.entries
