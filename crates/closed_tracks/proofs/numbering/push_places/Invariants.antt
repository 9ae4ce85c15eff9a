use Rattle.std.proofs.Common.{◌≡◌, ◌++◌, map}
use Rattle.std.specs.List.{range_with_len}
use Rattle.closed_tracks.specs.InOneList.{place_in}
use Rattle.closed_tracks.proofs.numbering.push_places.Given as goal

abbrev pub invariant-loop-place : goal.invariant-loop-place
invariant-loop-place l = l.places.items ≡ l.initial.places.items ++ map (place_in l.night) (range_with_len 0 l.place)
