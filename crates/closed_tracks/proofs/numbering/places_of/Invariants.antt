use Rattle.std.proofs.Common.{◌≡◌, ◌++◌, drop}
use Rattle.closed_tracks.specs.InOneList.{all_places}
use Rattle.closed_tracks.proofs.numbering.places_of.Given as goal

abbrev pub invariant-loop-night : goal.invariant-loop-night
invariant-loop-night l = l.places.items ++ all_places (drop l.night-index l.nights) ≡ all_places l.nights
