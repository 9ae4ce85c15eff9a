use Rattle.std.proofs.Common.{List, ◌++◌}
use Rattle.std.specs.List.{All}
use Rattle.set_grow.specs.Nights.{by_night}
use Rattle.sky_units.specs.TrackletData.{TrackSetData}
use Rattle.kept_tracks.specs.Stages.{AreTracksInOrder, HasTracklets}
use Rattle.kept_tracks.proofs.tracks.tracks_of.Given as goal

-- with the tracks of the sets that are left, those that are made are those of all sets
abbrev pub invariant-loop-set : goal.invariant-loop-set
invariant-loop-set l = record {
  good : All (HasTracklets (by_night l.nights)) l.set-iterator;
  made : (rest : List TrackSetData) → AreTracksInOrder (by_night l.nights) l.set-iterator rest → AreTracksInOrder (by_night l.nights) l.fn.sets (l.tracks.items ++ rest);
}
