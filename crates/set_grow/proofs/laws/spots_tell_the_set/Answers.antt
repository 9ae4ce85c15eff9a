use Rattle.set_grow.proofs.MaximalTracks.{same_spots_same_set}
use Rattle.set_grow.proofs.laws.spots_tell_the_set.Goals as goal

pub returns : goal.returns
returns c = same_spots_same_set
