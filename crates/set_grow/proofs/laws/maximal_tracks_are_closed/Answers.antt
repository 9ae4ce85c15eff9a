use Rattle.set_grow.proofs.MaximalTracks.{maximal_exactly}
use Rattle.set_grow.proofs.laws.maximal_tracks_are_closed.Goals as goal

pub returns : goal.returns
returns c = maximal_exactly c.fit_is_decided.ensures
