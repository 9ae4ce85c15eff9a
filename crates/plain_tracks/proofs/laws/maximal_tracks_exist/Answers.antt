use Rattle.plain_tracks.proofs.Existence.{some_list}
use Rattle.plain_tracks.proofs.laws.maximal_tracks_exist.Goals as goal

pub returns : goal.returns
returns c = λ settings nights a. some_list c.fit_is_decided.ensures settings nights a
