use Rattle.kept_tracks.proofs.NothingKept.{nothing_kept}
use Rattle.kept_tracks.proofs.keeping.KeptTracks.new.Goals as goal

pub returns : goal.returns
returns c = λ settings. rw (c.new.ensures, c.new-2.ensures) (nothing_kept settings)
