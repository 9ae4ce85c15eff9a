use Rattle.plain_tracks.proofs.Crowded.{crowded}
use Rattle.plain_tracks.proofs.maximal.are_part.Goals as goal

pub returns-then-one-other : goal.returns-then-one-other
returns-then-one-other c = λ among. crowded c.args.one.now c.args.other.now c.requires c.if-one-other.true among
