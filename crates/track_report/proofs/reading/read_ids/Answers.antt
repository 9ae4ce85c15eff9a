use Rattle.std.proofs.Common.{refl, codes}
use Rattle.track_report.proofs.reading.read_ids.Goals as goal

pub returns : goal.returns
returns c ids more count all is = c.in_ok-found.ensures ids more count all (c.next_word.ensures (codes "ids") ids more refl is).1
