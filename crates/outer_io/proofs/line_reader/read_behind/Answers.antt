use Rattle.outer_io.proofs.Advancing.{reached_from_front}
use Rattle.outer_io.proofs.line_reader.read_behind.Goals as goal

pub returns : goal.returns
returns g c = reached_from_front _ _ _ _ _ _ _ c.read_to_feed.result c.keep_begun-begun.ensures.front c.read_to_feed.ensures
