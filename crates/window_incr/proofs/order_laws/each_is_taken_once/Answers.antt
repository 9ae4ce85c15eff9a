use Rattle.window_incr.proofs.OrderHeld.{each_is_taken_once}
use Rattle.window_incr.proofs.order_laws.each_is_taken_once.Goals as goal

pub returns : goal.returns
returns c = each_is_taken_once
