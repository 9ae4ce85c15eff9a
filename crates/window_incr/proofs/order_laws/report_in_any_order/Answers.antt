use Rattle.window_incr.proofs.OrderReports.{report_in_any_order}
use Rattle.window_incr.proofs.order_laws.report_in_any_order.Goals as goal

pub returns : goal.returns
returns c = report_in_any_order
