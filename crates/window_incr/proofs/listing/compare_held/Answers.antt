use Rattle.window_incr.proofs.ReportLists.{not_before}
use Rattle.window_incr.proofs.listing.compare_held.Goals as goal

pub returns-then-before-2 : goal.returns-then-before-2
returns-then-before-2 c = (not_before _ _ _ _ c.requires.one c.requires.other c.before-2.ensures c.before-3.ensures c.if-before.false).0 c.if-before-2.true

pub returns : goal.returns
returns c = (not_before _ _ _ _ c.requires.one c.requires.other c.before-2.ensures c.before-3.ensures c.if-before.false).1 c.if-before-2.false
