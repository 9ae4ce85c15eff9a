use Rattle.quad_fit.proofs.MarkLists.{mark_at}
use Rattle.quad_fit.proofs.marks.Marks.at.Goals as goal

pub mark_of-requires : goal.mark_of-requires
mark_of-requires c = mark_at _ _ _ c.args.place c.joined_spot.result.now c.joined_spot.ensures c.self.invariant.each (rw (← c.self.view_is) at c.requires)
