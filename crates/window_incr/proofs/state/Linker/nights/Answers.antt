use Rattle.window_incr.proofs.Kept.{keeps_results}
use Rattle.window_incr.proofs.state.Linker.nights.Goals as goal

pub returns-clause-kept : goal.returns-clause-kept
returns-clause-kept c = rw (← c.self.view_is) (keeps_results c.self.inside.settings c.self.inside.log c.self.inside.nights.items c.self.inside.kept c.self.invariant.2 c.self.invariant.3)
