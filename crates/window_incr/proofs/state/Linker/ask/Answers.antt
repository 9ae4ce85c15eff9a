use Rattle.window_incr.proofs.state.Linker.ask.Goals as goal

pub returns : goal.returns
returns c = rw (← c.self.view_is, ← c.items.ensures) c.asked.ensures
