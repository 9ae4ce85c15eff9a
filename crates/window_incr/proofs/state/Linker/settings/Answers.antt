use Rattle.window_incr.specs.LinkerState.{LinkerData}
use Rattle.window_incr.specs.Soundness.{IsSoundLinker}
use Rattle.window_incr.proofs.Kept.{keeps_results, linker_of}
use Rattle.window_incr.proofs.state.Linker.settings.Goals as goal

pub returns-clause-sound : goal.returns-clause-sound
returns-clause-sound c =
    let here : LinkerData = linker_of c.self.inside.settings c.self.inside.log c.self.inside.nights.items c.self.inside.kept in
    let sound : IsSoundLinker here = record {
      state = record { shift = c.self.invariant.0; orderly = c.window.ensures.orderly };
      near = c.self.invariant.1;
      results = keeps_results c.self.inside.settings c.self.inside.log c.self.inside.nights.items c.self.inside.kept c.self.invariant.2 c.self.invariant.3;
    } in
    rw (← c.self.view_is) sound
