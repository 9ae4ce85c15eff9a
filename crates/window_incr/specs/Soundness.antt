-- What each linker keeps to.
use Rattle.std.specs.Prelude.{IfSome}
use Rattle.window_incr.specs.LinkerState.{LinkerData}
use Rattle.window_incr.specs.Results.{KeepsResults}
pub use Rattle.kept_nights.specs.Soundness.{IsSoundState}
use Rattle.sky_units.specs.Limits.{IsNear}

-- the state is sound, its window is near, and the results that are kept are its own
pub record IsSoundLinker (l : LinkerData) : Type 0 where
  pub state : IsSoundState l.state
  pub near : IfSome l.state.log.window IsNear
  pub results : KeepsResults l
