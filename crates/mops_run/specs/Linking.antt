-- How detections are linked at once: one window, and one delivery.
use Rattle.std.specs.Prelude.{◌≡◌, List, [], ◌∷◌, ◌++◌, ℤ, pos, ◌+ℤ◌, ◌≤ℤ◌}
use Rattle.std.specs.List.{Contains}
use Rattle.sky_math.specs.Night.{night_at}
use Rattle.sky_units.specs.Ranges.{IsBetween}
use Rattle.miti_text.specs.Observation.{Observation}
use Rattle.window_incr.specs.LinkerState.{LinkerState}
use Rattle.track_report.specs.declared.replies.Reply.{Reply}
use Rattle.mops_run.specs.declared.lines.Command.TheVariants.{Window, Report}
use Rattle.mops_run.specs.Commands.{Obeys}
use Rattle.mops_run.specs.Deliveries.{Delivers}

-- a detection lies in this night, and none lies in an earlier one
pub record IsLeastNight (shift : ℤ) (detections : List Observation) (night : ℤ) : Type 0 where
  pub among : (d : Observation) × Contains detections d × (night ≡ night_at shift d.epoch)
  pub least : (d : Observation) → Contains detections d → night ≤ℤ night_at shift d.epoch

-- a night that epochs have
abbrev pub IsNearNight : ℤ → Type 0
IsNearNight = IsBetween (pos 0) (pos 1000000)

-- the window is set to the least night of the detections and the twenty-nine after it, and they are one delivery
pub record LinksSome (old : LinkerState) (detections : List Observation) (given : List Reply) (new : LinkerState) : Type 0 where
  pub night : ℤ
  pub least : IsLeastNight old.settings.night_shift detections night
  pub window : Reply
  pub between : LinkerState
  pub set : Obeys (Window night (night +ℤ pos 29)) old window between
  pub delivered : List Reply
  pub delivery : Delivers between detections delivered new
  pub given_is : given ≡ window ∷ delivered

-- without a detection nothing is set
abbrev pub Links : LinkerState → List Observation → List Reply → LinkerState → Type 0
Links old [] given new = (given ≡ []) × (new ≡ old)
Links old (d ∷ ds) given new = LinksSome old (d ∷ ds) given new

-- detections are linked, and then there is the reply to a report
pub record LinksAndReports (old : LinkerState) (detections : List Observation) (given : List Reply) (new : LinkerState) : Type 0 where
  pub linked : List Reply
  pub between : LinkerState
  pub links : Links old detections linked between
  pub report : Reply
  pub reported : Obeys Report between report new
  pub given_is : given ≡ linked ++ report ∷ []
