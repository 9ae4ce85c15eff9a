-- Laws over the definitions alone.
use Rattle.std.specs.Prelude.{◌≡◌, ◌↔◌, ℕ, List, Result, map}
use Rattle.std.specs.List.{Contains}
use Rattle.miti_text.specs.Observation.{Observation}
use Rattle.sky_units.specs.SettingsData.{AreSettings}
use Rattle.sky_units.specs.declared.ask_errors.AskError.{AskError}
use Rattle.sky_units.specs.declared.asked.Asked.{Asked}
use Rattle.sky_units.specs.declared.reports.Report.{Report}
use Rattle.sky_units.specs.declared.statistics.Stats.{Stats}
use Rattle.exposure_log.specs.Held.{LogData, detections_of}
use Rattle.window_incr.specs.LinkerState.{LinkerState}
use Rattle.window_incr.specs.Answers.{IsReport, AreStats}
use Rattle.window_incr.specs.Asked.{IsAsked}
use Rattle.window_incr.specs.Soundness.{IsSoundState}

-- a state has one report
abbrev pub ReportIsUnique : Type 0
ReportIsUnique = (s : LinkerState) (one other : Report) → IsReport s one → IsReport s other → one ≡ other

-- a detection is held
abbrev pub IsHeldIn : LogData → Observation → Type 0
IsHeldIn log d = Contains (map (λ e. e.1) (detections_of log.exposures)) d

-- two states hold the same: settings, window and detections, whatever numbers these have
pub record HoldTheSame (s t : LinkerState) : Type 0 where
  pub settings : s.settings ≡ t.settings
  pub window : s.log.window ≡ t.log.window
  pub detections : (d : Observation) → IsHeldIn s.log d ↔ IsHeldIn t.log d

-- states that hold the same have the same report, in whatever order they came by it
abbrev pub ReportFollows : Type 0
ReportFollows = (s t : LinkerState) (one other : Report) → IsSoundState s → IsSoundState t → HoldTheSame s t → IsReport s one → IsReport t other → one ≡ other

-- a state has one answer to what its statistics are
abbrev pub StatsAreUnique : Type 0
StatsAreUnique = (s : LinkerState) (one other : Stats) → AreStats s one → AreStats s other → one ≡ other

-- each sound state has a report, where its settings lie in their ranges
abbrev pub ReportExists : Type 0
ReportExists = (s : LinkerState) → IsSoundState s → AreSettings s.settings → (report : Report) × IsReport s report

-- and statistics
abbrev pub StatsExist : Type 0
StatsExist = (s : LinkerState) → IsSoundState s → (stats : Stats) × AreStats s stats

-- a state has one answer to asked ids
abbrev pub AskedIsUnique : Type 0
AskedIsUnique = (s : LinkerState) (ids : List (List ℕ)) (one other : Result Asked AskError) → IsAsked s ids one → IsAsked s ids other → one ≡ other

-- and each sound state has one
abbrev pub AskedExists : Type 0
AskedExists = (s : LinkerState) (ids : List (List ℕ)) → IsSoundState s → AreSettings s.settings → (answer : Result Asked AskError) × IsAsked s ids answer
