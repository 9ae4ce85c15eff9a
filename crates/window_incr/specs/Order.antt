-- Exposures that are given in whatever order, and again: each is taken once, and the report is the same.
use Rattle.std.specs.Prelude.{◌≡◌, ◌≤◌, ◌≤ℤ◌, ◌↔◌, ℤ, Some, IsTrue, List, [], ◌∷◌, length, map}
use Rattle.std.specs.List.{All, Contains, filter, flat_map}
use Rattle.std.specs.Ordering.{int_eq}
use Rattle.sky_math.specs.Lists.{EachTwo}
use Rattle.sky_math.specs.Night.{night_at}
use Rattle.miti_text.specs.Observation.{Observation, is_id}
use Rattle.sky_units.specs.declared.reports.Report.{Report}
use Rattle.exposure_log.specs.Deliveries.{IsOneExposure}
use Rattle.exposure_log.specs.Held.{LogData, HeldExposure, ExposureData, most_detections, most_of_a_night}
use Rattle.exposure_log.specs.Outcomes.{HoldsAll}
use Rattle.exposure_log.specs.declared.errors.AddError.TheVariants.{Held}
use Rattle.exposure_log.specs.declared.outcomes.Outcome.{Outcome}
use Rattle.exposure_log.specs.declared.outcomes.Outcome.TheVariants.{Taken, Refused}
use Rattle.window_incr.specs.Answers.{IsReport}
use Rattle.window_incr.specs.LinkerState.{LinkerState}
use Rattle.window_incr.specs.Soundness.{IsSoundState}

-- a window was set, and the exposure is of one of its nights
abbrev pub IsInWindow : LogData → ExposureData → Type 0
IsInWindow log x = (window : ℤ × ℤ) × (log.window ≡ Some window) × (window.0 ≤ℤ night_at log.night_shift x.epoch) × (night_at log.night_shift x.epoch ≤ℤ window.1)

-- two exposures are of one epoch and one site
abbrev pub AreOfOnePlace : ExposureData → ExposureData → Type 0
AreOfOnePlace x y = (x.epoch ≡ y.epoch) × (x.site ≡ y.site)

-- two detections have one id
abbrev pub HaveOneId : Observation → Observation → Type 0
HaveOneId d e = d.id ≡ e.id

-- the ids of an exposure keep their rule
abbrev pub HasValidIds : ExposureData → Type 0
HasValidIds x = All (λ d. IsTrue (is_id d.id)) x.detections

-- the exposures of a night
abbrev pub given_of_night : LogData → ℤ → List ExposureData → List ExposureData
given_of_night log night exposures = filter (λ x. int_eq (night_at log.night_shift x.epoch) night) exposures

-- the detections of exposures
abbrev pub given_detections : List ExposureData → List Observation
given_detections exposures = flat_map (λ x. x.detections) exposures

-- nothing is held yet, and nothing stands against holding all of these: they lie in the window, no two are of one epoch and one
-- site, no two detections have one id, and each night and the log have room for them
pub record CanAllBeHeld (log : LogData) (exposures : List ExposureData) : Type 0 where
  pub nothing_held : log.exposures ≡ []
  pub in_window : All (IsInWindow log) exposures
  pub each : All IsOneExposure exposures
  pub ids : All HasValidIds exposures
  pub apart : EachTwo (λ x y. AreOfOnePlace x y → ⊥) exposures
  pub ids_apart : EachTwo (λ d e. HaveOneId d e → ⊥) (given_detections exposures)
  pub few_of_a_night : (night : ℤ) → length (given_of_night log night exposures) ≤ most_of_a_night
  pub few : length (given_detections exposures) ≤ most_detections

-- these are given, in whatever order and as often as may be
abbrev pub AreGiven : List ExposureData → List ExposureData → Type 0
AreGiven exposures given = (x : ExposureData) → Contains given x ↔ Contains exposures x

-- an exposure is taken where it wasn't given before, and refused as held where it was
abbrev pub IsTakenOnce : List ExposureData → ExposureData → Outcome → Type 0
IsTakenOnce before x outcome =
    (Contains before x → outcome ≡ Refused Held x)
    × ((Contains before x → ⊥) → outcome ≡ Taken x.epoch x.site (length x.detections))

-- and so is each of some, one after another
abbrev pub AreTakenOnce : List ExposureData → List ExposureData → List Outcome → Type 0
AreTakenOnce before [] outcomes = outcomes ≡ []
AreTakenOnce before (x ∷ given) outcomes =
    (outcome : Outcome) × (later : List Outcome) × IsTakenOnce before x outcome × AreTakenOnce (x ∷ before) given later × (outcomes ≡ outcome ∷ later)

-- a held exposure, as it was given
abbrev pub as_given : HeldExposure → ExposureData
as_given x = record { epoch = x.epoch; site = x.site; detections = map (λ d. d.1) x.detections }

-- exactly these exposures are held, and else nothing has changed
pub record HoldsExactly (old : LogData) (exposures : List ExposureData) (new : LogData) : Type 0 where
  pub night_shift : new.night_shift ≡ old.night_shift
  pub window : new.window ≡ old.window
  pub exactly : (x : ExposureData) → Contains (map as_given new.exposures) x ↔ Contains exposures x

-- each exposure is taken once, in whatever order they are given and as often as may be, and then exactly they are held
abbrev pub EachIsTakenOnce : Type 0
EachIsTakenOnce = (old new : LogData) (exposures given : List ExposureData) (outcomes : List Outcome)
    → CanAllBeHeld old exposures → AreGiven exposures given → HoldsAll old given outcomes new → AreTakenOnce [] given outcomes × HoldsExactly old exposures new

-- a report of what a state becomes when exposures are given
abbrev pub IsReportAfter : LinkerState → List ExposureData → Report → Type 0
IsReportAfter s given report = (outcomes : List Outcome) × (new : LogData) × HoldsAll s.log given outcomes new × IsReport (record s { log = new }) report

-- it is the same in whatever order they are given and as often as may be
abbrev pub ReportInAnyOrder : Type 0
ReportInAnyOrder = (s : LinkerState) (exposures one other : List ExposureData) (first second : Report)
    → IsSoundState s → CanAllBeHeld s.log exposures → AreGiven exposures one → AreGiven exposures other → IsReportAfter s one first → IsReportAfter s other second → first ≡ second
