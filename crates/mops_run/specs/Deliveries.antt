-- How the detections that wait are delivered: gathered into exposures, which are added in order of epoch and site.
use Rattle.std.specs.Prelude.{◌≡◌, ℕ, List, [], ◌∷◌, length, slice_get, MatchOption}
use Rattle.std.specs.Option.{option_map_or}
use Rattle.miti_text.specs.Observation.{Observation}
use Rattle.exposure_log.specs.Deliveries.{AreExposuresOf}
use Rattle.exposure_log.specs.Held.{ExposureData, TakesIn, refusal}
use Rattle.exposure_log.specs.declared.errors.AddError.{AddError}
use Rattle.exposure_log.specs.declared.errors.AddError.TheVariants.{Id}
use Rattle.exposure_log.specs.declared.outcomes.Outcome.{Outcome}
use Rattle.exposure_log.specs.declared.outcomes.Outcome.TheVariants.{Taken, Refused}
use Rattle.window_incr.specs.LinkerState.{LinkerState}
use Rattle.track_report.specs.declared.replies.Reply.{Reply}
use Rattle.track_report.specs.declared.replies.Reply.TheVariants as replies

-- the id that a refusal names: that of the place which `Id` carries
abbrev pub named_id : AddError → ExposureData → List ℕ
named_id (Id place) x = option_map_or (λ d. d.id) (slice_get x.detections place) []
named_id error x = []

-- the exposure is held from now on
pub record IsAccepted (old : LinkerState) (x : ExposureData) (reply : Reply) (new : LinkerState) : Type 0 where
  pub settings : new.settings ≡ old.settings
  pub log : TakesIn old.log new.log x
  pub reply_is : reply ≡ replies.Added x.epoch x.site (length x.detections)

-- the exposure is turned away, and nothing changes
pub record IsRefused (old : LinkerState) (x : ExposureData) (error : AddError) (reply : Reply) (new : LinkerState) : Type 0 where
  pub same : new ≡ old
  pub reply_is : reply ≡ replies.Refused x.epoch x.site error (named_id error x)

-- an exposure is taken where nothing refuses it, and is turned away by the first cause where something does
abbrev pub DeliversOne : LinkerState → ExposureData → Reply → LinkerState → Type 0
DeliversOne old x reply new = MatchOption (refusal old.log x) (IsAccepted old x reply new) (λ error. IsRefused old x error reply new)

-- the reply that tells what came of an exposure
abbrev pub reply_of : Outcome → Reply
reply_of (Taken epoch site count) = replies.Added epoch site count
reply_of (Refused error x) = replies.Refused x.epoch x.site error (named_id error x)

-- exposures are added one after another
abbrev pub DeliversAll : LinkerState → List ExposureData → List Reply → LinkerState → Type 0
DeliversAll old [] given new = (given ≡ []) × (new ≡ old)
DeliversAll old (x ∷ xs) given new =
    (reply : Reply) × (later : List Reply) × (between : LinkerState) × DeliversOne old x reply between × DeliversAll between xs later new × (given ≡ reply ∷ later)

-- the exposures of the detections are added in their order
abbrev pub Delivers : LinkerState → List Observation → List Reply → LinkerState → Type 0
Delivers old waiting given new = (exposures : List ExposureData) × AreExposuresOf waiting exposures × DeliversAll old exposures given new
