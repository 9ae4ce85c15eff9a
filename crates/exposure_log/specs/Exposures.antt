-- What an exposure keeps.
use Rattle.std.specs.Prelude.{◌≡◌, ℕ, ◌<◌, ◌^◌, length, slice_index_or}
use Rattle.std.specs.List.{All}
use Rattle.std.specs.Ordering.{nat_cmp, is_gt}
use Rattle.std.specs.Cmp.Lexicographic.{slice_cmp}
use Rattle.std.specs.Prelude.{false, List}
use Rattle.sky_units.specs.Ranges.{IsEpoch}
use Rattle.miti_text.specs.Observation.{Observation}
use Rattle.exposure_log.specs.Held.{ExposureData}

-- ids don't fall
abbrev pub IdsDontFall : List Observation → Type 0
IdsDontFall list = (i j : ℕ) (d : Observation) → i < j → j < length list → is_gt (slice_cmp nat_cmp (slice_index_or list i d).id (slice_index_or list j d).id) ≡ false

pub record IsExposure (x : ExposureData) : Type 0 where
  pub some : 0 < length x.detections
  pub few : length x.detections < 2 ^ 32
  pub epoch_in_range : IsEpoch x.epoch
  pub one_epoch : All (λ d. d.epoch ≡ x.epoch) x.detections
  pub one_site : All (λ d. d.site ≡ x.site) x.detections
  pub by_id : IdsDontFall x.detections
