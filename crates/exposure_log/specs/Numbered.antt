-- How the log keeps its exposures: each a list of numbers, whose detections stand in the slots.
use Rattle.std.specs.Prelude.{◌≡◌, ℕ, ◌<◌, ◌≤◌, ℤ, Option, Some, List, [], length, slice_index, slice_index_or}
use Rattle.std.specs.List.{All, Contains, filter_map, sum_by}
use Rattle.std.specs.Option.{option_map}
use Rattle.std.specs.declared.cmp.Ordering.{Ordering}
use Rattle.std.specs.declared.cmp.Ordering.TheVariants.{Less}
use Rattle.std.specs.Ordering.{nat_cmp}
use Rattle.std.specs.Cmp.Lexicographic.{slice_cmp}
use Rattle.sky_units.specs.Ranges.{IsEpoch}
use Rattle.miti_text.specs.Observation.{Observation}
use Rattle.exposure_log.specs.Held.{HeldExposure, most_detections, exposure_cmp}
use Rattle.number_register.specs.Numbering.{slot, count_held}
use Rattle.exposure_log.specs.declared.numbered.NumberedExposure.{NumberedExposure}

-- the detections of these numbers
abbrev pub entries_of : List (Option Observation) → List ℕ → List (ℕ × Observation)
entries_of slots numbers = filter_map (λ n. option_map (λ d. (n, d)) (slot slots n)) numbers

-- the held exposure that these numbers are
abbrev pub exposure_of : List (Option Observation) → NumberedExposure → HeldExposure
exposure_of slots g = record { epoch = g.epoch; site = g.site; detections = entries_of slots g.numbers.items }

-- an exposure's numbers are those of held detections of its epoch and site, in strict order of id
pub record IsNumbered (slots : List (Option Observation)) (g : NumberedExposure) : Type 0 where
  pub some : 0 < length g.numbers.items
  pub epoch_in_range : IsEpoch g.epoch
  pub held : (k : ℕ) → k < length g.numbers.items → (d : Observation) × (slot slots (slice_index g.numbers.items k) ≡ Some d) × (d.epoch ≡ g.epoch) × (d.site ≡ g.site)
  pub by_id : (j k : ℕ) (d e : Observation) → j < k → k < length g.numbers.items → slot slots (slice_index g.numbers.items j) ≡ Some d → slot slots (slice_index g.numbers.items k) ≡ Some e → slice_cmp nat_cmp d.id e.id ≡ Less

-- how an exposure compares with another epoch and site: as the held exposure that it is
abbrev pub numbered_cmp : ℤ → List ℕ → NumberedExposure → Ordering
numbered_cmp epoch site g = exposure_cmp epoch site (exposure_of [] g)

-- the exposures stand in strict order of epoch and site
abbrev pub RiseStrictly : List NumberedExposure → Type 0
RiseStrictly listed = (i j : ℕ) (g : NumberedExposure) → i < j → j < length listed → numbered_cmp (slice_index_or listed j g).epoch (slice_index_or listed j g).site (slice_index_or listed i g) ≡ Less

-- the exposures stand in strict order of epoch and site, and hold each detection
pub record AreListed (slots : List (Option Observation)) (listed : List NumberedExposure) : Type 0 where
  pub in_order : RiseStrictly listed
  pub each : All (IsNumbered slots) listed
  pub none_else : (n : ℕ) (d : Observation) → slot slots n ≡ Some d → (g : NumberedExposure) × Contains listed g × Contains g.numbers.items n
  pub count : count_held slots ≡ sum_by (λ g. length g.numbers.items) listed
  pub few : count_held slots ≤ most_detections
