-- What gathering a list of detections into exposures gives.
use Rattle.std.specs.Prelude.{◌≡◌, false, List}
use Rattle.std.specs.List.{AllPairs, flat_map}
use Rattle.std.specs.List.Sorted.{IsPermutation, IsStable}
use Rattle.std.specs.declared.cmp.Ordering.TheVariants.{Less}
use Rattle.std.specs.Ordering.{int_cmp, nat_cmp, ordering_then, is_gt}
use Rattle.std.specs.Cmp.Lexicographic.{slice_cmp}
use Rattle.miti_text.specs.Observation.{Observation}
use Rattle.miti_text.specs.CanonicalOrder.{canonical_cmp}
use Rattle.exposure_log.specs.Held.{ExposureData}

-- the first exposure stands before the second, by epoch and then by the bytes of the site
abbrev pub Precedes : ExposureData → ExposureData → Type 0
Precedes x y = ordering_then (int_cmp x.epoch y.epoch) (slice_cmp nat_cmp x.site y.site) ≡ Less

-- the exposures are those of the list's detections, in order of epoch and site; equal ids keep their order
pub record IsGathered (list : List Observation) (exposures : List ExposureData) : Type 0 where
  pub in_order : AllPairs Precedes exposures
  pub parts : IsPermutation list (flat_map (λ x. x.detections) exposures)
  pub stable : IsStable canonical_cmp list (flat_map (λ x. x.detections) exposures)

-- the first detection doesn't stand after the second
abbrev pub NotAfter : Observation → Observation → Type 0
NotAfter x y = is_gt (canonical_cmp x y) ≡ false

-- two detections are of one epoch and one site
abbrev pub IsOfOneExposure : Observation → Observation → Type 0
IsOfOneExposure x y = (x.epoch ≡ y.epoch) × (x.site ≡ y.site)
