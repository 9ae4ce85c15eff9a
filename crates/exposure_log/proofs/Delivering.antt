-- A delivery has exposures, and only one list of them.
use Rattle.std.proofs.Common.{◌≡◌, List, refl, sym, ap, ◌∙◌}
use Rattle.std.specs.List.{AllPairs}
use Rattle.miti_text.specs.Observation.{Observation}
use Rattle.miti_text.specs.CanonicalOrder.{canonical_cmp}
use Rattle.exposure_log.specs.Held.{ExposureData}
use Rattle.exposure_log.specs.Gathered.{NotAfter}
use Rattle.exposure_log.specs.Deliveries.{AreExposuresOf}
use Rattle.exposure_log.proofs.Sorting.{canonical_total}
use Rattle.exposure_log.proofs.StableSort.{sorted, sorted_rises, sorted_permutes, sorted_is_stable, same_sorted}
use Rattle.exposure_log.proofs.Cutting.{cut, joined, cut_joined, cut_each, cut_in_order, cut_again, joined_rises}

-- two lists of exposures of a delivery have the same detections in the same order
same_joined : (list : List Observation) (one other : List ExposureData) → AreExposuresOf list one → AreExposuresOf list other → joined one ≡ joined other
same_joined list one other p q =
    same_sorted canonical_cmp canonical_total (joined one) (joined other)
    (joined_rises one p.gathered.in_order p.each) (joined_rises other q.gathered.in_order q.each)
    (λ x. p.gathered.stable x ∙ sym (q.gathered.stable x))

pub exposures_are_unique : (list : List Observation) (one other : List ExposureData) → AreExposuresOf list one → AreExposuresOf list other → one ≡ other
exposures_are_unique list one other p q =
    sym (cut_again one p.gathered.in_order p.each) ∙ (ap cut (same_joined list one other p q) ∙ cut_again other q.gathered.in_order q.each)

cut_of : (list whole : List Observation) → joined (cut whole) ≡ whole → AllPairs NotAfter whole → whole ≡ sorted canonical_cmp list → AreExposuresOf list (cut whole)
cut_of list whole is rise e = record {
  gathered = record {
    in_order = cut_in_order whole rise;
    parts = rw (is, e) (sorted_permutes canonical_cmp canonical_total list);
    stable = rw (is, e) (sorted_is_stable canonical_cmp canonical_total list);
  };
  each = cut_each whole rise;
}

pub exposures_exist : (list : List Observation) → (exposures : List ExposureData) × AreExposuresOf list exposures
exposures_exist list =
    let whole = sorted canonical_cmp list in
    (cut whole, cut_of list whole (cut_joined whole) (sorted_rises canonical_cmp canonical_total list) refl)
