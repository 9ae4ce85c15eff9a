use Rattle.std.proofs.Common.{◌≡◌, Ok, Err, List}
use Rattle.std.specs.List.{All, AllPairs, flat_map}
use Rattle.std.specs.List.Sorted.{IsPermutation, IsStable}
use Rattle.std.specs.Result.{IfOk}
use Rattle.std.specs.declared.result.Result.{Result}
use Rattle.miti_text.specs.Observation.{Observation}
use Rattle.miti_text.specs.CanonicalOrder.{canonical_cmp}
use Rattle.exposure_log.specs.Held.{ExposureData}
use Rattle.exposure_log.specs.Deliveries.{AreExposuresOf, IsOneExposure}
use Rattle.exposure_log.specs.Gathered.{Precedes}
use Rattle.exposure_log.proofs.exposures.gather.Goals as goal

gathered : (list sorted : List Observation) (exposures : List ExposureData) → IsPermutation list sorted → IsStable canonical_cmp list sorted
    → AllPairs Precedes exposures → All IsOneExposure exposures → flat_map (λ x. x.detections) exposures ≡ sorted → AreExposuresOf list exposures
gathered list sorted exposures p s order each flat = record { gathered = record { in_order = order; parts = rw flat p; stable = rw flat s }; each = each }

weaker : {T E : Type 0} (r : Result T E) (P Q : T → Type 0) → ((x : T) → P x → Q x) → IfOk r P → IfOk r Q
weaker (Ok x) P Q h p = h x p
weaker (Err e) P Q h p = tt

pub cut-requires-clause-order : goal.cut-requires-clause-order
cut-requires-clause-order c = c.in_ok-sort.ensures.order

pub returns : goal.returns
returns c =
    weaker c.cut.result _ _ (λ exposures is. gathered c.args.list.items c.sort.new.list.items exposures.items c.in_ok-sort.ensures.permutation c.in_ok-sort.ensures.stable is.0 is.1 is.2) c.cut.ensures
