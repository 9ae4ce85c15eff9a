-- How a run that writes a summary ends; and a made sky has few detections.
use Rattle.std.proofs.Common.{◌≡◌, ℕ, suc, ◌+◌, ◌*◌, ◌<◌, ◌≤◌, ◌^◌, ◌++◌, List, [], ◌∷◌, length, map, refl, sym, ◌∙◌, ap, subst, append-nil, arith, length-append}
use Rattle.std.specs.List.{flat_map, range_with_len}
use Rattle.std.proofs.KnownBytes.{Appends-nil}
use Rattle.std.proofs.Math.Nat.{mul-le-mul, suc-mul}
use Rattle.std.proofs.lemmas.List.{length-map}
use Rattle.std.proofs.lemmas.List.FromFn.{length-range_with_len}
use Rattle.sky_units.specs.declared.statistics.Stats.{Stats}
use Rattle.made_sky.specs.MadeSky.{made_detection, made_detections}
use Rattle.made_sky.specs.Sightings.{sighting, sightings, night_sightings, exposure_sightings}
use Rattle.made_sky.specs.declared.sightings.Sighting.{Sighting}
use Rattle.outer_io.specs.Receipt.{Receipt}
use Rattle.mops_run.specs.declared.forms.SkyPlan.{SkyPlan}
use Rattle.mops_run.specs.declared.top.Status.TheVariants.{Done, WriteFault, NoMemory}
use Rattle.mops_run.specs.Forms.{IsPlan, sky_of}
use Rattle.mops_run.specs.Output.{WritesText, WritesTextFront, FailsIn}
use Rattle.mops_run.specs.Runs.{Summarizes, WritesSummaryFront}
use Rattle.mops_run.specs.Summing.{IsSummary, summary_text}
use Rattle.mops_run.proofs.Agreement.{IsSummary-only}

-- a front of the text of one summary is a front of that of each, since there is only one
each_front : (plan : SkyPlan) (stats : Stats) (old new : Receipt) → IsSummary (sky_of plan) stats → WritesTextFront old new (summary_text plan stats) → WritesSummaryFront plan old new
each_front plan stats old new is front = λ other also. subst (λ (s : Stats). WritesTextFront old new (summary_text plan s)) (IsSummary-only (sky_of plan) stats other is also) front

-- all is written
pub Summarizes-done : (plan : SkyPlan) (stats : Stats) (old new : Receipt) → IsSummary (sky_of plan) stats → WritesText old new (summary_text plan stats) → Summarizes plan Done old new
Summarizes-done plan stats old new is adds = record {
  whole = (stats, is, adds);
  front = each_front plan stats old new is (summary_text plan stats, [], sym (append-nil (summary_text plan stats)), adds.bytes);
  faults = adds.faults;
  ends = tt;
}

-- a write failed
pub Summarizes-failed : (plan : SkyPlan) (stats : Stats) (old new : Receipt) → IsSummary (sky_of plan) stats → FailsIn old new (summary_text plan stats) → Summarizes plan WriteFault old new
Summarizes-failed plan stats old new is fails = record { whole = tt; front = each_front plan stats old new is fails.bytes; faults = fails.faults; ends = tt }

-- memory was wanting, and nothing is written
pub Summarizes-no_memory : (plan : SkyPlan) (sink : Receipt) → Summarizes plan NoMemory sink sink
Summarizes-no_memory plan sink = record { whole = tt; front = λ stats is. ([], summary_text plan stats, refl, Appends-nil sink.written); faults = refl; ends = tt }

-- ---- how many detections a made sky has

length_of_each : {A B : Type 0} (f : A → List B) (n : ℕ) → ((x : A) → length (f x) ≡ n) → (xs : List A) → length (flat_map f xs) ≡ length xs * n
length_of_each f n each [] = omega arith
length_of_each f n each (x ∷ xs) =
    let rest : length (flat_map f xs) ≡ length xs * n = length_of_each f n each xs in
    let more : suc (length xs) * n ≡ length xs * n + n = suc-mul (length xs) n in
    length-append (f x) (flat_map f xs) ∙ omega (arith, each x, rest) ∙ sym more

of_exposure : (objects night exposure : ℕ) → length (exposure_sightings objects night exposure) ≡ objects
of_exposure objects night exposure = length-map (range_with_len 0 objects) (sighting night exposure) ∙ length-range_with_len 0 objects

of_night : (objects night : ℕ) → length (night_sightings objects night) ≡ 2 * objects
of_night objects night = length_of_each (exposure_sightings objects night) objects (of_exposure objects night) (range_with_len 0 2)

of_sky : (nights objects : ℕ) → length (sightings nights objects) ≡ nights * (2 * objects)
of_sky nights objects = length_of_each (night_sightings objects) (2 * objects) (of_night objects) (range_with_len 0 nights) ∙ ap (λ n. n * (2 * objects)) (length-range_with_len 0 nights)

pub few_detections : (plan : SkyPlan) → IsPlan plan → length (made_detections (sky_of plan)) < 2 ^ 32
few_detections plan is =
    let count : length (made_detections (sky_of plan)) ≡ plan.nights * (2 * plan.objects) = length-map (sightings plan.nights plan.objects) (λ s. made_detection (sky_of plan) s.night s.exposure s.object) ∙ of_sky plan.nights plan.objects in
    let objects : 2 * plan.objects ≤ 2000 = omega (arith, is.few_objects) in
    let bound : plan.nights * (2 * plan.objects) ≤ 30 * 2000 = mul-le-mul is.few_nights objects in
    omega (arith, count, bound)
