-- The report is the same in whatever order exposures are given that can all be held.
use Rattle.std.proofs.Common.{◌≡◌, ℕ, List, [], ◌∷◌, ◌++◌, map, refl, sym, subst, ap, ◌∙◌, ◌↔◌}
use Rattle.std.specs.List.{Contains}
use Rattle.std.proofs.lemmas.List.{map-append}
use Rattle.std.proofs.lemmas.List.Elements.{All-contains}
use Rattle.sky_units.proofs.Members.{in_front, in_rest}
use Rattle.miti_text.specs.Observation.{Observation}
use Rattle.exposure_log.specs.Deliveries.{IsOneExposure}
use Rattle.exposure_log.specs.Held.{LogData, HeldExposure, ExposureData, detections_of}
use Rattle.exposure_log.specs.Orderly.{IsOrderly}
use Rattle.exposure_log.specs.Outcomes.{HoldsAll, HoldsOne}
use Rattle.exposure_log.specs.declared.outcomes.Outcome.{Outcome}
use Rattle.exposure_log.specs.declared.outcomes.Outcome.TheVariants.{Taken, Refused}
use Rattle.exposure_log.proofs.Keeping.{taking_keeps_order}
use Rattle.window_incr.specs.Laws.{IsHeldIn}
use Rattle.window_incr.specs.LinkerState.{LinkerState}
use Rattle.window_incr.specs.Order.{AreGiven, CanAllBeHeld, HasValidIds, HoldsExactly, ReportInAnyOrder, as_given, given_detections}
use Rattle.window_incr.specs.Soundness.{IsSoundState}
use Rattle.window_incr.proofs.OrderHeld.{each_is_taken_once}
use Rattle.window_incr.proofs.OrderLists.{in_parts, of_parts}
use Rattle.window_incr.proofs.SameHeld.{report_follows}

-- ---- each log stays orderly
one_keeps : (old new : LogData) (x : ExposureData) (outcome : Outcome) → IsOneExposure x → HasValidIds x → IsOrderly old → HoldsOne old x outcome new → IsOrderly new
one_keeps old new x (Taken epoch site count) one ids o w = taking_keeps_order old new x one ids o w.0 w.1
one_keeps old new x (Refused cause back) one ids o w = subst IsOrderly (sym w.3) o

all_keep : (old new : LogData) (given : List ExposureData) (outcomes : List Outcome) → ((x : ExposureData) → Contains given x → IsOneExposure x × HasValidIds x) → IsOrderly old → HoldsAll old given outcomes new → IsOrderly new
all_keep old new [] outcomes good o w = subst IsOrderly (sym w.1) o
all_keep old new (x ∷ given) outcomes good o w =
    let is = good x (in_front x given) in
    all_keep w.2 new given w.1 (λ y c. good y (in_rest x given y c)) (one_keeps old w.2 x w.0 is.0 is.1 o w.3) w.4

-- ---- the detections of what is held
abbrev entry : ℕ × Observation → Observation
entry d = d.1

seen_is : (held : List HeldExposure) → map (λ d. d.1) (detections_of held) ≡ given_detections (map as_given held)
seen_is [] = refl
seen_is (h ∷ held) = map-append entry h.detections (detections_of held) ∙ ap (λ (ds : List Observation). map entry h.detections ++ ds) (seen_is held)

wider : (xs ys : List ExposureData) (d : Observation) → ((x : ExposureData) → Contains xs x → Contains ys x) → Contains (given_detections xs) d → Contains (given_detections ys) d
wider xs ys d h c =
    let w = of_parts (λ (x : ExposureData). x.detections) xs d c in
    in_parts (λ (x : ExposureData). x.detections) ys w.0 d (h w.0 w.1) w.2

held_in : (old new : LogData) (exposures : List ExposureData) (d : Observation) → HoldsExactly old exposures new → IsHeldIn new d ↔ Contains (given_detections exposures) d
held_in old new exposures d h = (
  λ c. wider (map as_given new.exposures) exposures d (λ x. (h.exactly x).0) (subst (λ ds. Contains ds d) (seen_is new.exposures) c),
  λ c. subst (λ ds. Contains ds d) (sym (seen_is new.exposures)) (wider exposures (map as_given new.exposures) d (λ x. (h.exactly x).1) c),
)

-- ---- two orders
abbrev after : LinkerState → LogData → LinkerState
after s log = record { settings = s.settings; log = log }

still_sound : (s : LinkerState) (new : LogData) (exposures given : List ExposureData) (outcomes : List Outcome) → IsSoundState s → CanAllBeHeld s.log exposures → AreGiven exposures given → HoldsAll s.log given outcomes new → HoldsExactly s.log exposures new → IsSoundState (after s new)
still_sound s new exposures given outcomes sound can are w h = record {
  shift = h.night_shift ∙ sound.shift;
  orderly = all_keep s.log new given outcomes (λ x c. (All-contains IsOneExposure exposures x can.each ((are x).0 c), All-contains HasValidIds exposures x can.ids ((are x).0 c))) sound.orderly w;
}

pub report_in_any_order : ReportInAnyOrder
report_in_any_order = λ s exposures one other first second sound can are are' a b.
    let h = (each_is_taken_once s.log a.1 exposures one a.0 can are a.2).1 in
    let k = (each_is_taken_once s.log b.1 exposures other b.0 can are' b.2).1 in
    report_follows (after s a.1) (after s b.1) first second (still_sound s a.1 exposures one a.0 sound can are a.2 h) (still_sound s b.1 exposures other b.0 sound can are' b.2 k)
    (record {
      settings = refl;
      window = h.window ∙ sym k.window;
      detections = λ d. (
        λ c. (held_in s.log b.1 exposures d k).1 ((held_in s.log a.1 exposures d h).0 c),
        λ c. (held_in s.log a.1 exposures d h).1 ((held_in s.log b.1 exposures d k).0 c),
      );
    })
    a.3 b.3
