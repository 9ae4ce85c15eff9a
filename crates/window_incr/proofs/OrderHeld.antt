-- Each exposure of some that can all be held is taken once, in whatever order they are given.
use Rattle.std.proofs.Common.{◌≡◌, None, Some, List, [], ◌∷◌, length, map, refl, sym, subst, ap₂, ◌∙◌, ◌↔◌, ◌⊎◌, inl, inr}
use Rattle.std.specs.List.{Contains, list_any}
use Rattle.std.proofs.lemmas.Bool.{cases_Bool}
use Rattle.std.proofs.lemmas.List.Sorted.{IsPermutation-refl}
use Rattle.sky_units.proofs.Members.{front_or_rest, in_front, in_none, in_rest}
use Rattle.exposure_log.specs.Held.{LogData, HeldExposure, ExposureData, TakesIn, refusal, stands_at}
use Rattle.exposure_log.specs.Outcomes.{HoldsAll, HoldsOne}
use Rattle.exposure_log.specs.declared.errors.AddError.{AddError}
use Rattle.exposure_log.specs.declared.errors.AddError.TheVariants.{Held}
use Rattle.exposure_log.specs.declared.outcomes.Outcome.{Outcome}
use Rattle.exposure_log.specs.declared.outcomes.Outcome.TheVariants.{Taken, Refused}
use Rattle.window_incr.specs.Order.{AreTakenOnce, CanAllBeHeld, EachIsTakenOnce, IsTakenOnce, as_given}
use Rattle.window_incr.proofs.OrderSteps.{HoldsSome, is_new, refused_again, seen_there, unrefused, with_it_again, with_one}

-- ---- what came of one
held_again : (log new : LogData) (x : ExposureData) (outcome : Outcome) → refusal log x ≡ Some Held → HoldsOne log x outcome new → (outcome ≡ Refused Held x) × (new ≡ log)
held_again log new x (Taken epoch site count) r w = absurd (let no : Some Held ≡ None = sym r ∙ w.0 in cc)
held_again log new x (Refused cause back) r w =
    let same : Some cause ≡ Some Held = sym w.0 ∙ r in
    let is : cause ≡ Held = cc in
    (ap₂ (λ (c : AddError) (b : ExposureData). Refused c b) is w.2, w.3)

held_now : (log new : LogData) (x : ExposureData) (outcome : Outcome) → refusal log x ≡ None → HoldsOne log x outcome new → (outcome ≡ Taken x.epoch x.site (length x.detections)) × TakesIn log new x
held_now log new x (Taken epoch site count) r w = (rw (w.2, w.3, w.4) refl, w.1)
held_now log new x (Refused cause back) r w = absurd (let no : Some cause ≡ None = sym w.0 ∙ r in cc)

-- ---- one step
abbrev Step : List ExposureData → List ExposureData → LogData → ExposureData → Outcome → LogData → Type 0
Step exposures seen old x outcome new = IsTakenOnce seen x outcome × HoldsSome exposures (x ∷ seen) old new

one_step : (old log new : LogData) (exposures seen : List ExposureData) (x : ExposureData) (outcome : Outcome) → CanAllBeHeld old exposures → HoldsSome exposures seen old log → Contains exposures x → HoldsOne log x outcome new
    → Step exposures seen old x outcome new
one_step old log new exposures seen x outcome can some given w = elim (cases_Bool (list_any (stands_at x.epoch x.site) log.exposures)) [
  | inl t ↦
      let s = seen_there old log exposures seen can some x given t in
      let came = held_again log new x outcome (refused_again old log exposures seen can some x given s) w in
      ((λ c. came.0, λ never. absurd (never s)), subst (HoldsSome exposures (x ∷ seen) old) (sym came.1) (with_it_again old log exposures seen can some x given s))
  | inr f ↦
      let came = held_now log new x outcome (unrefused old log exposures seen can some x given f) w in
      ((λ c. absurd (is_new old log exposures seen can some x given f c), λ never. came.0), with_one old log exposures seen can some x given f new came.1)
]

-- ---- all of them
abbrev passed : List ExposureData → List ExposureData → List ExposureData
passed seen [] = seen
passed seen (x ∷ given) = passed (x ∷ seen) given

abbrev Among : List ExposureData → List ExposureData → Type 0
Among exposures given = (x : ExposureData) → Contains given x → Contains exposures x

all_steps : (old log new : LogData) (exposures seen given : List ExposureData) (outcomes : List Outcome) → CanAllBeHeld old exposures → HoldsSome exposures seen old log → Among exposures given → HoldsAll log given outcomes new
    → AreTakenOnce seen given outcomes × HoldsSome exposures (passed seen given) old new
all_steps old log new exposures seen [] outcomes can some among w = (w.0, subst (HoldsSome exposures seen old) (sym w.1) some)
all_steps old log new exposures seen (x ∷ given) outcomes can some among w =
    let first = one_step old log w.2 exposures seen x w.0 can some (among x (in_front x given)) w.3 in
    let rest = all_steps old w.2 new exposures (x ∷ seen) given w.1 can first.1 (λ y c. among y (in_rest x given y c)) w.4 in
    ((w.0, w.1, first.0, rest.0, w.5), rest.1)

passed_is : (seen given : List ExposureData) (x : ExposureData) → Contains (passed seen given) x → Contains seen x ⊎ Contains given x
passed_is seen [] x c = inl c
passed_is seen (y ∷ given) x c = elim (passed_is (y ∷ seen) given x c) [
  | inl d ↦ elim (front_or_rest y seen x d) [
    | inl e ↦ inr (subst (Contains (y ∷ given)) e (in_front y given))
    | inr s ↦ inl s
  ]
  | inr d ↦ inr (in_rest y given x d)
]

still_passed : (seen given : List ExposureData) (x : ExposureData) → Contains seen x → Contains (passed seen given) x
still_passed seen [] x c = c
still_passed seen (y ∷ given) x c = still_passed (y ∷ seen) given x (in_rest y seen x c)

is_passed : (seen given : List ExposureData) (x : ExposureData) → Contains given x → Contains (passed seen given) x
is_passed seen [] x c = absurd (in_none x c)
is_passed seen (y ∷ given) x c = elim (front_or_rest y given x c) [
  | inl e ↦ still_passed (y ∷ seen) given x (subst (Contains (y ∷ seen)) e (in_front y seen))
  | inr d ↦ is_passed (y ∷ seen) given x d
]

none_seen : (x : ExposureData) (held : List HeldExposure) → held ≡ [] → Contains [] x ↔ Contains (map as_given held) x
none_seen x held e = (λ c. absurd (in_none x c), λ c. subst (λ hs. Contains (map as_given hs) x) e c)

at_start : (old : LogData) (exposures : List ExposureData) → CanAllBeHeld old exposures → HoldsSome exposures [] old old
at_start old exposures can = record {
  left = exposures;
  whole = rw can.nothing_held (IsPermutation-refl exposures);
  held = λ x. none_seen x old.exposures can.nothing_held;
  shift = refl;
  window = refl;
}

pub each_is_taken_once : EachIsTakenOnce
each_is_taken_once = λ old new exposures given outcomes can are w.
    let all = all_steps old old new exposures [] given outcomes can (at_start old exposures can) (λ x c. (are x).0 c) w in
    let end = all.1 in (
      all.0,
      record {
        night_shift = end.shift;
        window = end.window;
        exactly = λ x. (
          λ c. elim (passed_is [] given x ((end.held x).1 c)) [ inl d ↦ absurd (in_none x d) | inr d ↦ (are x).0 d ],
          λ c. (end.held x).0 (is_passed [] given x ((are x).1 c)),
        );
      },
    )
