-- Exposures that are held one after another, and what is left when they are taken out again.
use Rattle.std.proofs.Common.{◌≡◌, ◌≢◌, ℕ, ◌+◌, ◌<◌, Bool, true, false, not, ◌||◌, ◌&&◌, ℤ, None, Some, List, [], ◌∷◌, ◌++◌, append_assoc, length, take, get_or, refl, sym, subst, ap, ◌∙◌, inl, inr, arith}
use Rattle.std.specs.List.{All, filter, list_any}
use Rattle.std.specs.Ordering.{is_eq}
use Rattle.std.proofs.lemmas.Bool.{cases_Bool}
use Rattle.std.proofs.lemmas.Cmp.{tied_itself}
use Rattle.std.proofs.lemmas.List.{append-nil, take_more}
use Rattle.std.proofs.lemmas.List.Elements.{All-nil, All-push}
use Rattle.std.proofs.lemmas.List.Folds.{list_any-append}
use Rattle.sky_units.specs.Ranges.{IsEpoch}
use Rattle.exposure_log.specs.declared.errors.AddError.{AddError}
use Rattle.exposure_log.specs.declared.outcomes.Outcome.{Outcome}
use Rattle.exposure_log.specs.declared.outcomes.Outcome.TheVariants.{Taken, Refused}
use Rattle.exposure_log.specs.Held.{LogData, HeldExposure, ExposureData, TakesIn, refusal, stands_at, stands_before, stands_after, with_exposure, without_exposure}
use Rattle.exposure_log.specs.Orderly.{IsOrderly}
use Rattle.exposure_log.specs.Outcomes.{CameBy, HoldsAll, HoldsOne, IsThere, is_of, without_one, without_taken}
use Rattle.exposure_log.proofs.Keeping.{removing_undoes}
use Rattle.exposure_log.proofs.Order.{place_total}
use Rattle.exposure_log.proofs.Searching.{filter_all}

-- one more exposure is held behind others
pub holds_more : (old mid new : LogData) (xs : List ExposureData) (x : ExposureData) (outcomes : List Outcome) (outcome : Outcome) → HoldsAll old xs outcomes mid → HoldsOne mid x outcome new
    → HoldsAll old (xs ++ x ∷ []) (outcomes ++ outcome ∷ []) new
holds_more old mid new [] x outcomes outcome a b =
    let first : HoldsOne old x outcome new = subst (λ (l : LogData). HoldsOne l x outcome new) a.1 b in
    (outcome, [], new, first, (refl, refl), ap (λ r. r ++ outcome ∷ []) a.0)
holds_more old mid new (y ∷ ys) x outcomes outcome a b =
    (a.0, a.1 ++ outcome ∷ [], a.2, a.3, holds_more a.2 mid new ys x a.1 outcome a.4 b, ap (λ r. r ++ outcome ∷ []) a.5)

-- ---- without what was taken
two_filters : {X : Type 0} (p q r : X → Bool) (xs : List X) → ((x : X) → r x ≡ (q x && p x)) → filter p (filter q xs) ≡ filter r xs
two_filters p q r [] is = refl
two_filters p q r (x ∷ xs) is = elim (cases_Bool (q x)) [
  | inl t ↦ elim (cases_Bool (p x)) [
    | inl u ↦ let e : r x ≡ true = is x ∙ rw (t, u) refl in rw (t, u, e, two_filters p q r xs is) refl
    | inr g ↦ let e : r x ≡ false = is x ∙ rw (t, g) refl in rw (t, g, e, two_filters p q r xs is) refl
  ]
  | inr f ↦ let e : r x ≡ false = is x ∙ rw f refl in rw (f, e, two_filters p q r xs is) refl
]

neither : (a b : Bool) → not (a || (b || false)) ≡ (not a && not b)
neither true b = refl
neither false true = refl
neither false false = refl

nor_other : (a b : Bool) → not (a || (b || false)) ≡ (not b && not a)
nor_other true true = refl
nor_other true false = refl
nor_other false true = refl
nor_other false false = refl

more_is : (outcomes : List Outcome) (outcome : Outcome) (x : HeldExposure) → not (list_any (is_of x) (outcomes ++ outcome ∷ [])) ≡ not (list_any (is_of x) outcomes || (is_of x outcome || false))
more_is outcomes outcome x = ap not (list_any-append (is_of x) outcomes (outcome ∷ []))

-- the last one is taken out before the others, or behind them
pub last_first : (outcomes : List Outcome) (outcome : Outcome) (held : List HeldExposure) → without_taken (outcomes ++ outcome ∷ []) held ≡ without_taken outcomes (without_one outcome held)
last_first outcomes outcome held =
    sym (two_filters (λ x. not (list_any (is_of x) outcomes)) (λ x. not (is_of x outcome)) (λ x. not (list_any (is_of x) (outcomes ++ outcome ∷ []))) held
    (λ x. more_is outcomes outcome x ∙ nor_other (list_any (is_of x) outcomes) (is_of x outcome)))

last_last : (outcomes : List Outcome) (outcome : Outcome) (held : List HeldExposure) → without_taken (outcomes ++ outcome ∷ []) held ≡ without_one outcome (without_taken outcomes held)
last_last outcomes outcome held =
    sym (two_filters (λ x. not (is_of x outcome)) (λ x. not (list_any (is_of x) outcomes)) (λ x. not (list_any (is_of x) (outcomes ++ outcome ∷ []))) held
    (λ x. more_is outcomes outcome x ∙ neither (list_any (is_of x) outcomes) (is_of x outcome)))

pub none_out : (held : List HeldExposure) → without_taken [] held ≡ held
none_out held = filter_all (λ x. true) held (λ k d l. refl)

pub none_goes : (log : LogData) (cause : AddError) (back : ExposureData) → log ≡ record log { exposures = without_one (Refused cause back) log.exposures }
none_goes log cause back = ap (λ (xs : List HeldExposure). record log { exposures = xs }) (sym (filter_all (λ (x : HeldExposure). true) log.exposures (λ k d l. refl)))

abbrev pub without : List Outcome → LogData → LogData
without outcomes log = record log { exposures = without_taken outcomes log.exposures }

pub none_is_out : (log : LogData) → log ≡ without [] log
none_is_out log = ap (λ (xs : List HeldExposure). record log { exposures = xs }) (sym (none_out log.exposures))

-- one more of some is taken out
pub one_more_out : (log mid new : LogData) (outcomes : List Outcome) (i : ℕ) (outcome : Outcome) → i < length outcomes → outcome ≡ get_or outcomes i outcome → mid ≡ without (take i outcomes) log → new ≡ record mid { exposures = without_one outcome mid.exposures } → new ≡ without (take (i + 1) outcomes) log
one_more_out log mid new outcomes i outcome lt is m n =
    let step : take (i + 1) outcomes ≡ take i outcomes ++ outcome ∷ [] = take_more outcomes i outcome lt ∙ ap (λ (o : Outcome). take i outcomes ++ o ∷ []) (sym is) in
    n ∙ (ap (λ (l : LogData). record l { exposures = without_one outcome l.exposures }) m ∙ ap (λ (xs : List HeldExposure). record log { exposures = xs }) (sym (last_last (take i outcomes) outcome log.exposures) ∙ ap (λ (os : List Outcome). without_taken os log.exposures) (sym step)))

-- ---- what a log has come by
pub came_by_none : (log : LogData) → CameBy log [] log
came_by_none log = record { there = All-nil (IsThere log.exposures); undone = none_is_out log }

stands_there : (x : HeldExposure) → stands_at x.epoch x.site x ≡ true
stands_there x = ap (λ o. is_eq o) (tied_itself place_total (x.epoch, x.site))

or_true : (b : Bool) → (b || true) ≡ true
or_true true = refl
or_true false = refl

is_held : (old new : LogData) (x : ExposureData) → TakesIn old new x → list_any (stands_at x.epoch x.site) new.exposures ≡ true
is_held old new x a =
    let earlier : List HeldExposure = filter (stands_before a.held.epoch a.held.site) old.exposures in
    let later : List HeldExposure = filter (stands_after a.held.epoch a.held.site) old.exposures in
    let here : list_any (stands_at a.held.epoch a.held.site) (with_exposure a.held old.exposures) ≡ true = rw (list_any-append (stands_at a.held.epoch a.held.site) earlier (a.held ∷ later), stands_there a.held) (or_true (list_any (stands_at a.held.epoch a.held.site) earlier)) in
    rw (a.is, ← a.epoch, ← a.site) here

-- what is held without some exposures is held with them
within : (p q : HeldExposure → Bool) (xs : List HeldExposure) → list_any p (filter q xs) ≡ true → list_any p xs ≡ true
within p q [] h = h
within p q (x ∷ xs) h = elim (cases_Bool (p x)) [
  | inl t ↦ rw t refl
  | inr f ↦ elim (cases_Bool (q x)) [
    | inl u ↦ let h' : list_any p (filter q xs) ≡ true = rw (u, f) at h in rw f (within p q xs h')
    | inr g ↦ let h' : list_any p (filter q xs) ≡ true = rw g at h in rw f (within p q xs h')
  ]
]

still_there : (q : HeldExposure → Bool) (xs : List HeldExposure) (outcome : Outcome) → IsThere (filter q xs) outcome → IsThere xs outcome
still_there q xs (Taken epoch site count) h = (h.0, within (stands_at epoch site) q xs h.1)
still_there q xs (Refused cause back) h = h

module _ (old mid new : LogData) (outcomes : List Outcome) (x : ExposureData) (came : CameBy old outcomes mid) where
  pub came_by_taken : (epoch : ℤ) (site : List ℕ) (count : ℕ) → IsOrderly mid → IsEpoch x.epoch → HoldsOne mid x (Taken epoch site count) new → CameBy old (outcomes ++ Taken epoch site count ∷ []) new
  came_by_taken epoch site count o range h =
      let back : without_exposure epoch site new.exposures ≡ mid.exposures = rw (h.2, h.3) (removing_undoes mid new x o h.0 h.1) in
      let whole : record new { exposures = mid.exposures } ≡ mid = ap (λ (l : LogData). record l { exposures = mid.exposures }) h.1.is in
      let earlier : All (IsThere new.exposures) outcomes = λ k d l. still_there (λ y. not (stands_at epoch site y)) new.exposures (get_or outcomes k d) (subst (λ (ys : List HeldExposure). IsThere ys (get_or outcomes k d)) (sym back) (came.there k d l)) in
      let last : IsThere new.exposures (Taken epoch site count) = (rw h.2 range, rw (h.2, h.3) (is_held mid new x h.1)) in
      record {
        there = All-push (IsThere new.exposures) outcomes (Taken epoch site count) earlier last;
        undone =
            came.undone ∙ (ap (λ (l : LogData). record l { exposures = without_taken outcomes mid.exposures }) (sym whole)
            ∙ ap (λ (ys : List HeldExposure). record new { exposures = ys }) (ap (without_taken outcomes) (sym back) ∙ sym (last_first outcomes (Taken epoch site count) new.exposures)));
      }

  pub came_by_refused : (cause : AddError) (back : ExposureData) → HoldsOne mid x (Refused cause back) new → CameBy old (outcomes ++ Refused cause back ∷ []) new
  came_by_refused cause back h =
      let same : without_one (Refused cause back) mid.exposures ≡ mid.exposures = filter_all (λ y. true) mid.exposures (λ k d l. refl) in
      rw h.3 (record {
        there = All-push (IsThere mid.exposures) outcomes (Refused cause back) came.there tt;
        undone = came.undone ∙ ap (λ (ys : List HeldExposure). record mid { exposures = ys }) (ap (without_taken outcomes) (sym same) ∙ sym (last_first outcomes (Refused cause back) mid.exposures));
      })

pub came_by_more : (old mid new : LogData) (outcomes : List Outcome) (x : ExposureData) (outcome : Outcome) → CameBy old outcomes mid → IsOrderly mid → IsEpoch x.epoch → HoldsOne mid x outcome new → CameBy old (outcomes ++ outcome ∷ []) new
came_by_more old mid new outcomes x (Taken epoch site count) came o range h = came_by_taken old mid new outcomes x came epoch site count o range h
came_by_more old mid new outcomes x (Refused cause back) came o range h = came_by_refused old mid new outcomes x came cause back h

-- ---- the loop over the exposures
pub record HoldsSoFar (old : LogData) (xs : List ExposureData) (outcomes : List Outcome) (now : LogData) (rest : List ExposureData) : Type 0 where
  pub front : List ExposureData
  pub parts : front ++ rest ≡ xs
  pub holds : HoldsAll old front outcomes now
  pub came : CameBy old outcomes now

pub nothing_yet : (log : LogData) (xs rest : List ExposureData) (outcomes : List Outcome) → rest ≡ xs → outcomes ≡ [] → HoldsSoFar log xs outcomes log rest
nothing_yet log xs rest outcomes e none = record { front = []; parts = e; holds = (none, refl); came = subst (λ (os : List Outcome). CameBy log os log) (sym none) (came_by_none log) }

pub one_more : (old mid new : LogData) (xs rest later : List ExposureData) (outcomes more : List Outcome) (x : ExposureData) (outcome : Outcome) → HoldsSoFar old xs outcomes mid rest → rest ≡ x ∷ later → IsOrderly mid → IsEpoch x.epoch → HoldsOne mid x outcome new
    → more ≡ outcomes ++ outcome ∷ [] → HoldsSoFar old xs more new later
one_more old mid new xs rest later outcomes more x outcome s e o range h m = rw m (record {
  front = s.front ++ x ∷ [];
  parts = append_assoc s.front (x ∷ []) later ∙ (ap (λ (ys : List ExposureData). s.front ++ ys) (sym e) ∙ s.parts);
  holds = holds_more old mid new s.front x outcomes outcome s.holds h;
  came = came_by_more old mid new outcomes x outcome s.came o range h;
})

pub all_held : (old new : LogData) (xs rest : List ExposureData) (outcomes : List Outcome) → HoldsSoFar old xs outcomes new rest → rest ≡ [] → HoldsAll old xs outcomes new
all_held old new xs rest outcomes s e = subst (λ (ys : List ExposureData). HoldsAll old ys outcomes new) (sym (append-nil s.front) ∙ (ap (λ (ys : List ExposureData). s.front ++ ys) (sym e) ∙ s.parts)) s.holds
