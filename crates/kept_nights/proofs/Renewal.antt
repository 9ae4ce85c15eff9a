-- Nights that are renewed together for exposures that were taken: they are all that has changed.
use Rattle.std.proofs.Common.{◌≡◌, ℕ, ◌<◌, ℤ, Bool, true, false, not, ◌||◌, List, [], ◌∷◌, ◌++◌, ◌⊎◌, length, get_or, refl, sym, ap, subst, ◌∙◌, inl, inr, arith}
use Rattle.std.specs.List.{All, Contains, filter, list_any}
use Rattle.std.specs.Ordering.{int_eq}
use Rattle.std.proofs.lemmas.Bool.{cases_Bool, false≢true, or_parts}
use Rattle.std.proofs.lemmas.Bool.Decides.{Decides-int_eq}
use Rattle.std.proofs.lemmas.List.Elements.{All-cons, All-contains, All-head, All-nil, All-push, All-tail, Contains-append_left, Contains-get_or, Contains-push}
use Rattle.std.proofs.lemmas.List.Folds.{list_any-append}
use Rattle.sky_math.specs.Night.{night_at}
use Rattle.sky_units.specs.SettingsData.{SettingsData}
use Rattle.exposure_log.specs.Held.{LogData, HeldExposure, ExposureData, stands_at}
use Rattle.exposure_log.specs.Orderly.{IsOrderly}
use Rattle.exposure_log.specs.Outcomes.{CameBy, IsThere, is_of, without_taken}
use Rattle.exposure_log.specs.declared.errors.AddError.{AddError}
use Rattle.exposure_log.specs.declared.outcomes.Outcome.{Outcome}
use Rattle.exposure_log.specs.declared.outcomes.Outcome.TheVariants.{Taken, Refused}
use Rattle.night_tree.specs.Nights.{NightData}
use Rattle.night_tree.proofs.EachTwoOf.{each_two_append}
use Rattle.plain_tracks.proofs.Entries.{front_or_rest, in_front, in_rest}
use Rattle.plain_tracks.proofs.Steps.{in_none}
use Rattle.kept_nights.specs.LinkerState.{LinkerState}
use Rattle.kept_nights.specs.KeptNights.{is_held_night, night_data, nights_of, with_night, RiseByNumber}
use Rattle.kept_nights.specs.Renewed.{AreRenewed, HaveDifferentNumbers, IsNightOf, NightsFollow, lies_in, with_nights}
use Rattle.kept_nights.proofs.KeptNights.{at_epoch, is_in, in_it, member_is, member_of, numbers_rise, same_data, same_held, same_nights}
use Rattle.kept_nights.proofs.WithNight.{still_rise, with_members}

-- ---- a night of which nothing was taken
not_it : (shift night : ℤ) (x : HeldExposure) (outcome : Outcome) → lies_in shift night outcome ≡ false → is_in shift night x ≡ true → is_of x outcome ≡ false
not_it shift night x (Taken epoch site count) other here = elim (cases_Bool (stands_at epoch site x)) [
  | inl t ↦ absurd (false≢true (sym other ∙ (Decides-int_eq (night_at shift epoch) night).1 (ap (night_at shift) (sym (at_epoch epoch site x t)) ∙ in_it shift night x here)))
  | inr f ↦ f
]
not_it shift night x (Refused cause back) other here = refl

none_of_it : (shift night : ℤ) (x : HeldExposure) (outcomes : List Outcome) → list_any (lies_in shift night) outcomes ≡ false → is_in shift night x ≡ true → list_any (is_of x) outcomes ≡ false
none_of_it shift night x [] none here = refl
none_of_it shift night x (outcome ∷ outcomes) none here =
    let parts = or_parts (lies_in shift night outcome) (list_any (lies_in shift night) outcomes) none in
    rw (not_it shift night x outcome parts.0 here, none_of_it shift night x outcomes parts.1 here) refl

-- ---- nights put among others
pub rise_all : (more nights : List NightData) → RiseByNumber nights → RiseByNumber (with_nights more nights)
rise_all [] nights rise = rise
rise_all (night ∷ more) nights rise = still_rise night (with_nights more nights) (rise_all more nights rise)

pub put_last : (more nights : List NightData) (night : NightData) → with_nights (more ++ night ∷ []) nights ≡ with_nights more (with_night night nights)
put_last [] nights night = refl
put_last (first ∷ more) nights night = ap (with_night first) (put_last more nights night)

pub none_left : (rest nights all : List NightData) → length rest ≡ 0 → with_nights rest nights ≡ all → nights ≡ all
none_left [] nights all none e = e
none_left (night ∷ rest) nights all none e = absurd (omega (arith, none))

abbrev pub OfOther : List NightData → NightData → Type 0
OfOther more x = (other : NightData) → Contains more other → x.number ≡ other.number → ⊥

pub come_from : (more nights : List NightData) (x : NightData) → Contains (with_nights more nights) x → Contains more x ⊎ (Contains nights x × OfOther more x)
come_from [] nights x c = inr (c, λ other d. absurd (in_none other d))
come_from (night ∷ more) nights x c = elim ((with_members night (with_nights more nights) x).0 c) [
  | inl e ↦ inl (subst (Contains (night ∷ more)) e (in_front night more))
  | inr w ↦ elim (come_from more nights x w.0) [
    | inl d ↦ inl (in_rest night more x d)
    | inr v ↦ inr (
      v.0,
      λ other d same. elim (front_or_rest night more other d) [
        | inl e ↦ w.1 (same ∙ ap (λ (n : NightData). n.number) (sym e))
        | inr k ↦ v.1 other k same
      ],
    )
  ]
]

go_in : (s : LinkerState) (more nights : List NightData) (x : NightData) → IsNightOf s x → All (IsNightOf s) more → Contains more x ⊎ Contains nights x → Contains (with_nights more nights) x
go_in s [] nights x is are c = elim c [ inl d ↦ absurd (in_none x d) | inr d ↦ d ]
go_in s (night ∷ more) nights x is are c = elim (cases_Bool (int_eq x.number night.number)) [
  | inl t ↦
      let same : x.number ≡ night.number = (Decides-int_eq x.number night.number).0 t in
      (with_members night (with_nights more nights) x).1 (inl ((All-head (IsNightOf s) night more are).1 ∙ (ap (night_data s) (sym same) ∙ sym is.1)))
  | inr f ↦
      let other : x.number ≡ night.number → ⊥ = λ e. false≢true (sym f ∙ (Decides-int_eq x.number night.number).1 e) in
      let rest = All-tail (IsNightOf s) night more are in
      (with_members night (with_nights more nights) x).1 (inr (
        elim c [
          | inl d ↦ elim (front_or_rest night more x d) [
            | inl e ↦ absurd (other (ap (λ (n : NightData). n.number) (sym e)))
            | inr k ↦ go_in s more nights x is rest (inl k)
          ]
          | inr d ↦ go_in s more nights x is rest (inr d)
        ],
        other,
      ))
]

-- ---- what a log has come to, and its nights
module _ (settings : SettingsData) (log : LogData) (outcomes : List Outcome) (changed : List NightData) where
  abbrev now : LinkerState
  now = record { settings = settings; log = log }

  abbrev old_log : LogData
  old_log = record log { exposures = without_taken outcomes log.exposures }

  abbrev old : LinkerState
  old = record { settings = settings; log = old_log }

  abbrev stays : HeldExposure → Bool
  stays x = not (list_any (is_of x) outcomes)

  wider : (night : ℤ) → list_any (lies_in log.night_shift night) outcomes ≡ false → (x : HeldExposure) → is_in log.night_shift night x ≡ true → stays x ≡ true
  wider night none x here = ap not (none_of_it log.night_shift night x outcomes none here)

  held_alike : (night : ℤ) → list_any (lies_in log.night_shift night) outcomes ≡ false → is_held_night old_log night ≡ is_held_night log night
  held_alike night none = same_held now stays log.window night (wider night none)

  alike : (night : ℤ) → list_any (lies_in log.night_shift night) outcomes ≡ false → night_data old night ≡ night_data now night
  alike night none = same_data now stays log.window night (wider night none)

  pub all_renewed : IsOrderly log → IsOrderly old_log → AreRenewed now outcomes changed → with_nights changed (nights_of old) ≡ nights_of now
  all_renewed o before r =
      same_nights now (with_nights changed (nights_of old)) o (rise_all changed (nights_of old) (numbers_rise old))
      (λ kept c. elim (come_from changed (nights_of old) kept c) [
        | inl d ↦ All-contains (IsNightOf now) changed kept r.are d
        | inr v ↦
            let was = member_is old kept v.0 in
            elim (cases_Bool (list_any (lies_in log.night_shift kept.number) outcomes)) [
              | inl t ↦ absurd (v.1 (night_data now kept.number) (r.each kept.number t) refl)
              | inr f ↦ (sym (held_alike kept.number f) ∙ was.0, was.1 ∙ alike kept.number f)
            ]
      ])
      (λ night h. elim (cases_Bool (list_any (lies_in log.night_shift night) outcomes)) [
        | inl t ↦ go_in now changed (nights_of old) (night_data now night) (h, refl) r.are (inl (r.each night t))
        | inr f ↦
            let was = member_of old night before (held_alike night f ∙ h) in
            go_in now changed (nights_of old) (night_data now night) (h, refl) r.are (inr (subst (Contains (nights_of old)) (alike night f) was))
      ])

  pub nights_follow : (before after : List NightData) → IsOrderly log → AreRenewed now outcomes changed → after ≡ with_nights changed before → NightsFollow settings outcomes log before after
  nights_follow before after o r e = λ was orderly came is.
      e ∙ (ap (with_nights changed) (is ∙ ap (λ (l : LogData). nights_of (record { settings = settings; log = l })) came.undone) ∙ all_renewed o (subst IsOrderly came.undone orderly) r)

-- ---- the nights of some outcomes
abbrev DifferInNumber : NightData → NightData → Type 0
DifferInNumber one other = one.number ≡ other.number → ⊥

pub renewed_none : (s : LinkerState) → AreRenewed s [] []
renewed_none s = record { are = All-nil (IsNightOf s); once = λ i j d ij jl. absurd (omega (arith, jl)); each = λ night h. absurd (false≢true h) }

or_false : (a : Bool) → (a || false) ≡ a
or_false true = refl
or_false false = refl

either : (P : Type 0) (a b : Bool) → (a || (b || false)) ≡ true → (a ≡ true → P) → (b ≡ true → P) → P
either P true b h f g = f refl
either P false true h f g = g refl
either P false false h f g = absurd (false≢true h)

abbrev lies_among : LinkerState → ℤ → List Outcome → Bool
lies_among s night outcomes = list_any (lies_in s.log.night_shift night) outcomes

by_last : (s : LinkerState) (before : List Outcome) (outcome : Outcome) (night : ℤ) (P : Type 0) → lies_among s night (before ++ outcome ∷ []) ≡ true → (lies_among s night before ≡ true → P) → (lies_in s.log.night_shift night outcome ≡ true → P) → P
by_last s before outcome night P h f g =
    either P (lies_among s night before) (lies_in s.log.night_shift night outcome) (sym (list_any-append (lies_in s.log.night_shift night) before (outcome ∷ [])) ∙ h) f g

pub refused_too : (s : LinkerState) (before : List Outcome) (cause : AddError) (back : ExposureData) (changed : List NightData) → AreRenewed s before changed → AreRenewed s (before ++ Refused cause back ∷ []) changed
refused_too s before cause back changed r = record {
  are = r.are;
  once = r.once;
  each = λ night h. by_last s before (Refused cause back) night (Contains changed (night_data s night)) h (r.each night) (λ no. absurd (false≢true no));
}

taken_with : (s : LinkerState) (before : List Outcome) (epoch : ℤ) (site : List ℕ) (count : ℕ) (changed more : List NightData) → AreRenewed s before changed → ((x : NightData) → Contains changed x → Contains more x) → All (IsNightOf s) more → HaveDifferentNumbers more
    → Contains more (night_data s (night_at s.log.night_shift epoch)) → AreRenewed s (before ++ Taken epoch site count ∷ []) more
taken_with s before epoch site count changed more r keeps are once there = record {
  are = are;
  once = once;
  each = λ night h. by_last s before (Taken epoch site count) night (Contains more (night_data s night)) h (λ t. keeps (night_data s night) (r.each night t))
      (λ t. subst (λ (n : ℤ). Contains more (night_data s n)) ((Decides-int_eq (night_at s.log.night_shift epoch) night).0 t) there);
}

-- the night was built before
pub built_already : (s : LinkerState) (before : List Outcome) (epoch number : ℤ) (site : List ℕ) (count : ℕ) (changed : List NightData) → AreRenewed s before changed → number ≡ night_at s.log.night_shift epoch
    → (night : NightData) × Contains changed night × (night.number ≡ number) → AreRenewed s (before ++ Taken epoch site count ∷ []) changed
built_already s before epoch number site count changed r e last =
    let is : last.0 ≡ night_data s (night_at s.log.night_shift epoch) = (All-contains (IsNightOf s) changed last.0 r.are last.1).1 ∙ ap (night_data s) (last.2 ∙ e) in
    taken_with s before epoch site count changed changed r (λ x c. c) r.are r.once (subst (Contains changed) is last.1)

held_there : (shift epoch : ℤ) (site : List ℕ) (xs : List HeldExposure) → list_any (stands_at epoch site) xs ≡ true → list_any (is_in shift (night_at shift epoch)) xs ≡ true
held_there shift epoch site [] h = h
held_there shift epoch site (x ∷ xs) h = elim (cases_Bool (stands_at epoch site x)) [
  | inl t ↦ rw ((Decides-int_eq (night_at shift x.epoch) (night_at shift epoch)).1 (ap (night_at shift) (at_epoch epoch site x t))) refl
  | inr f ↦
      let rest : list_any (is_in shift (night_at shift epoch)) xs ≡ true = held_there shift epoch site xs (rw f at h) in
      rw rest (or_true (is_in shift (night_at shift epoch) x))
]
  where
    or_true : (b : Bool) → (b || true) ≡ true
    or_true true = refl
    or_true false = refl

-- the night is built now
pub built_now : (s : LinkerState) (before : List Outcome) (epoch number : ℤ) (site : List ℕ) (count : ℕ) (changed more : List NightData) (night : NightData) → AreRenewed s before changed → ((x : NightData) → Contains changed x → ¬ (x.number ≡ number)) → IsThere s.log.exposures (Taken epoch site count) → number ≡ night_at s.log.night_shift epoch
    → night ≡ night_data s number → more ≡ changed ++ night ∷ [] → AreRenewed s (before ++ Taken epoch site count ∷ []) more
built_now s before epoch number site count changed more night r fresh there e is m =
    let here : night ≡ night_data s (night_at s.log.night_shift epoch) = is ∙ ap (night_data s) e in
    let one : IsNightOf s night = subst (IsNightOf s) (sym here) (held_there s.log.night_shift epoch site s.log.exposures there.1, refl) in
    let once : HaveDifferentNumbers (changed ++ night ∷ []) =
    each_two_append DifferInNumber changed (night ∷ []) r.once (λ i j d ij jl. absurd (omega (arith, ij, jl)))
    (λ k d kl. All-cons (DifferInNumber (get_or changed k d)) night [] (λ same. fresh (get_or changed k d) (Contains-get_or changed k d kl) (same ∙ ap (λ (n : NightData). n.number) is)) (All-nil (DifferInNumber (get_or changed k d)))) in
    rw m (taken_with s before epoch site count changed (changed ++ night ∷ []) r (Contains-append_left changed (night ∷ [])) (All-push (IsNightOf s) changed night r.are one) once (subst (Contains (changed ++ night ∷ [])) here (Contains-push changed night)))
