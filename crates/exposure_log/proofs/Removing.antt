-- Numbered that are taken out, with the detections of their numbers: those of a place, or those of the first nights.
use Rattle.std.proofs.Common.{◌≡◌, ℕ, ◌+◌, ◌==◌, ℤ, ◌<ℤ◌, Bool, true, false, not, ◌&&◌, ◌||◌, cond, Option, None, List, [], ◌∷◌, length, map, refl, sym, ap, ◌∙◌, arith, inl, inr, Less}
use Rattle.std.specs.Int.Signed.{lt_z}
use Rattle.std.specs.List.{All, list_any, filter, sum_by}
use Rattle.std.specs.Ordering.{int_cmp, int_eq, nat_cmp, ordering_then, is_eq}
use Rattle.std.specs.Cmp.Lexicographic.{slice_cmp}
use Rattle.std.proofs.lemmas.Bool.{cases_Bool}
use Rattle.std.proofs.lemmas.Bool.Decides.{Decides-int_eq}
use Rattle.std.proofs.lemmas.Int.{ints}
use Rattle.std.proofs.lemmas.List.Elements.{All-filter, All-head, filter_agree}
use Rattle.std.proofs.lemmas.List.Kept.{AllPairs-filter}
use Rattle.sky_math.specs.Night.{night_at}
use Rattle.miti_text.specs.Observation.{Observation}
use Rattle.exposure_log.specs.declared.numbered.NumberedExposure.{NumberedExposure}
use Rattle.number_register.specs.Numbering.{slot, count_held}
use Rattle.exposure_log.specs.Held.{HeldExposure, stands_at, without_exposure, from_night}
use Rattle.exposure_log.specs.Numbered.{numbered_cmp, IsNumbered, AreListed, RiseStrictly, exposure_of}
use Rattle.number_register.specs.Numbering.{without_numbers}
use Rattle.exposure_log.specs.Nights.{is_of_night}
use Rattle.exposure_log.proofs.AtPlace.{at_place}
use Rattle.exposure_log.proofs.Forgetting.{in_some}
use Rattle.exposure_log.proofs.Leaving.{exposures_left, listed_left, gone, stays}
use Rattle.exposure_log.proofs.Searching.{any_map, filter_all, filter_map_is, filter_none_out, filter_within}

abbrev Slots : Type 0
Slots = List (Option Observation)

twice_not : (b : Bool) → not (not b) ≡ b
twice_not true = refl
twice_not false = refl

-- the exposures that a test lets out, where the others stay
let_out : (p : NumberedExposure → Bool) (listed out : List NumberedExposure) → out ≡ filter p listed → filter (λ g. not (not (p g))) listed ≡ out
let_out p listed out is = filter_agree (λ (g : NumberedExposure). not (not (p g))) p (λ g. twice_not (p g)) listed ∙ sym is

any_filtered : (p q : NumberedExposure → Bool) (listed : List NumberedExposure) → list_any (λ g. p g && q g) listed ≡ list_any q (filter p listed)
any_filtered p q [] = refl
any_filtered p q (g ∷ gs) = elim (cases_Bool (p g)) [
  | inl y ↦ rw (y, any_filtered p q gs) refl
  | inr f ↦ rw (f, any_filtered p q gs) refl
]

module _ (slots slots' : Slots) (listed : List NumberedExposure) (keep : ℤ → List ℕ → Bool) (a : AreListed slots listed) (out : List NumberedExposure) (is : filter (λ g. not (stays keep g)) listed ≡ out)
    (at : (n : ℕ) → slot slots' n ≡ cond (in_some out n) None (slot slots n)) where
  says : (n : ℕ) → slot slots' n ≡ cond (gone keep listed n) None (slot slots n)
  says n =
      let same : gone keep listed n ≡ in_some out n = any_filtered (λ g. not (stays keep g)) (λ g. list_any (λ k. k == n) g.numbers.items) listed ∙ ap (λ (gs : List NumberedExposure). in_some gs n) is in
      at n ∙ ap (λ (b : Bool). cond b None (slot slots n)) (sym same)

  pub exposures_without : map (exposure_of slots') (filter (stays keep) listed) ≡ filter (λ x. keep x.epoch x.site) (map (exposure_of slots) listed)
  exposures_without = exposures_left slots slots' listed keep a says

  pub listed_without : count_held slots' + sum_by (λ g. length g.numbers.items) out ≡ count_held slots → AreListed slots' (filter (stays keep) listed)
  listed_without count = listed_left slots slots' listed keep a says (ap (λ (gs : List NumberedExposure). count_held slots' + sum_by (λ g. length g.numbers.items) gs) is ∙ count)

-- ---- the one exposure of a place

-- the places but one
abbrev pub other : ℤ → List ℕ → ℤ → List ℕ → Bool
other epoch site e s = not (is_eq (ordering_then (int_cmp e epoch) (slice_cmp nat_cmp s site)))

any_none_kept : (p : NumberedExposure → Bool) (listed : List NumberedExposure) → filter p listed ≡ [] → list_any p listed ≡ false
any_none_kept p [] none = refl
any_none_kept p (g ∷ gs) none = elim (cases_Bool (p g)) [
  | inl y ↦ let no : g ∷ filter p gs ≡ [] = rw y at none in cc
  | inr f ↦ let rest : filter p gs ≡ [] = rw f at none in rw f (any_none_kept p gs rest)
]

any_one_kept : (p : NumberedExposure → Bool) (listed : List NumberedExposure) (h : NumberedExposure) (hs : List NumberedExposure) → filter p listed ≡ h ∷ hs → list_any p listed ≡ true
any_one_kept p [] h hs one = cc
any_one_kept p (g ∷ gs) h hs one = elim (cases_Bool (p g)) [
  | inl y ↦ rw y refl
  | inr f ↦ let rest : filter p gs ≡ h ∷ hs = rw f at one in rw f (any_one_kept p gs h hs rest)
]

pub is_not_there : (slots : Slots) (listed : List NumberedExposure) (epoch : ℤ) (site : List ℕ) → filter (at_place epoch site) listed ≡ [] → list_any (stands_at epoch site) (map (exposure_of slots) listed) ≡ false
is_not_there slots listed epoch site none = any_map (stands_at epoch site) (exposure_of slots) listed ∙ any_none_kept (at_place epoch site) listed none

pub no_place_out : (slots : Slots) (listed : List NumberedExposure) (epoch : ℤ) (site : List ℕ) → filter (at_place epoch site) listed ≡ [] → without_exposure epoch site (map (exposure_of slots) listed) ≡ map (exposure_of slots) listed
no_place_out slots listed epoch site none = filter_map_is (λ x. not (stands_at epoch site x)) (exposure_of slots) listed ∙ ap (map (exposure_of slots)) (filter_none_out (at_place epoch site) listed none)

pub is_there : (slots : Slots) (listed : List NumberedExposure) (epoch : ℤ) (site : List ℕ) (g : NumberedExposure) → filter (at_place epoch site) listed ≡ g ∷ [] → list_any (stands_at epoch site) (map (exposure_of slots) listed) ≡ true
is_there slots listed epoch site g one = any_map (stands_at epoch site) (exposure_of slots) listed ∙ any_one_kept (at_place epoch site) listed g [] one

-- what a wider list has, too
pub still_there : (p q : NumberedExposure → Bool) (listed : List NumberedExposure) → list_any p (filter q listed) ≡ true → list_any p listed ≡ true
still_there p q [] h = h
still_there p q (g ∷ gs) h = elim (cases_Bool (p g)) [
  | inl y ↦ rw y refl
  | inr f ↦ elim (cases_Bool (q g)) [
    | inl t ↦ let rest : list_any p (filter q gs) ≡ true = rw (t, f) at h in rw f (still_there p q gs rest)
    | inr n ↦ let rest : list_any p (filter q gs) ≡ true = rw n at h in rw f (still_there p q gs rest)
  ]
]

pub one_numbered : (slots : Slots) (listed : List NumberedExposure) (epoch : ℤ) (site : List ℕ) (g : NumberedExposure) → All (IsNumbered slots) listed → filter (at_place epoch site) listed ≡ g ∷ [] → IsNumbered slots g
one_numbered slots listed epoch site g each one = All-head (IsNumbered slots) g [] (rw one at (All-filter (at_place epoch site) (IsNumbered slots) listed each))

or_nothing : (b : Bool) → (b || false) ≡ b
or_nothing true = refl
or_nothing false = refl

module _ (slots slots' : Slots) (listed : List NumberedExposure) (a : AreListed slots listed) (epoch : ℤ) (site : List ℕ) (g : NumberedExposure) (one : filter (at_place epoch site) listed ≡ g ∷ [])
    (at : slot slots' ≡ without_numbers (slot slots) g.numbers.items) where
  one_says : (n : ℕ) → slot slots' n ≡ cond (in_some (g ∷ []) n) None (slot slots n)
  one_says n = ap (λ (f : ℕ → Option Observation). f n) at ∙ ap (λ (b : Bool). cond b None (slot slots n)) (sym (or_nothing (list_any (λ k. k == n) g.numbers.items)))

  pub exposures_without_place : map (exposure_of slots') (filter (λ x. not (at_place epoch site x)) listed) ≡ without_exposure epoch site (map (exposure_of slots) listed)
  exposures_without_place = exposures_without slots slots' listed (other epoch site) a (g ∷ []) (let_out (at_place epoch site) listed (g ∷ []) (sym one)) one_says

  pub listed_without_place : count_held slots' + length g.numbers.items ≡ count_held slots → AreListed slots' (filter (λ x. not (at_place epoch site x)) listed)
  listed_without_place count = listed_without slots slots' listed (other epoch site) a (g ∷ []) (let_out (at_place epoch site) listed (g ∷ []) (sym one)) one_says (omega (arith, count))

-- ---- the exposures of a night

-- the places of other nights
abbrev other_night : ℤ → ℤ → ℤ → List ℕ → Bool
other_night shift night epoch site = not (int_eq (night_at shift epoch) night)

no_later : (shift first night : ℤ) (x : HeldExposure) → first <ℤ night → not (lt_z (night_at shift x.epoch) night) ≡ true → other_night shift first x.epoch x.site ≡ true
no_later shift first night x less h = elim (cases_Bool (int_eq (night_at shift x.epoch) first)) [
  | inl y ↦
      let same = (Decides-int_eq (night_at shift x.epoch) first).0 y in
      let before : lt_z (night_at shift x.epoch) night ≡ true = under (night_at shift x.epoch) night (rw same less) in
      let no : not (lt_z (night_at shift x.epoch) night) ≡ false = ap not before in
      cc
  | inr f ↦ ap not f
]
  where
    under : (a b : ℤ) → a <ℤ b → lt_z a b ≡ true
    under a b h = grind (arith, ints)

pub night_rises : (shift night : ℤ) (listed out : List NumberedExposure) → out ≡ filter (is_of_night shift night) listed → RiseStrictly listed → RiseStrictly out
night_rises shift night listed out is rise = rw is (AllPairs-filter (λ (g h : NumberedExposure). numbered_cmp h.epoch h.site g ≡ Less) (is_of_night shift night) listed rise)

pub night_listed : (slots : Slots) (shift night : ℤ) (listed out : List NumberedExposure) → out ≡ filter (is_of_night shift night) listed → All (IsNumbered slots) listed → All (IsNumbered slots) out
night_listed slots shift night listed out is each = rw is (All-filter (is_of_night shift night) (IsNumbered slots) listed each)

module _ (slots slots' : Slots) (listed : List NumberedExposure) (a : AreListed slots listed) (shift first : ℤ) (out : List NumberedExposure) (is : out ≡ filter (is_of_night shift first) listed)
    (at : (n : ℕ) → slot slots' n ≡ cond (in_some out n) None (slot slots n)) where
  pub listed_without_night : count_held slots' + sum_by (λ g. length g.numbers.items) out ≡ count_held slots → AreListed slots' (filter (λ g. not (is_of_night shift first g)) listed)
  listed_without_night count = listed_without slots slots' listed (other_night shift first) a out (let_out (is_of_night shift first) listed out is) at count

  -- from a later night on all stays
  pub later_exposures : (night shift' : ℤ) → shift ≡ shift' → first <ℤ night → from_night shift' night (map (exposure_of slots') (filter (λ g. not (is_of_night shift first g)) listed)) ≡ from_night shift' night (map (exposure_of slots) listed)
  later_exposures night shift' same less =
      rw (← same) (ap (from_night shift night) (exposures_without slots slots' listed (other_night shift first) a out (let_out (is_of_night shift first) listed out is) at)
      ∙ filter_within (λ (x : HeldExposure). not (lt_z (night_at shift x.epoch) night)) (λ (x : HeldExposure). other_night shift first x.epoch x.site) (map (exposure_of slots) listed) (λ x h. no_later shift first night x less h))

-- where no exposure lies before a night, none is forgotten
pub all_from_night : (slots : Slots) (shift night : ℤ) (listed : List NumberedExposure) → All (λ g. lt_z (night_at shift g.epoch) night ≡ false) listed → map (exposure_of slots) listed ≡ from_night shift night (map (exposure_of slots) listed)
all_from_night slots shift night listed none =
    sym (filter_map_is (λ (x : HeldExposure). not (lt_z (night_at shift x.epoch) night)) (exposure_of slots) listed
    ∙ ap (map (exposure_of slots)) (filter_all (λ (g : NumberedExposure). not (lt_z (night_at shift g.epoch) night)) listed (λ k d h. ap not (none k d h))))
