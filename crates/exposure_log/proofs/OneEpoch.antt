-- Exposures in order are all of one epoch where the first and the last are.
use Rattle.std.proofs.Common.{◌≡◌, ℕ, ◌-◌, ◌<◌, ◌≤◌, ℤ, ◌≤ℤ◌, ◌<ℤ◌, Option, List, [], ◌∷◌, ◌↔◌, length, get_or, map, refl, subst, sym, ap, ◌∙◌, inl, inr, arith}
use Rattle.std.specs.List.{filter}
use Rattle.std.specs.Ordering.{int_cmp, int_eq, nat_cmp, ordering_then, MatchOrdering}
use Rattle.std.specs.Cmp.Lexicographic.{slice_cmp}
use Rattle.std.specs.declared.cmp.Ordering.{Ordering}
use Rattle.std.specs.declared.cmp.Ordering.TheVariants.{Less, Equal, Greater}
use Rattle.std.proofs.lemmas.Bool.{cases_order}
use Rattle.std.proofs.lemmas.Cmp.{int_ranked}
use Rattle.std.proofs.lemmas.Int.{ints}
use Rattle.std.proofs.lemmas.List.{get_or-map, get_or_read, length-map}
use Rattle.sky_math.specs.Lists.{EachTwo}
use Rattle.sky_math.specs.Night.{night_at}
use Rattle.miti_text.specs.Observation.{Observation}
use Rattle.exposure_log.specs.declared.numbered.NumberedExposure.{NumberedExposure}
use Rattle.exposure_log.specs.Held.{HeldExposure, of_night}
use Rattle.exposure_log.specs.Nights.{is_of_night}
use Rattle.exposure_log.specs.Numbered.{exposure_of, numbered_cmp, RiseStrictly}
use Rattle.exposure_log.proofs.Searching.{filter_map_is}

abbrev pub SameEpoch : NumberedExposure → NumberedExposure → Type 0
SameEpoch g h = g.epoch ≡ h.epoch

not_later : (a b : ℤ) (o s : Ordering) → MatchOrdering o (a <ℤ b) (a ≡ b) (b <ℤ a) → ordering_then o s ≡ Less → a ≤ℤ b
not_later a b Less s m h = omega (arith, ints, m)
not_later a b Equal s m h = omega (arith, ints, m)
not_later a b Greater s m h = absurd (cc)

next_no_earlier : (g h : NumberedExposure) → numbered_cmp h.epoch h.site g ≡ Less → g.epoch ≤ℤ h.epoch
next_no_earlier g h e = not_later g.epoch h.epoch (int_cmp g.epoch h.epoch) (slice_cmp nat_cmp g.site h.site) (int_ranked g.epoch h.epoch (int_cmp g.epoch h.epoch) refl) e

dont_fall : (listed : List NumberedExposure) (i j : ℕ) (g : NumberedExposure) → RiseStrictly listed → i ≤ j → j < length listed → (get_or listed i g).epoch ≤ℤ (get_or listed j g).epoch
dont_fall listed i j g rise le within = elim (cases_order i j) [
  | inl same ↦ rw same (omega (arith, ints))
  | inr (inl less) ↦ next_no_earlier (get_or listed i g) (get_or listed j g) (rise i j g less within)
  | inr (inr more) ↦ absurd (omega arith)
]

pub by_ends : (listed : List NumberedExposure) (first last : NumberedExposure) → RiseStrictly listed → 0 < length listed → first ≡ get_or listed 0 first → last ≡ get_or listed (length listed - 1) last → first.epoch ≡ last.epoch → EachTwo SameEpoch listed
by_ends listed first last rise some first_is last_is e = λ i j d ij jn.
    let one : first ≡ get_or listed 0 d = get_or_read listed 0 first some first_is d in
    let other : last ≡ get_or listed (length listed - 1) d = get_or_read listed (length listed - 1) last (omega arith) last_is d in
    let between : (get_or listed 0 d).epoch ≡ (get_or listed (length listed - 1) d).epoch = rw (← one, ← other) e in
    let from = dont_fall listed 0 i d rise (omega arith) (omega arith) in
    let up = dont_fall listed i j d rise (omega arith) jn in
    let to = dont_fall listed j (length listed - 1) d rise (omega arith) (omega arith) in
    omega (arith, ints, between, from, up, to)

pub ends_agree : (listed : List NumberedExposure) (first last : NumberedExposure) → 0 < length listed → first ≡ get_or listed 0 first → last ≡ get_or listed (length listed - 1) last → EachTwo SameEpoch listed → first.epoch ≡ last.epoch
ends_agree listed first last some first_is last_is same =
    let other : last ≡ get_or listed (length listed - 1) first = get_or_read listed (length listed - 1) last (omega arith) last_is first in
    elim (cases_order 0 (length listed - 1)) [
      | inl e ↦ ap (λ (g : NumberedExposure). g.epoch) (first_is ∙ (ap (λ (k : ℕ). get_or listed k first) e ∙ sym other))
      | inr (inl less) ↦ ap (λ (g : NumberedExposure). g.epoch) first_is ∙ (same 0 (length listed - 1) first less (omega arith) ∙ ap (λ (g : NumberedExposure). g.epoch) (sym other))
      | inr (inr more) ↦ absurd (omega arith)
    ]

pub none_differ : (listed : List NumberedExposure) → length listed ≡ 0 → EachTwo SameEpoch listed
none_differ listed none = λ i j d ij jn. absurd (omega arith)

-- ---- the held exposures that these are
abbrev SameHeld : HeldExposure → HeldExposure → Type 0
SameHeld x y = x.epoch ≡ y.epoch

module _ (slots : List (Option Observation)) where
  held_too : (xs : List NumberedExposure) → EachTwo SameEpoch xs → EachTwo SameHeld (map (exposure_of slots) xs)
  held_too [] h = λ i j d ij jn. absurd (omega arith)
  held_too (g ∷ gs) h = λ i j d ij jn.
      let within : j < length (g ∷ gs) = omega (arith, jn, length-map (g ∷ gs) (exposure_of slots)) in
      let one = ap (λ (x : HeldExposure). x.epoch) (get_or-map (exposure_of slots) (g ∷ gs) i g d (omega arith)) in
      let other = ap (λ (x : HeldExposure). x.epoch) (get_or-map (exposure_of slots) (g ∷ gs) j g d within) in
      one ∙ (h i j g ij within ∙ sym other)

  listed_too : (xs : List NumberedExposure) → EachTwo SameHeld (map (exposure_of slots) xs) → EachTwo SameEpoch xs
  listed_too xs h = λ i j g ij jn.
      let within : j < length (map (exposure_of slots) xs) = omega (arith, jn, length-map xs (exposure_of slots)) in
      let one = ap (λ (x : HeldExposure). x.epoch) (get_or-map (exposure_of slots) xs i g (exposure_of slots g) (omega arith)) in
      let other = ap (λ (x : HeldExposure). x.epoch) (get_or-map (exposure_of slots) xs j g (exposure_of slots g) jn) in
      sym one ∙ (h i j (exposure_of slots g) ij within ∙ other)

  pub night_is_of_one : (shift night : ℤ) (listed here : List NumberedExposure) → here ≡ filter (is_of_night shift night) listed → EachTwo SameEpoch here ↔ EachTwo SameHeld (of_night shift night (map (exposure_of slots) listed))
  night_is_of_one shift night listed here is =
      let same : of_night shift night (map (exposure_of slots) listed) ≡ map (exposure_of slots) here = filter_map_is (λ x. int_eq (night_at shift x.epoch) night) (exposure_of slots) listed ∙ ap (map (exposure_of slots)) (sym is) in
      (λ h. subst (EachTwo SameHeld) (sym same) (held_too here h), λ h. listed_too here (subst (EachTwo SameHeld) same h))
