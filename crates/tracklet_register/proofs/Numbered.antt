-- Tracklets with the numbers that stand in the same order.
use Rattle.std.proofs.Common.{◌≡◌, ℕ, zero, suc, Some, List, [], ◌∷◌, ◌++◌, inl, inr, length, refl, sym, subst, ap, ◌∙◌, arith}
use Rattle.std.proofs.lemmas.List.Elements.{All-contains}
use Rattle.std.proofs.lemmas.Option.{slice_get_within}
use Rattle.std.specs.List.{Contains, slice_get}
use Rattle.sky_units.specs.TrackletData.{NightTracklets, TrackletData}
use Rattle.set_grow.proofs.Members.{each_two_head, each_two_tail, front_or_rest, in_front, in_none, in_rest}
use Rattle.set_grow.specs.Nights.{numbered_by}
use Rattle.set_grow.specs.Numbered.{NumberedTracklet, NumberedTracklets, without_numbers}
use Rattle.tracklet_register.specs.Replacing.{AreDifferent}

abbrev pub with_number : ℕ → TrackletData → NumberedTracklet
with_number number tracklet = record { num = number; tracklet = tracklet }

pub numbered_push : (numbers : List ℕ) (tracklets : NightTracklets) (number : ℕ) (tracklet : TrackletData) → length numbers ≡ length tracklets
    → numbered_by (numbers ++ number ∷ []) (tracklets ++ tracklet ∷ []) ≡ numbered_by numbers tracklets ++ with_number number tracklet ∷ []
numbered_push [] [] number tracklet e = refl
numbered_push [] (t ∷ tracklets) number tracklet e = absurd (omega (arith, e))
numbered_push (n ∷ numbers) [] number tracklet e = absurd (omega (arith, e))
numbered_push (n ∷ numbers) (t ∷ tracklets) number tracklet e = ap (λ (rest : NumberedTracklets). with_number n t ∷ rest) (numbered_push numbers tracklets number tracklet (omega (arith, e)))

pub tracklets_are : (numbers : List ℕ) (tracklets : NightTracklets) → length numbers ≡ length tracklets → without_numbers (numbered_by numbers tracklets) ≡ tracklets
tracklets_are [] [] e = refl
tracklets_are [] (t ∷ tracklets) e = absurd (omega (arith, e))
tracklets_are (n ∷ numbers) [] e = absurd (omega (arith, e))
tracklets_are (n ∷ numbers) (t ∷ tracklets) e = ap (λ (rest : List TrackletData). t ∷ rest) (tracklets_are numbers tracklets (omega (arith, e)))

-- a number is that of a tracklet
pub has_tracklet : (numbers : List ℕ) (tracklets : NightTracklets) (number : ℕ) → length numbers ≡ length tracklets → Contains numbers number
    → (tracklet : TrackletData) × Contains (numbered_by numbers tracklets) (with_number number tracklet)
has_tracklet [] tracklets number e c = absurd (in_none number c)
has_tracklet (n ∷ numbers) [] number e c = absurd (omega (arith, e))
has_tracklet (n ∷ numbers) (t ∷ tracklets) number e c = elim (front_or_rest n numbers number c) [
  | inl s ↦ (t, subst (λ x. Contains (with_number n t ∷ numbered_by numbers tracklets) (with_number x t)) s (in_front (with_number n t) (numbered_by numbers tracklets)))
  | inr d ↦
      let w = has_tracklet numbers tracklets number (omega (arith, e)) d in
      (w.0, in_rest (with_number n t) (numbered_by numbers tracklets) (with_number number w.0) w.1)
]

-- the number and the tracklet of a numbered one
pub has_both : (numbers : List ℕ) (tracklets : NightTracklets) (one : NumberedTracklet) → Contains (numbered_by numbers tracklets) one → Contains numbers one.num × Contains tracklets one.tracklet
has_both [] tracklets one c = absurd (in_none one c)
has_both (n ∷ numbers) [] one c = absurd (in_none one c)
has_both (n ∷ numbers) (t ∷ tracklets) one c = elim (front_or_rest (with_number n t) (numbered_by numbers tracklets) one c) [
  | inl s ↦ (
    subst (λ (o : NumberedTracklet). Contains (n ∷ numbers) o.num) s (in_front n numbers),
    subst (λ (o : NumberedTracklet). Contains (t ∷ tracklets) o.tracklet) s (in_front t tracklets),
  )
  | inr d ↦ (let w = has_both numbers tracklets one d in (in_rest n numbers one.num w.0, in_rest t tracklets one.tracklet w.1))
]

-- ---- places
pub both_there : (numbers : List ℕ) (tracklets : NightTracklets) (place number : ℕ) (tracklet : TrackletData) → slice_get numbers place ≡ Some number → slice_get tracklets place ≡ Some tracklet
    → slice_get (numbered_by numbers tracklets) place ≡ Some (with_number number tracklet)
both_there [] tracklets place number tracklet e f = (let l = slice_get_within [] place number e in absurd (omega (arith, l)))
both_there (n ∷ numbers) [] place number tracklet e f = (let l = slice_get_within [] place tracklet f in absurd (omega (arith, l)))
both_there (n ∷ numbers) (t ∷ tracklets) zero number tracklet e f =
    let same : n ≡ number = some_same n number e in
    let is : t ≡ tracklet = some_same t tracklet f in
    ap (λ x. Some (with_number x t)) same ∙ ap (λ u. Some (with_number number u)) is
  where
    some_same : {X : Type 0} → (x y : X) → Some x ≡ Some y → x ≡ y
    some_same x y e = cc
both_there (n ∷ numbers) (t ∷ tracklets) (suc place) number tracklet e f = both_there numbers tracklets place number tracklet e f

pub number_there : (numbers : List ℕ) (tracklets : NightTracklets) (place : ℕ) (one : NumberedTracklet) → slice_get (numbered_by numbers tracklets) place ≡ Some one → slice_get numbers place ≡ Some one.num
number_there [] tracklets place one e = (let l = slice_get_within [] place one e in absurd (omega (arith, l)))
number_there (n ∷ numbers) [] place one e = (let l = slice_get_within [] place one e in absurd (omega (arith, l)))
number_there (n ∷ numbers) (t ∷ tracklets) zero one e = (let same : with_number n t ≡ one = cc in ap (λ (o : NumberedTracklet). Some o.num) same)
number_there (n ∷ numbers) (t ∷ tracklets) (suc place) one e = number_there numbers tracklets place one e

-- ---- different numbers tell their tracklets
pub tells : (numbers : List ℕ) (tracklets : NightTracklets) (one other : NumberedTracklet) → AreDifferent numbers → Contains (numbered_by numbers tracklets) one → Contains (numbered_by numbers tracklets) other → one.num ≡ other.num → one ≡ other
tells [] tracklets one other a c d e = absurd (in_none one c)
tells (n ∷ numbers) [] one other a c d e = absurd (in_none one c)
tells (n ∷ numbers) (t ∷ tracklets) one other a c d e = elim (front_or_rest (with_number n t) (numbered_by numbers tracklets) one c) [
  | inl s ↦ elim (front_or_rest (with_number n t) (numbered_by numbers tracklets) other d) [
    | inl r ↦ sym s ∙ r
    | inr k ↦ absurd (isnt_later n numbers tracklets other a k (ap (λ (o : NumberedTracklet). o.num) s ∙ e))
  ]
  | inr j ↦ elim (front_or_rest (with_number n t) (numbered_by numbers tracklets) other d) [
    | inl r ↦ absurd (isnt_later n numbers tracklets one a j (ap (λ (o : NumberedTracklet). o.num) r ∙ sym e))
    | inr k ↦ tells numbers tracklets one other (each_two_tail (λ x y. x ≡ y → ⊥) n numbers a) j k e
  ]
]
  where
    isnt_later : (n : ℕ) (numbers : List ℕ) (tracklets : NightTracklets) (one : NumberedTracklet) → AreDifferent (n ∷ numbers) → Contains (numbered_by numbers tracklets) one → n ≡ one.num → ⊥
    isnt_later n numbers tracklets one a c e = All-contains (λ y. n ≡ y → ⊥) numbers one.num (each_two_head (λ x y. x ≡ y → ⊥) n numbers a) (has_both numbers tracklets one c).0 e
