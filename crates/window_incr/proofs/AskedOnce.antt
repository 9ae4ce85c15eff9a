-- A state has one answer to asked ids.
use Rattle.std.proofs.Common.{◌≡◌, ℕ, ◌+◌, ◌<◌, ◌≤◌, pos, Bool, true, false, Option, Some, None, Result, Ok, Err, List, [], ◌∷◌, length, get_or, refl, sym, ap, ap₂, ◌∙◌, subst, arith}
use Rattle.std.specs.Prelude.{slice_index_or}
use Rattle.std.specs.Cmp.Lexicographic.{slice_cmp}
use Rattle.std.specs.Ordering.{nat_cmp, ordering_reverse}
use Rattle.std.specs.declared.cmp.Ordering.{Ordering}
use Rattle.std.specs.declared.cmp.Ordering.TheVariants.{Less, Equal, Greater}
use Rattle.std.proofs.lemmas.Bool.{cases_order}
use Rattle.std.proofs.lemmas.Cmp.{nat_list_cmp_total}
use Rattle.std.proofs.lemmas.Map.Lookups.{exact_bytes}
use mathlib.Core.Logic.{◌⊎◌, inl, inr}
use Rattle.refusal_cert.specs.Certificates.{AreFirstRefused, IsCertificate, IsFirstRefused, AdmitsAt, numbers_at}
use Rattle.sky_units.specs.Arcs.{AreNear}
use Rattle.sky_units.specs.Faults.{AreApart, IsFirstFault}
use Rattle.sky_units.specs.SettingsData.{SettingsData}
use Rattle.sky_units.specs.SpotData.{SpotData}
use Rattle.sky_units.specs.TrackletData.{TrackSetData, spots_of}
use Rattle.sky_units.specs.declared.ask_errors.AskError.{AskError}
use Rattle.sky_units.specs.declared.ask_errors.AskError.TheVariants.{Unknown, Twice}
use Rattle.sky_units.specs.declared.asked.Asked.{Asked}
use Rattle.sky_units.specs.declared.asked.Asked.TheVariants.{Listed, Inside, NotTracklet, FewNights, Spread, Misfit}
use Rattle.sky_units.specs.declared.axis.Axis.{Axis}
use Rattle.sky_units.specs.declared.axis.Axis.TheVariants.{Ra, Dec}
use Rattle.sky_units.specs.declared.certificates.Cert.{Cert}
use Rattle.sky_units.specs.declared.certificates.Cert.TheVariants.{Three, Four}
use Rattle.window_incr.specs.Asked.{FirstCase, IsAsked, IsAskedFit, IsAskedSpread, IsAskedTrack, IsSpreadFault, asked_set, few_nights, first_repeated, first_unknown, first_untracked, labels, misfit, number_around, number_of_track, placed}
use Rattle.window_incr.specs.LinkerState.{LinkerState}
use Rattle.window_incr.proofs.Agreement.{lists_agree}

-- ---- the first fault
apart_not_near : (axis : Axis) (a b : SpotData) → AreApart axis a b → AreNear Ra a b × AreNear Dec a b → ⊥
apart_not_near Ra a b h n = h n.0
apart_not_near Dec a b h n = h.1 n.1

one_axis : (axis other : Axis) (a b : SpotData) → AreApart axis a b → AreApart other a b → axis ≡ other
one_axis Ra Ra a b h k = refl
one_axis Ra Dec a b h k = absurd (h k.0)
one_axis Dec Ra a b h k = absurd (k h.0)
one_axis Dec Dec a b h k = refl

abbrev some : SpotData
some = record { num = 0; epoch = pos 0; ra = pos 0; dec = pos 0 }

not_before : (spots : List SpotData) (axis other : Axis) (a b m n : ℕ) (f : IsFirstFault spots axis a b) (g : IsFirstFault spots other m n) → (f.left < g.left) ⊎ ((f.left ≡ g.left) × (f.right < g.right)) → ⊥
not_before spots axis other a b m n f g before =
    apart_not_near axis (slice_index_or spots f.left some) (slice_index_or spots f.right some) (f.apart some) (g.near_before f.left f.right some f.rising f.within before)

same_places : (spots : List SpotData) (axis other : Axis) (a b m n : ℕ) (f : IsFirstFault spots axis a b) (g : IsFirstFault spots other m n) → (f.left ≡ g.left) × (f.right ≡ g.right)
same_places spots axis other a b m n f g = elim (cases_order f.left g.left) [
  | inl e ↦ elim (cases_order f.right g.right) [
    | inl r ↦ (e, r)
    | inr c ↦ elim c [
      | inl l ↦ absurd (not_before spots axis other a b m n f g (inr (e, l)))
      | inr l ↦ absurd (not_before spots other axis m n a b g f (inr (sym e, l)))
    ]
  ]
  | inr c ↦ elim c [
    | inl l ↦ absurd (not_before spots axis other a b m n f g (inl l))
    | inr l ↦ absurd (not_before spots other axis m n a b g f (inl l))
  ]
]

one_fault : (spots : List SpotData) (axis other : Axis) (a b m n : ℕ) → IsFirstFault spots axis a b → IsFirstFault spots other m n → (axis ≡ other) × (a ≡ m) × (b ≡ n)
one_fault spots axis other a b m n f g =
    let same = same_places spots axis other a b m n f g in
    let apart : AreApart axis (slice_index_or spots g.left some) (slice_index_or spots g.right some) = rw (← same.0, ← same.1) (f.apart some) in (
      one_axis axis other (slice_index_or spots g.left some) (slice_index_or spots g.right some) apart (g.apart some),
      f.first_number some ∙ (ap (λ (k : ℕ). (slice_index_or spots k some).num) same.0 ∙ sym (g.first_number some)),
      f.second_number some ∙ (ap (λ (k : ℕ). (slice_index_or spots k some).num) same.1 ∙ sym (g.second_number some)),
    )

fault_once : (spots : List SpotData) (one other : Option (Axis × ℕ × ℕ)) → IsSpreadFault spots one → IsSpreadFault spots other → one ≡ other
fault_once spots None None a b = refl
fault_once spots None (Some g) a b = absurd (apart_not_near g.0 (slice_index_or spots b.left some) (slice_index_or spots b.right some) (b.apart some) (a b.left b.right some b.rising b.within))
fault_once spots (Some f) None a b = absurd (apart_not_near f.0 (slice_index_or spots a.left some) (slice_index_or spots a.right some) (a.apart some) (b a.left a.right some a.rising a.within))
fault_once spots (Some f) (Some g) a b =
    let same = one_fault spots f.0 g.0 f.1 f.2 g.1 g.2 a b in
    ap₂ (λ (axis : Axis) (places : ℕ × ℕ). Some (axis, places.0, places.1)) same.0 (ap₂ (λ (m n : ℕ). (m, n)) same.1 same.2)

-- ---- the certificate
places_once : (IsAdmitted : List ℕ → Type 0) (n count : ℕ) (one other : List ℕ) → IsFirstRefused IsAdmitted 0 n count one → IsFirstRefused IsAdmitted 0 n count other → one ≡ other
places_once IsAdmitted n count one other f g = by (slice_cmp nat_cmp one other) refl
  where
    by : (o : Ordering) → slice_cmp nat_cmp one other ≡ o → one ≡ other
    by Less e = absurd (f.refused (g.first one f.choice e))
    by Equal e = exact_bytes one other e
    by Greater e = absurd (g.refused (f.first other g.choice (nat_list_cmp_total.antisymm other one ∙ ap ordering_reverse e)))

numbers_once : (count : ℕ) (axis : Axis) (settings : SettingsData) (spots : List SpotData) (one other : List ℕ) → AreFirstRefused count axis settings spots one → AreFirstRefused count axis settings spots other → one ≡ other
numbers_once count axis settings spots one other f g =
    f.2 ∙ (ap (numbers_at spots) (places_once (AdmitsAt axis settings spots) (length spots) count f.0 g.0 f.1 g.1) ∙ sym g.2)

cert_once : (axis : Axis) (settings : SettingsData) (spots : List SpotData) (one other : Option Cert) → IsCertificate axis settings spots one → IsCertificate axis settings spots other → one ≡ other
cert_once axis settings spots None None a b = refl
cert_once axis settings spots None (Some (Three n)) a b = absurd (b.1.refused (a.0 b.0 b.1.choice))
cert_once axis settings spots None (Some (Four n)) a b = absurd (b.1.1.refused (a.1 b.1.0 b.1.1.choice))
cert_once axis settings spots (Some (Three n)) None a b = absurd (a.1.refused (b.0 a.0 a.1.choice))
cert_once axis settings spots (Some (Four n)) None a b = absurd (a.1.1.refused (b.1 a.1.0 a.1.1.choice))
cert_once axis settings spots (Some (Three n)) (Some (Four m)) a b = absurd (a.1.refused (b.0 a.0 a.1.choice))
cert_once axis settings spots (Some (Four n)) (Some (Three m)) a b = absurd (b.1.refused (a.0 b.0 b.1.choice))
cert_once axis settings spots (Some (Three n)) (Some (Three m)) a b = ap (λ (k : List ℕ). Some (Three k)) (numbers_once 3 axis settings spots n m a b)
cert_once axis settings spots (Some (Four n)) (Some (Four m)) a b = ap (λ (k : List ℕ). Some (Four k)) (numbers_once 4 axis settings spots n m a.1 b.1)

-- ---- the cases
abbrev pub Answer : Type 0
Answer = Result Asked AskError

-- one case leads to one answer, and so does what comes later
case_once : {X : Type 0} (o : Option X) (answer_of : X → Answer) (later : Answer → Type 0) → ((one other : Answer) → later one → later other → one ≡ other) → (one other : Answer)
    → FirstCase o (λ x. one ≡ answer_of x) (later one) → FirstCase o (λ x. other ≡ answer_of x) (later other) → one ≡ other
case_once (Some x) answer_of later rest one other a b = a ∙ sym b
case_once None answer_of later rest one other a b = rest one other a b

track_once : (s : LinkerState) (numbers : List ℕ) (one other : Answer) → IsAskedTrack s numbers one → IsAskedTrack s numbers other → one ≡ other
track_once s numbers one other a b =
    let lists : a.0 ≡ b.0 = lists_agree s a.0 b.0 a.1 b.1 in
    let same = subst (λ (list : List TrackSetData). FirstCase (number_of_track list numbers) (λ k. one ≡ Ok (Listed k)) (FirstCase (number_around list numbers) (λ k. one ≡ Ok (Inside k)) ⊥)) lists a.2 in
    case_once (number_of_track b.0 numbers) (λ k. Ok (Listed k)) (λ answer. FirstCase (number_around b.0 numbers) (λ k. answer ≡ Ok (Inside k)) ⊥)
    (λ p q c d. case_once (number_around b.0 numbers) (λ k. Ok (Inside k)) (λ answer. ⊥) (λ u v x y. absurd x) p q c d) one other same b.2

fit_once : (s : LinkerState) (ids : List (List ℕ)) (one other : Answer) → IsAskedFit s ids one → IsAskedFit s ids other → one ≡ other
fit_once s ids one other a b =
    let spots : List SpotData = placed s.log ids in
    let numbers : List ℕ = labels (spots_of (asked_set s.log ids)) in
    let ra : a.0 ≡ b.0 = cert_once Ra s.settings spots a.0 b.0 a.2.certificate b.2.certificate in
    let dec : a.1 ≡ b.1 = cert_once Dec s.settings spots a.1 b.1 a.3.certificate b.3.certificate in
    let same = subst (λ (c : Option Cert). FirstCase (misfit c b.1) (λ shown. one ≡ Ok (Misfit shown.0 shown.1)) (IsAskedTrack s numbers one)) ra
    (subst (λ (c : Option Cert). FirstCase (misfit a.0 c) (λ shown. one ≡ Ok (Misfit shown.0 shown.1)) (IsAskedTrack s numbers one)) dec a.4) in
    case_once (misfit b.0 b.1) (λ shown. Ok (Misfit shown.0 shown.1)) (IsAskedTrack s numbers) (track_once s numbers) one other same b.4

spread_once : (s : LinkerState) (ids : List (List ℕ)) (one other : Answer) → IsAskedSpread s ids one → IsAskedSpread s ids other → one ≡ other
spread_once s ids one other a b =
    let faults : a.0 ≡ b.0 = fault_once (placed s.log ids) a.0 b.0 a.1 b.1 in
    let same = subst (λ (fault : Option (Axis × ℕ × ℕ)). FirstCase fault (λ f. one ≡ Ok (Spread f.0 f.1 f.2)) (IsAskedFit s ids one)) faults a.2 in
    case_once b.0 (λ f. Ok (Spread f.0 f.1 f.2)) (IsAskedFit s ids) (fit_once s ids) one other same b.2

-- what is left behind each case of the ids
abbrev pub OfNights : LinkerState → List (List ℕ) → Answer → Type 0
OfNights s ids answer = FirstCase (few_nights (asked_set s.log ids)) (λ n. answer ≡ Ok (FewNights n)) (IsAskedSpread s ids answer)

abbrev pub OfTracklets : LinkerState → List (List ℕ) → Answer → Type 0
OfTracklets s ids answer = FirstCase (first_untracked s ids) (λ night. answer ≡ Ok (NotTracklet night)) (OfNights s ids answer)

abbrev pub OfHeld : LinkerState → List (List ℕ) → Answer → Type 0
OfHeld s ids answer = FirstCase (first_repeated ids) (λ place. answer ≡ Err (Twice place)) (OfTracklets s ids answer)

nights_once : (s : LinkerState) (ids : List (List ℕ)) (one other : Answer) → OfNights s ids one → OfNights s ids other → one ≡ other
nights_once s ids one other a b = case_once (few_nights (asked_set s.log ids)) (λ n. Ok (FewNights n)) (IsAskedSpread s ids) (spread_once s ids) one other a b

tracklets_once : (s : LinkerState) (ids : List (List ℕ)) (one other : Answer) → OfTracklets s ids one → OfTracklets s ids other → one ≡ other
tracklets_once s ids one other a b = case_once (first_untracked s ids) (λ night. Ok (NotTracklet night)) (OfNights s ids) (nights_once s ids) one other a b

held_once : (s : LinkerState) (ids : List (List ℕ)) (one other : Answer) → OfHeld s ids one → OfHeld s ids other → one ≡ other
held_once s ids one other a b = case_once (first_repeated ids) (λ place. Err (Twice place)) (OfTracklets s ids) (tracklets_once s ids) one other a b

pub asked_once : (s : LinkerState) (ids : List (List ℕ)) (one other : Answer) → IsAsked s ids one → IsAsked s ids other → one ≡ other
asked_once s ids one other a b = case_once (first_unknown s.log ids) (λ place. Err (Unknown place)) (OfHeld s ids) (held_once s ids) one other a b
