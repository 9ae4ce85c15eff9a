-- Spots have a first fault or meet the spread rule, and each axis has a certificate or admits them.
use Rattle.std.proofs.Common.{◌≡◌, ℕ, zero, suc, ◌+◌, ◌-◌, ◌*ℤ◌, ◌<◌, ◌≤◌, pos, ℤ, ◌-ℤ◌, ◌<ℤ◌, Option, Some, None, List, [], ◌∷◌, length, map, get_or, refl, sym, ap, ◌∙◌, subst, arith}
use Rattle.std.specs.Prelude.{neg_ℤ, slice_index_or}
use Rattle.std.proofs.lemmas.Bool.{cases_eq, cases_lt}
use Rattle.std.proofs.lemmas.Int.{by_lt_z, ints}
use Rattle.std.proofs.lemmas.List.{get_or_default, get_or-map, length-map}
use Rattle.std.proofs.lemmas.List.Elements.{All-map}
use Rattle.std.proofs.lemmas.Simd.{map-map}
use Rattle.std.specs.List.{All}
use Rattle.std.specs.declared.cmp.Ordering.TheVariants.{Less, Equal}
use mathlib.Core.Logic.{◌⊎◌, inl, inr}
use borrow.Author.Differences.{same_in, product_is}
use Rattle.sky_math.specs.Quadratics.{Admits, Passes, Point, Quadratic}
use Rattle.quad_fit.proofs.Decided.{fits_or_not}
use Rattle.refusal_cert.specs.Certificates.{AdmitsAt, AllAdmitted, ComesBefore, ArePlaces, IsChoice, IsFirstRefused, numbers_at}
use Rattle.refusal_cert.proofs.Certifying.{not_all}
use Rattle.refusal_cert.proofs.Places.{arc_at}
use Rattle.refusal_cert.proofs.Searching.{ArePassed, all_passed, first_found, none_passed, one_passed}
use Rattle.refusal_cert.proofs.Suffices.{limits_are, suffice}
use Rattle.sky_units.specs.Arcs.{AreNear, HaveRisingEpochs, IsArc, MeetSpreadRule, quarter_turn}
use Rattle.sky_units.specs.Faults.{AreApart, IsFirstFault}
use Rattle.sky_units.specs.Motion.{AxisAdmits, acceleration, offset, point_from, points, tolerance}
use Rattle.sky_units.specs.SettingsData.{AreSettings, SettingsData}
use Rattle.sky_units.specs.SpotData.{SpotData}
use Rattle.sky_units.specs.declared.axis.Axis.{Axis}
use Rattle.sky_units.specs.declared.axis.Axis.TheVariants.{Ra, Dec}
use Rattle.sky_units.specs.declared.certificates.Cert.{Cert}
use Rattle.sky_units.specs.declared.certificates.Cert.TheVariants.{Three, Four}
use Rattle.plain_tracks.proofs.Members.{IsDecided, both, each_two_map, reworded}
use Rattle.window_incr.specs.Asked.{IsShown, IsSpreadFault}

-- ---- the first fault

-- the first number below n that lacks a property, or all have it
record IsFirstWithout (P : ℕ → Type 0) (n k : ℕ) : Type 0 where
  within : k < n
  lacks : ¬ P k
  before : (j : ℕ) → j < k → P j

first_without : (P : ℕ → Type 0) → ((k : ℕ) → IsDecided (P k)) → (n : ℕ) → ((k : ℕ) → k < n → P k) ⊎ ((k : ℕ) × IsFirstWithout P n k)
first_without P d zero = inl (λ k l. absurd (omega arith))
first_without P d (suc n) = elim (first_without P d n) [
  | inr w ↦ inr (w.0, record { within = (let l = w.1.within in omega (arith, l)); lacks = w.1.lacks; before = w.1.before })
  | inl all ↦ elim (d n) [
    | inl p ↦ inl (λ k l. elim (cases_eq k n) [ inl e ↦ subst P (sym e) p | inr ne ↦ all k (omega (arith, l, ne)) ])
    | inr q ↦ inr (n, record { within = omega arith; lacks = q; before = all })
  ]
]

below_or_not : (a b : ℤ) → IsDecided (a <ℤ b)
below_or_not a b = by_lt_z a b (λ l. inl l) (λ l. inr (λ h. omega (arith, ints, l, h)))

near_or_not : (axis : Axis) (a b : SpotData) → IsDecided (AreNear axis a b)
near_or_not axis a b = both (below_or_not (neg_ℤ quarter_turn) (offset axis a b)) (below_or_not (offset axis a b) quarter_turn)

abbrev some : SpotData
some = record { num = 0; epoch = pos 0; ra = pos 0; dec = pos 0 }

module _ (spots : List SpotData) where
  abbrev spot_at : ℕ → SpotData
  spot_at k = slice_index_or spots k some

  -- the two spots at the places are near one another, where the second stands behind the first
  abbrev Near : ℕ → ℕ → Type 0
  Near i j = i < j → AreNear Ra (spot_at i) (spot_at j) × AreNear Dec (spot_at i) (spot_at j)

  near_decided : (i j : ℕ) → IsDecided (Near i j)
  near_decided i j = elim (cases_lt i j) [
    | inl l ↦ reworded (λ h m. h) (λ h. h l) (both (near_or_not Ra (spot_at i) (spot_at j)) (near_or_not Dec (spot_at i) (spot_at j)))
    | inr l ↦ inl (λ m. absurd (omega (arith, l, m)))
  ]

  abbrev NearAll : ℕ → Type 0
  NearAll i = (j : ℕ) → j < length spots → Near i j

  all_decided : (i : ℕ) → IsDecided (NearAll i)
  all_decided i = elim (first_without (Near i) (near_decided i) (length spots)) [
    | inl all ↦ inl all
    | inr w ↦ inr (λ h. w.1.lacks (h w.0 w.1.within))
  ]

  same_spot : (k : ℕ) (d : SpotData) → k < length spots → spot_at k ≡ slice_index_or spots k d
  same_spot k d l = get_or_default spots k some d l

  fault_between : (i j : ℕ) → IsFirstWithout NearAll (length spots) i → IsFirstWithout (Near i) (length spots) j → (fault : Option (Axis × ℕ × ℕ)) × IsSpreadFault spots fault
  fault_between i j f g = elim (cases_lt i j) [
    | inr l ↦ absurd (g.lacks (λ m. absurd (omega (arith, l, m))))
    | inl l ↦ elim (near_or_not Ra (spot_at i) (spot_at j)) [
      | inr far ↦ (Some (Ra, (spot_at i).num, (spot_at j).num), is Ra l far)
      | inl near ↦ (Some (Dec, (spot_at i).num, (spot_at j).num), is Dec l (near, λ h. g.lacks (λ m. (near, h))))
    ]
  ]
    where
      is : (axis : Axis) → i < j → AreApart axis (spot_at i) (spot_at j) → IsFirstFault spots axis (spot_at i).num (spot_at j).num
      is axis l apart = record {
        left = i;
        right = j;
        rising = l;
        within = g.within;
        apart = λ d. rw (← same_spot i d f.within, ← same_spot j d g.within) apart;
        first_number = λ d. ap (λ (s : SpotData). s.num) (same_spot i d f.within);
        second_number = λ d. ap (λ (s : SpotData). s.num) (same_spot j d g.within);
        near_before = λ m n d mn nl before. rw (← same_spot m d (omega (arith, mn, nl)), ← same_spot n d nl) (elim before as (λ _. AreNear Ra (spot_at m) (spot_at n) × AreNear Dec (spot_at m) (spot_at n)) [
          | inl first ↦ f.before m first n nl mn
          | inr w ↦ rw w.0 (g.before n w.1 (subst (λ (k : ℕ). k < n) w.0 mn))
        ]);
      }

  pub fault_exists : (fault : Option (Axis × ℕ × ℕ)) × IsSpreadFault spots fault
  fault_exists = elim (first_without NearAll all_decided (length spots)) [
    | inl all ↦ (None, λ i j d ij jl. rw (← same_spot i d (omega (arith, ij, jl)), ← same_spot j d jl) (all i (omega (arith, ij, jl)) j jl ij))
    | inr w ↦ elim (first_without (Near w.0) (near_decided w.0) (length spots)) [
      | inl all ↦ absurd (w.1.lacks all)
      | inr v ↦ fault_between w.0 v.0 w.1 v.1
    ]
  ]

-- ---- whether an axis admits spots: the test of both, where the other axis has nothing to tell
nought : (z : ℤ) → pos 0 *ℤ z ≡ pos 0
nought z = same_in _ _ (omega (arith, product_is (pos 0) z))

passes_nought : (t : ℤ) → Passes (pos 0) (record { p = pos 0; v = pos 0; q = pos 0; d = pos 1 }) (record { time = t; position = pos 0 })
passes_nought t =
    let rate = nought t in
    let bend = nought (t *ℤ t) in
    rw (rate, bend) (omega (arith, ints), omega (arith, ints))

abbrev flat : Axis → SpotData → SpotData
flat Ra s = record s { dec = pos 0 }
flat Dec s = record s { ra = pos 0 }

abbrev alone : Axis → SettingsData → SettingsData
alone Ra s = record s { tol_dec = pos 0; acc_dec = pos 0 }
alone Dec s = record s { tol_ra = pos 0; acc_ra = pos 0 }

abbrev other_of : Axis → Axis
other_of Ra = Dec
other_of Dec = Ra

same_points : (axis : Axis) (spots : List SpotData) → points axis (map (flat axis) spots) ≡ points axis spots
same_points axis [] = refl
same_points Ra (first ∷ rest) = map-map (point_from Ra (flat Ra first)) (flat Ra) (first ∷ rest)
same_points Dec (first ∷ rest) = map-map (point_from Dec (flat Dec first)) (flat Dec) (first ∷ rest)

abbrev still : Quadratic
still = record { p = pos 0; v = pos 0; q = pos 0; d = pos 1 }

other_admits : (axis : Axis) (settings : SettingsData) (spots : List SpotData) → AxisAdmits (other_of axis) (alone axis settings) (map (flat axis) spots)
other_admits Ra settings spots = (still, (omega (arith, ints), (omega (arith, ints), omega (arith, ints))), passed spots)
  where
    passed : (spots : List SpotData) → All (Passes (pos 0) still) (points Dec (map (flat Ra) spots))
    passed [] = λ k d l. absurd (omega arith)
    passed (first ∷ rest) = All-map (Passes (pos 0) still) (point_from Dec (flat Ra first)) (map (flat Ra) (first ∷ rest))
        (All-map (λ s. Passes (pos 0) still (point_from Dec (flat Ra first) s)) (flat Ra) (first ∷ rest) (λ k d l. passes_nought ((get_or (first ∷ rest) k d).epoch -ℤ first.epoch)))
other_admits Dec settings spots = (still, (omega (arith, ints), (omega (arith, ints), omega (arith, ints))), passed spots)
  where
    passed : (spots : List SpotData) → All (Passes (pos 0) still) (points Ra (map (flat Dec) spots))
    passed [] = λ k d l. absurd (omega arith)
    passed (first ∷ rest) = All-map (Passes (pos 0) still) (point_from Ra (flat Dec first)) (map (flat Dec) (first ∷ rest))
        (All-map (λ s. Passes (pos 0) still (point_from Ra (flat Dec first) s)) (flat Dec) (first ∷ rest) (λ k d l. passes_nought ((get_or (first ∷ rest) k d).epoch -ℤ first.epoch)))

admits_or_not : (axis : Axis) (settings : SettingsData) (spots : List SpotData) → HaveRisingEpochs spots → IsDecided (AxisAdmits axis settings spots)
admits_or_not Ra settings spots rising =
    reworded (λ w. subst (Admits settings.acc_ra settings.tol_ra) (same_points Ra spots) w.0)
    (λ a. (subst (Admits settings.acc_ra settings.tol_ra) (sym (same_points Ra spots)) a, other_admits Ra settings spots))
    (fits_or_not (alone Ra settings) (map (flat Ra) spots) (each_two_map (λ (a b : SpotData). a.epoch <ℤ b.epoch) (flat Ra) spots rising))
admits_or_not Dec settings spots rising =
    reworded (λ w. subst (Admits settings.acc_dec settings.tol_dec) (same_points Dec spots) w.1)
    (λ a. (other_admits Dec settings spots, subst (Admits settings.acc_dec settings.tol_dec) (sym (same_points Dec spots)) a))
    (fits_or_not (alone Dec settings) (map (flat Dec) spots) (each_two_map (λ (a b : SpotData). a.epoch <ℤ b.epoch) (flat Dec) spots rising))

-- ---- the certificate

abbrev Choosing : (List ℕ → Type 0) → ℕ → ℕ → ℕ → Type 0
Choosing IsAdmitted from n count = AllAdmitted IsAdmitted from n count ⊎ ((places : List ℕ) × IsFirstRefused IsAdmitted from n count places)

equal_is_not_less : Equal ≡ Less → ⊥
equal_is_not_less e = cc

only_none : (IsAdmitted : List ℕ → Type 0) (from n : ℕ) → IsAdmitted [] → AllAdmitted IsAdmitted from n 0
only_none IsAdmitted from n holds [] c = holds
only_none IsAdmitted from n holds (p ∷ ps) c = absurd (omega (arith, c.1))

none_before : (from n : ℕ) (other : List ℕ) → IsChoice from n 0 other → ComesBefore other [] → ⊥
none_before from n [] c h = equal_is_not_less h
none_before from n (p ∷ ps) c h = omega (arith, c.1)

seek : (count : ℕ) (IsAdmitted : List ℕ → Type 0) (from n : ℕ) → ((at : ℕ) → from ≤ at → at < n → Choosing (λ rest. IsAdmitted (at ∷ rest)) (at + 1) n count)
    → (fuel at : ℕ) → n ≤ at + fuel → from ≤ at → ArePassed IsAdmitted from n count at → Choosing IsAdmitted from n (suc count)
seek count IsAdmitted from n inner zero at bound low passed = inl (all_passed IsAdmitted from n count at (omega (arith, bound)) passed)
seek count IsAdmitted from n inner (suc fuel) at bound low passed = elim (cases_lt at n) [
  | inr end ↦ inl (all_passed IsAdmitted from n count at (omega (arith, end)) passed)
  | inl high ↦ elim (inner at low high) [
    | inl all ↦ seek count IsAdmitted from n inner fuel (at + 1) (omega (arith, bound)) (omega (arith, low)) (one_passed IsAdmitted from n count at passed all)
    | inr w ↦ inr (at ∷ w.0, first_found IsAdmitted from n count at w.0 low high passed w.1)
  ]
]

choose : (count : ℕ) (IsAdmitted : List ℕ → Type 0) (from n : ℕ) → ((places : List ℕ) → IsChoice from n count places → IsDecided (IsAdmitted places)) → Choosing IsAdmitted from n count
choose zero IsAdmitted from n d = elim (d [] (tt, refl)) [
  | inl holds ↦ inl (only_none IsAdmitted from n holds)
  | inr never ↦ inr ([], record { choice = (tt, refl); refused = never; first = λ other c h. absurd (none_before from n other c h) })
]
choose (suc count) IsAdmitted from n d =
    seek count IsAdmitted from n (λ at low high. choose count (λ rest. IsAdmitted (at ∷ rest)) (at + 1) n (λ rest c. d (at ∷ rest) ((low, high, c.0), ap (λ (k : ℕ). suc k) c.1)))
    n from (omega arith) (omega arith) (none_passed IsAdmitted from n count)

pub shown_exists : (axis : Axis) (settings : SettingsData) (spots : List SpotData) → AreSettings settings → IsArc spots → (cert : Option Cert) × IsShown axis settings spots cert
shown_exists axis settings spots are arc =
    elim (choose 3 (AdmitsAt axis settings spots) 0 (length spots) (decided 3)) [
      | inr w ↦ (
        Some (Three (numbers_at spots w.0)),
        record {
          certificate = (w.0, w.1, refl);
          none = (λ e. cc, λ h. absurd (not_all axis settings spots 3 w.0 arc w.1 h));
        },
      )
      | inl threes ↦ elim (choose 4 (AdmitsAt axis settings spots) 0 (length spots) (decided 4)) [
        | inr w ↦ (
          Some (Four (numbers_at spots w.0)),
          record {
            certificate = (threes, (w.0, w.1, refl));
            none = (λ e. cc, λ h. absurd (not_all axis settings spots 4 w.0 arc w.1 h));
          },
        )
        | inl fours ↦ (
          None,
          record {
            certificate = (threes, fours);
            none = (λ e. suffice axis settings spots (limits_are axis settings are) arc threes fours, λ h. refl);
          },
        )
      ]
    ]
  where
    decided : (count : ℕ) (places : List ℕ) → IsChoice 0 (length spots) count places → IsDecided (AdmitsAt axis settings spots places)
    decided count places c = admits_or_not axis settings _ (arc_at spots 0 places some arc c.0).rising
