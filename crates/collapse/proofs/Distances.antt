-- A group and a pair that are too far apart lie on no line.
use Rattle.std.proofs.Common.{◌≡◌, ℕ, ◌+◌, ◌<◌, ◌≤◌, ℤ, pos, neg_ℤ, ◌+ℤ◌, ◌-ℤ◌, ◌*ℤ◌, ◌≤ℤ◌, Bool, true, false, ◌&&◌, List, length, get_or, refl, sym, ap, ◌∙◌, arith}
use Rattle.std.specs.Int.RustNames.{unsigned_abs}
use Rattle.std.specs.Int.Signed.{le_z, lt_z}
use Rattle.std.specs.List.{Contains}
use Rattle.std.proofs.lemmas.Bool.{cases_Bool, cases_order, false≢true}
use Rattle.std.proofs.lemmas.Int.{ints}
use Rattle.std.proofs.lemmas.List.{get_or_default, get_or_read}
use mathlib.Core.Logic.{inl, inr}
use Rattle.line_fit.proofs.Pieces.{AreInReach, in_reach}
use Rattle.line_fit.proofs.Twos.{and_of}
use Rattle.sky_units.proofs.EpochOrder.{test_of_lt}
use Rattle.sky_units.specs.Pairs.{EpochsDontFall}
use Rattle.sky_units.specs.SettingsData.{SettingsData}
use Rattle.sky_units.specs.SpotData.{SpotData}
use Rattle.sky_units.proofs.SpotsAtPlaces.{spots_length}
use Rattle.sky_units.specs.AtPlaces.{spots_at}
use Rattle.collapse.specs.Groups.{may_join, with_pair, with_place, ArePlaces, IsPairBelow}
use Rattle.collapse.specs.Reach.{are_in_reach}
use Rattle.collapse.specs.Strips.{IsReach, LieOnLine, height}
use Rattle.collapse.proofs.Together.{StandsIn, among_of, among_still, no_spot, places_with_pair, spot_at, stand_in_order, stands_of, stands_still, stands_with_place}

le_true : (a b : ℤ) → a ≤ℤ b → le_z a b ≡ true
le_true a b h = grind (arith, ints)

reach_test : (settings : SettingsData) (x y : SpotData) → AreInReach settings.line_tol settings.rate_ra settings.rate_dec x y → are_in_reach settings x y ≡ true
reach_test settings x y r =
    and_of _ _ (and_of _ _ (test_of_lt x.epoch y.epoch r.later) (and_of _ _ (le_true _ _ r.dec.0) (le_true _ _ r.dec.1))) (and_of _ _ (le_true _ _ r.ra.0) (le_true _ _ r.ra.1))

-- a place of the group that comes before the pair's first one, and that one, are in reach where the pair may join
pub reach_of_join : (settings : SettingsData) (spots : List SpotData) (group : List ℕ) (pair : ℕ × ℕ) (p : ℕ) (d : SpotData) → IsPairBelow (length spots) pair → ArePlaces (length spots) group → StandsIn group p → p < pair.0 →
    may_join settings spots pair group ≡ true → are_in_reach settings (get_or spots p d) (get_or spots pair.0 d) ≡ true
reach_of_join settings spots group pair p d below places stands h joins =
    let union : List ℕ = with_pair group pair in
    let all : ArePlaces (length spots) union = places_with_pair (length spots) group pair below places in
    let s : StandsIn (with_place group pair.0) p = stands_still group pair.0 p stands.at stands.within stands.is in
    let t : StandsIn (with_place group pair.0) pair.0 = stands_with_place group pair.0 in
    let a : StandsIn union p = stands_still (with_place group pair.0) pair.1 p s.at s.within s.is in
    let b : StandsIn union pair.0 = stands_still (with_place group pair.0) pair.1 pair.0 t.at t.within t.is in
    let i : ℕ = a.at in
    let j : ℕ = b.at in
    let il : i < length union = a.within in
    let jl : j < length union = b.within in
    let ij : i < j = stand_in_order union p pair.0 a b all.rising h in
    let n = spots_length spots union all.within d in
    let r = in_reach settings.line_tol settings.rate_ra settings.rate_dec (spots_at spots union) i j d joins ij (omega (arith, n, jl)) in
    let x : get_or (spots_at spots union) i d ≡ get_or spots p d = spot_at spots union i d all.within il ∙ ap (λ (k : ℕ). get_or spots k d) a.is in
    let y : get_or (spots_at spots union) j d ≡ get_or spots pair.0 d = spot_at spots union j d all.within jl ∙ ap (λ (k : ℕ). get_or spots k d) b.is in
    rw (← x, ← y) (reach_test settings (get_or (spots_at spots union) i d) (get_or (spots_at spots union) j d) r)

pub no_reach_no_join : (settings : SettingsData) (spots : List SpotData) (group : List ℕ) (pair : ℕ × ℕ) (p : ℕ) (x y : SpotData) → IsPairBelow (length spots) pair → ArePlaces (length spots) group → Contains group p → p < pair.0 →
    x ≡ get_or spots p x → y ≡ get_or spots pair.0 y → are_in_reach settings x y ≡ false → may_join settings spots pair group ≡ false
no_reach_no_join settings spots group pair p x y below places among h ex ey far = elim (cases_Bool (may_join settings spots pair group)) as (λ _. may_join settings spots pair group ≡ false) [
  | inr f ↦ f
  | inl t ↦
      let l = below.0 in
      let m = below.1 in
      let x' : x ≡ get_or spots p no_spot = get_or_read spots p x (omega arith) ex no_spot in
      let y' : y ≡ get_or spots pair.0 no_spot = get_or_read spots pair.0 y (omega arith) ey no_spot in
      let r = reach_of_join settings spots group pair p no_spot below places (stands_of group p among) h t in
      let r' : are_in_reach settings x y ≡ true = rw (x', y') r in
      absurd (false≢true (sym far ∙ r'))
]

pub rises : (spots : List SpotData) (i j : ℕ) (d : SpotData) → EpochsDontFall spots → i ≤ j → j < length spots → (get_or spots i d).epoch ≤ℤ (get_or spots j d).epoch
rises spots i j d order h l = elim (cases_order i j) as (λ _. (get_or spots i d).epoch ≤ℤ (get_or spots j d).epoch) [
  | inl e ↦ let same : (get_or spots i d).epoch ≡ (get_or spots j d).epoch = ap (λ (k : ℕ). (get_or spots k d).epoch) e in omega (arith, ints, same)
  | inr (inl less) ↦ order i j d less l
  | inr (inr more) ↦ absurd (omega arith)
]

-- the pair may join no group that has another place whose spot isn't earlier than the pair's first one
pub late_no_join : (settings : SettingsData) (spots : List SpotData) (group : List ℕ) (pair : ℕ × ℕ) (p : ℕ) → IsPairBelow (length spots) pair → ArePlaces (length spots) group → Contains group p → p < pair.0 →
    (get_or spots pair.0 no_spot).epoch ≤ℤ (get_or spots p no_spot).epoch → may_join settings spots pair group ≡ false
late_no_join settings spots group pair p below places among h late =
    let m = below.0 in
    let n = below.1 in
    let x : SpotData = get_or spots p no_spot in
    let y : SpotData = get_or spots pair.0 no_spot in
    no_reach_no_join settings spots group pair p x y below places among h (get_or_default spots p no_spot x (omega arith)) (get_or_default spots pair.0 no_spot y (omega arith)) (not_first _ _ _ (not_lt x.epoch y.epoch late))
  where
    not_lt : (a b : ℤ) → b ≤ℤ a → lt_z a b ≡ false
    not_lt a b l = grind (arith, ints)

    not_first : (a b c : Bool) → a ≡ false → (a && b && c) ≡ false
    not_first a b c e = rw e refl

-- ---- distances in declination
-- two places of spots on a line, the first one below the second
within_reach : (settings : SettingsData) (spots : List SpotData) (union : List ℕ) (p q reach : ℕ) (d : SpotData) → ArePlaces (length spots) union → LieOnLine settings spots union → IsReach settings spots reach → Contains union p → Contains union q → p < q →
    (height (get_or spots p d) ≤ height (get_or spots q d) + reach) × (height (get_or spots q d) ≤ height (get_or spots p d) + reach)
within_reach settings spots union p q reach d all lies covers cp cq h =
    let a = stands_of union p cp in
    let b = stands_of union q cq in
    let ij : a.at < b.at = stand_in_order union p q a b all.rising h in
    let n = spots_length spots union all.within d in
    let jl = b.within in
    let r = in_reach settings.line_tol settings.rate_ra settings.rate_dec (spots_at spots union) a.at b.at d lies ij (omega (arith, n, jl)) in
    let x : get_or (spots_at spots union) a.at d ≡ get_or spots p d = spot_at spots union a.at d all.within a.within ∙ ap (λ (k : ℕ). get_or spots k d) a.is in
    let y : get_or (spots_at spots union) b.at d ≡ get_or spots q d = spot_at spots union b.at d all.within b.within ∙ ap (λ (k : ℕ). get_or spots k d) b.is in
    let s : AreInReach settings.line_tol settings.rate_ra settings.rate_dec (get_or spots p d) (get_or spots q d) = rw (x, y) at r in
    let w : q < length spots = rw b.is at (all.within b.at 0 b.within) in
    let c = covers p q d h w in
    heights (get_or spots p d).dec (get_or spots q d).dec _ reach s.dec.0 s.dec.1 c
  where
    heights : (x y m : ℤ) (reach : ℕ) → neg_ℤ m ≤ℤ ((y -ℤ x) *ℤ pos 1000000) → ((y -ℤ x) *ℤ pos 1000000) ≤ℤ m → m ≤ℤ (pos reach *ℤ pos 1000000) → (unsigned_abs (x +ℤ pos 90000000) ≤ unsigned_abs (y +ℤ pos 90000000) + reach) × (unsigned_abs (y +ℤ pos 90000000) ≤ unsigned_abs (x +ℤ pos 90000000) + reach)
    heights x y m reach a b c = (omega (arith, ints, a, b, c), omega (arith, ints, a, b, c))

-- the spots of a group that a pair may join are within reach of the pair's first one
pub near_of_join : (settings : SettingsData) (spots : List SpotData) (group : List ℕ) (pair : ℕ × ℕ) (p reach : ℕ) (d : SpotData) → IsPairBelow (length spots) pair → ArePlaces (length spots) group → IsReach settings spots reach → Contains group p → may_join settings spots pair group ≡ true →
    (height (get_or spots p d) ≤ height (get_or spots pair.0 d) + reach) × (height (get_or spots pair.0 d) ≤ height (get_or spots p d) + reach)
near_of_join settings spots group pair p reach d below places covers among joins =
    let union : List ℕ = with_pair group pair in
    let all : ArePlaces (length spots) union = places_with_pair (length spots) group pair below places in
    let t : StandsIn (with_place group pair.0) pair.0 = stands_with_place group pair.0 in
    let one : Contains union p = among_still group pair p among in
    let two : Contains union pair.0 = among_of union pair.0 (stands_still (with_place group pair.0) pair.1 pair.0 t.at t.within t.is) in
    elim (cases_order p pair.0) as (λ _. (height (get_or spots p d) ≤ height (get_or spots pair.0 d) + reach) × (height (get_or spots pair.0 d) ≤ height (get_or spots p d) + reach)) [
      | inl e ↦ rw e (omega arith, omega arith)
      | inr (inl l) ↦ within_reach settings spots union p pair.0 reach d all joins covers one two l
      | inr (inr g) ↦ let w = within_reach settings spots union pair.0 p reach d all joins covers two one g in (w.1, w.0)
    ]
