-- Whether each two spots are near is told by the least and the greatest offset from the first.
use Rattle.std.proofs.Common.{◌≡◌, ℕ, ◌+◌, ◌<◌, ◌≤◌, ℤ, pos, neg_ℤ, ◌-ℤ◌, ◌≤ℤ◌, ◌<ℤ◌, List, length, get_or, refl, sym, subst, to_z, of_z, w64, FitsSigned, arith}
use Rattle.std.proofs.lemmas.Bool.{cases_lt, cases_order}
use Rattle.std.proofs.lemmas.Int.{ints, clamps, by_lt_z}
use Rattle.std.specs.Int.{int_min, int_max}
use Rattle.std.proofs.lemmas.List.{get_or_read}
use mathlib.Core.Logic.{inl, inr}
use Rattle.sky_units.proofs.Between.{offset_same, offset_between}
use Rattle.sky_math.specs.Circle.{half_turn}
use Rattle.sky_units.specs.Ranges.{IsBetween}
use Rattle.sky_units.specs.Arcs.{AreNear, AllNear, quarter_turn}
use Rattle.sky_units.specs.Motion.{offset}
use Rattle.sky_units.specs.SpotData.{SpotData}
use Rattle.sky_units.specs.declared.axis.Axis.{Axis}

-- one of the spots has this offset
pub record IsOffsetOf (axis : Axis) (first : SpotData) (spots : List SpotData) (value : ℤ) : Type 0 where
  pub place : ℕ
  pub within : place < length spots
  pub is : value ≡ offset axis first (get_or spots place first)

-- the offsets of the spots below the place n, and two spots that have the least and the greatest
pub record IsReach (axis : Axis) (first : SpotData) (spots : List SpotData) (n : ℕ) (low high : ℤ) : Type 0 where
  pub each : (k : ℕ) (d : SpotData) → k < n → k < length spots → (low ≤ℤ offset axis first (get_or spots k d)) × (offset axis first (get_or spots k d) ≤ℤ high)
  pub least : IsOffsetOf axis first spots low
  pub greatest : IsOffsetOf axis first spots high
  pub around : (low ≤ℤ pos 0) × (pos 0 ≤ℤ high)

-- a reach below a quarter of a turn makes each two near
pub near_of_reach : (axis : Axis) (first : SpotData) (spots : List SpotData) (n : ℕ) (low high : ℤ) → length spots ≤ n → IsReach axis first spots n low high → (high -ℤ low) <ℤ quarter_turn → AllNear axis spots
near_of_reach axis first spots n low high big r narrow = λ i j d ij jl.
    let a : SpotData = get_or spots i d in
    let b : SpotData = get_or spots j d in
    let p = r.each i d (omega arith) (omega arith) in
    let q = r.each j d (omega arith) jl in
    let s = r.around in
    let x : AreNear axis first a = (omega (arith, ints, p, s), omega (arith, ints, p, s)) in
    let y : AreNear axis first b = (omega (arith, ints, q, s), omega (arith, ints, q, s)) in
    let e = offset_between axis first a b x y in
    (omega (arith, ints, e, p, q), omega (arith, ints, e, p, q))

near_first : (axis : Axis) (first : SpotData) (spots : List SpotData) → first ≡ get_or spots 0 first → AllNear axis spots → (k : ℕ) → k < length spots → AreNear axis first (get_or spots k first)
near_first axis first spots e near k h = elim (cases_lt 0 k) as (λ _. AreNear axis first (get_or spots k first)) [
  | inl l ↦ rw (← e) at (near 0 k first l h)
  | inr l ↦
      let z : 0 ≡ k = omega arith in
      let o = offset_same axis first in
      subst (λ (u : ℕ). AreNear axis first (get_or spots u first)) z (rw (← e) (omega (arith, ints, o), omega (arith, ints, o)))
]

-- a reach of a quarter of a turn or more sets two apart
pub apart_of_reach : (axis : Axis) (first : SpotData) (spots : List SpotData) (n : ℕ) (low high : ℤ) → first ≡ get_or spots 0 first → IsReach axis first spots n low high → quarter_turn ≤ℤ (high -ℤ low) → ¬ AllNear axis spots
apart_of_reach axis first spots n low high e r wide near =
    let p : ℕ = r.least.place in
    let q : ℕ = r.greatest.place in
    let a : SpotData = get_or spots p first in
    let b : SpotData = get_or spots q first in
    let x : AreNear axis first a = near_first axis first spots e near p r.least.within in
    let y : AreNear axis first b = near_first axis first spots e near q r.greatest.within in
    let f : low ≡ offset axis first a = r.least.is in
    let g : high ≡ offset axis first b = r.greatest.is in
    elim (cases_order p q) as (λ _. ⊥) [
      | inl s ↦ let h : offset axis first a ≡ offset axis first b = rw s refl in absurd (omega (arith, ints, f, g, h))
      | inr c ↦ elim c as (λ _. ⊥) [
        | inl s ↦ let o = offset_between axis first a b x y in let m = near p q first s r.greatest.within in absurd (omega (arith, ints, f, g, o, m))
        | inr s ↦ let o = offset_between axis first b a y x in let m = near q p first s r.least.within in absurd (omega (arith, ints, f, g, o, m))
      ]
    ]

pub reach_start : (axis : Axis) (first : SpotData) (spots : List SpotData) → 0 < length spots → first ≡ get_or spots 0 first → IsReach axis first spots 1 (pos 0) (pos 0)
reach_start axis first spots h e =
    let o = offset_same axis first in
    let z : offset axis first (get_or spots 0 first) ≡ pos 0 = rw (← e) o in
    record {
      each = λ k d kn kl.
          let u : 0 ≡ k = omega arith in
          let f : first ≡ get_or spots 0 d = get_or_read spots 0 first h e d in
          subst (λ (v : ℕ). (pos 0 ≤ℤ offset axis first (get_or spots v d)) × (offset axis first (get_or spots v d) ≤ℤ pos 0)) u (rw (← f) (omega (arith, ints, o), omega (arith, ints, o)));
      least = record { place = 0; within = h; is = sym z };
      greatest = record { place = 0; within = h; is = sym z };
      around = (omega (arith, ints), omega (arith, ints));
    }

met_min : (axis : Axis) (first : SpotData) (spots : List SpotData) (a b : ℤ) → IsOffsetOf axis first spots a → IsOffsetOf axis first spots b → IsOffsetOf axis first spots (int_min a b)
met_min axis first spots a b p q = by_lt_z {P = IsOffsetOf axis first spots (int_min a b)} b a
    (λ l. let e : int_min a b ≡ b = omega (arith, ints, clamps, l) in rw e q)
    (λ l. let e : int_min a b ≡ a = omega (arith, ints, clamps, l) in rw e p)

met_max : (axis : Axis) (first : SpotData) (spots : List SpotData) (a b : ℤ) → IsOffsetOf axis first spots a → IsOffsetOf axis first spots b → IsOffsetOf axis first spots (int_max a b)
met_max axis first spots a b p q = by_lt_z {P = IsOffsetOf axis first spots (int_max a b)} a b
    (λ l. let e : int_max a b ≡ b = omega (arith, ints, clamps, l) in rw e q)
    (λ l. let e : int_max a b ≡ a = omega (arith, ints, clamps, l) in rw e p)

-- one more spot
pub reach_more : (axis : Axis) (first : SpotData) (spots : List SpotData) (n : ℕ) (low high place : ℤ) (spot : SpotData) → n < length spots → spot ≡ get_or spots n spot → place ≡ offset axis first spot → IsReach axis first spots n low high → IsReach axis first spots (n + 1) (int_min low place) (int_max high place)
reach_more axis first spots n low high place spot h e f r =
    let s : spot ≡ get_or spots n first = get_or_read spots n spot h e first in
    let met : IsOffsetOf axis first spots place = record { place = n; within = h; is = rw (← s) f } in
    record {
      each = λ k d kn kl. elim (cases_lt k n) as (λ _. (int_min low place ≤ℤ offset axis first (get_or spots k d)) × (offset axis first (get_or spots k d) ≤ℤ int_max high place)) [
        | inl l ↦ let m = r.each k d l kl in (omega (arith, ints, clamps, m), omega (arith, ints, clamps, m))
        | inr l ↦
            let u : n ≡ k = omega arith in
            let t : spot ≡ get_or spots n d = get_or_read spots n spot h e d in
            subst (λ (v : ℕ). (int_min low place ≤ℤ offset axis first (get_or spots v d)) × (offset axis first (get_or spots v d) ≤ℤ int_max high place)) u
            (rw (← t, ← f) (omega (arith, ints, clamps), omega (arith, ints, clamps)))
      ];
      least = met_min axis first spots low place r.least met;
      greatest = met_max axis first spots high place r.greatest met;
      around = let a = r.around in (omega (arith, ints, clamps, a), omega (arith, ints, clamps, a));
    }

-- a reach below a quarter of a turn, widened by one offset, has ends within half a turn
pub widened_ends : (low high place w v : ℤ) → low ≤ℤ pos 0 → pos 0 ≤ℤ high → (high -ℤ low) <ℤ quarter_turn → IsBetween (neg_ℤ half_turn) half_turn place → w ≡ int_min low place → v ≡ int_max high place → IsBetween (neg_ℤ half_turn) (pos 0) w × IsBetween (pos 0) half_turn v
widened_ends low high place w v a b n p e f = (record { from = omega (arith, ints, clamps); to = omega (arith, ints, clamps) }, record { from = omega (arith, ints, clamps); to = omega (arith, ints, clamps) })

pub span_fits : (w v : ℤ) → IsBetween (neg_ℤ half_turn) (pos 0) w → IsBetween (pos 0) half_turn v → FitsSigned w64 (to_z w64 (of_z w64 v) -ℤ to_z w64 (of_z w64 w))
span_fits w v p q = omega (arith, ints)

pub span_read : (w v : ℤ) → IsBetween (neg_ℤ half_turn) (pos 0) w → IsBetween (pos 0) half_turn v → to_z w64 (of_z w64 (to_z w64 (of_z w64 v) -ℤ to_z w64 (of_z w64 w))) ≡ v -ℤ w
span_read w v p q = omega (arith, ints)
