-- The marks of an arc's spots keep their ranges and rise in time.
use Rattle.std.proofs.Common.{◌≡◌, ℕ, ◌<◌, ◌-ℤ◌, ◌<ℤ◌, List, [], ◌∷◌, ◌++◌, length, map, get_or, refl, sym, ap, ◌∙◌, arith}
use Rattle.std.proofs.lemmas.Bool.{cases_order}
use Rattle.std.proofs.lemmas.Int.{ints}
use Rattle.std.proofs.lemmas.List.{length-map, get_or-map, get_or_default, append-nil}
use Rattle.std.proofs.lemmas.List.Elements.{All-map}
use Rattle.std.specs.List.{All, Contains}
use mathlib.Core.Logic.{inl, inr}
use Rattle.sky_math.specs.Quadratics.{Point}
use Rattle.sky_units.specs.declared.axis.Axis.{Axis}
use Rattle.sky_units.proofs.Parts.{near_of_arc}
use Rattle.sky_units.specs.Limits.{arc_ticks}
use Rattle.sky_units.specs.Arcs.{IsArc, HaveRisingEpochs}
use Rattle.sky_units.specs.Motion.{point_from, points}
use Rattle.sky_units.specs.SpotData.{SpotData}
use Rattle.quad_fit.specs.MarkRanges.{IsMarkPoint, RiseInTime, AreShort, AreMarks}

pub mark_at : (axis : Axis) (first : SpotData) (spots : List SpotData) (i : ℕ) (spot : SpotData) → spot ≡ get_or spots i spot → All IsMarkPoint (map (point_from axis first) spots) → i < length (map (point_from axis first) spots) → IsMarkPoint (point_from axis first spot)
mark_at axis first spots i spot e each h =
    let l : i < length spots = omega (arith, length-map spots (point_from axis first)) in
    let m : IsMarkPoint (get_or (map (point_from axis first) spots) i (point_from axis first spot)) = each i (point_from axis first spot) h in
    let n : IsMarkPoint (point_from axis first (get_or spots i spot)) = rw (get_or-map (point_from axis first) spots i spot (point_from axis first spot) l) at m in
    rw (← e) at n

same_spot : (spots : List SpotData) (x y : SpotData) (i j : ℕ) → get_or spots i x ≡ x → j < length spots → get_or spots j y ≡ y → i ≡ j → x ≡ y
same_spot spots x y i j ex jl ey e = sym ex ∙ ap (λ (n : ℕ). get_or spots n x) e ∙ get_or_default spots j x y jl ∙ ey

-- between each two spots of an arc, in either order, less time passes than an arc may last
pub within_time : (spots : List SpotData) (x y : SpotData) → IsArc spots → Contains spots x → Contains spots y → (y.epoch -ℤ x.epoch) <ℤ arc_ticks
within_time spots x y arc cx cy =
    let i : ℕ = cx.0 in
    let j : ℕ = cy.0 in
    let il : i < length spots = cx.1 in
    let jl : j < length spots = cy.1 in
    let ex : get_or spots i x ≡ x = cx.2 in
    let ey : get_or spots j y ≡ y = cy.2 in
    let ey' : get_or spots j x ≡ y = get_or_default spots j x y jl ∙ ey in
    elim (cases_order i j) as (λ _. (y.epoch -ℤ x.epoch) <ℤ arc_ticks) [
      | inl e ↦ let s : x.epoch ≡ y.epoch = ap (λ (u : SpotData). u.epoch) (same_spot spots x y i j ex jl ey e) in omega (arith, ints, s)
      | inr c ↦ elim c as (λ _. (y.epoch -ℤ x.epoch) <ℤ arc_ticks) [
        | inl l ↦ let r = arc.short i j x l jl in rw (ex, ey') at r
        | inr l ↦ let r = arc.rising j i x l il in let s : y.epoch <ℤ x.epoch = rw (ex, ey') at r in omega (arith, ints, s)
      ]
    ]

near_mark : (axis : Axis) (base : SpotData) (spots : List SpotData) → IsArc spots → Contains spots base → (k : ℕ) (d : SpotData) → k < length spots → IsMarkPoint (point_from axis base (get_or spots k d))
near_mark axis base spots arc has k d h =
    let x : SpotData = get_or spots k d in
    let cx : Contains spots x = (k, h, get_or_default spots k x d h) in
    let n = near_of_arc axis spots base x arc has cx in
    let late = within_time spots base x arc has cx in
    let early = within_time spots x base arc cx has in
    record { not_long_before = omega (arith, ints, early); not_long_after = omega (arith, ints, late); above = n.0; below = n.1 }

some_default : (axis : Axis) (first : SpotData) (spots : List SpotData) (i : ℕ) (d : Point) → i < length spots → get_or (map (point_from axis first) spots) i d ≡ point_from axis first (get_or spots i first)
some_default axis first spots i d h = get_or-map (point_from axis first) spots i first d h

pub times_rise : (axis : Axis) (first : SpotData) (spots : List SpotData) → HaveRisingEpochs spots → RiseInTime (map (point_from axis first) spots)
times_rise axis first spots rising = λ i j d ij jn.
    let l : j < length spots = omega (arith, length-map spots (point_from axis first)) in
    let r = rising i j first ij l in
    let t : ((get_or spots i first).epoch -ℤ first.epoch) <ℤ ((get_or spots j first).epoch -ℤ first.epoch) = omega (arith, ints, r) in
    let li : i < length spots = omega arith in
    rw (some_default axis first spots i d li, some_default axis first spots j d l) t

marks_short : (axis : Axis) (base : SpotData) (spots : List SpotData) → IsArc spots → AreShort (map (point_from axis base) spots)
marks_short axis base spots arc = λ i j d ij jn.
    let l : j < length spots = omega (arith, length-map spots (point_from axis base)) in
    let r = arc.short i j base ij l in
    let t : (((get_or spots j base).epoch -ℤ base.epoch) -ℤ ((get_or spots i base).epoch -ℤ base.epoch)) <ℤ arc_ticks = omega (arith, ints, r) in
    let li : i < length spots = omega arith in
    rw (some_default axis base spots i d li, some_default axis base spots j d l) t

pub marks_of_arc : (axis : Axis) (base : SpotData) (spots : List SpotData) → IsArc spots → Contains spots base → AreMarks (map (point_from axis base) spots)
marks_of_arc axis base spots arc has = record {
  each = All-map IsMarkPoint (point_from axis base) spots (near_mark axis base spots arc has);
  rise = times_rise axis base spots arc.rising;
  short = marks_short axis base spots arc;
}

pub points_are : (axis : Axis) (first : SpotData) (spots : List SpotData) → 0 < length spots → first ≡ get_or spots 0 first → points axis spots ≡ map (point_from axis first) spots
points_are axis first [] h e = absurd (omega arith)
points_are axis first (s ∷ rest) h e = ap (λ (u : SpotData). map (point_from axis u) (s ∷ rest)) (sym e)

pub first_among : (first : SpotData) (spots : List SpotData) → 0 < length spots → first ≡ get_or spots 0 first → Contains spots first
first_among first spots h e = (0, h, sym e)

pub points_length : (axis : Axis) (spots : List SpotData) → length (points axis spots) ≡ length spots
points_length axis [] = refl
points_length axis (first ∷ rest) = length-map (first ∷ rest) (point_from axis first)

-- the marks of one slice, counted from its first spot
pub marks_alone : (axis : Axis) (first : SpotData) (spots : List SpotData) (marks : List Point) → 0 < length spots → first ≡ get_or spots 0 first → marks ≡ map (point_from axis first) (spots ++ [] ++ []) → marks ≡ points axis spots
marks_alone axis first spots marks h e m =
    let all : spots ++ [] ++ [] ≡ spots = append-nil (spots ++ []) ∙ append-nil spots in
    m ∙ ap (map (point_from axis first)) all ∙ sym (points_are axis first spots h e)
