-- Spots at rising places of an arc: they are an arc, and whether they are admitted does not depend on the spot that they are counted from.
use Rattle.std.proofs.Common.{◌≡◌, ℕ, ◌+◌, ◌<◌, ◌≤◌, ℤ, ◌-ℤ◌, ◌<ℤ◌, List, [], ◌∷◌, length, map, get_or, refl, sym, subst, ap, ◌∙◌, zero, suc, arith}
use Rattle.std.proofs.lemmas.List.{get_or-map, get_or_default, length-map}
use Rattle.std.proofs.lemmas.List.Elements.{All-cons, All-map, All-nil}
use Rattle.std.proofs.lemmas.Option.{slice_get-get_or}
use Rattle.std.specs.List.{All, Contains}
use Rattle.std.specs.Prelude.{Some, slice_get}
use Rattle.sky_math.proofs.Shifts.{shifted, moved_point, passes_moved}
use Rattle.sky_math.specs.Lists.{EachThree, EachTwo}
use Rattle.sky_math.specs.Quadratics.{Admits, Passes, Quadratic}
use Rattle.sky_units.proofs.Parts.{near_of_arc, part_is_admitted, seen_from}
use Rattle.sky_units.proofs.SpotsAtPlaces.{spots_are}
use Rattle.sky_units.specs.Arcs.{AreNear, IsArc}
use Rattle.sky_units.specs.AtPlaces.{spots_at}
use Rattle.sky_units.specs.Limits.{arc_ticks}
use Rattle.sky_units.specs.Motion.{AxisAdmits, acceleration, offset, point_from, tolerance}
use Rattle.sky_units.specs.SettingsData.{SettingsData}
use Rattle.sky_units.specs.SpotData.{SpotData}
use Rattle.sky_units.specs.declared.axis.Axis.{Axis}
use Rattle.sky_units.specs.declared.axis.Axis.TheVariants.{Ra, Dec}
use Rattle.refusal_cert.specs.Certificates.{AdmitsAt, ArePlaces}

-- ---- lists
pub two_cons : {X : Type 0} (R : X → X → Type 0) (x : X) (xs : List X) → All (R x) xs → EachTwo R xs → EachTwo R (x ∷ xs)
two_cons R x xs first rest zero zero d ij jn = absurd (omega arith)
two_cons R x xs first rest zero (suc j) d ij jn = first j d (omega arith)
two_cons R x xs first rest (suc i) zero d ij jn = absurd (omega arith)
two_cons R x xs first rest (suc i) (suc j) d ij jn = rest i j d (omega arith) (omega arith)

pub three_cons : {X : Type 0} (R : X → X → X → Type 0) (x : X) (xs : List X) → EachTwo (R x) xs → EachThree R xs → EachThree R (x ∷ xs)
three_cons R x xs first rest i zero k d ij jk kn = absurd (omega arith)
three_cons R x xs first rest i (suc j) zero d ij jk kn = absurd (omega arith)
three_cons R x xs first rest zero (suc j) (suc k) d ij jk kn = first j k d (omega arith) (omega arith)
three_cons R x xs first rest (suc i) (suc j) (suc k) d ij jk kn = rest i j k d (omega arith) (omega arith) (omega arith)

-- ---- places
-- each of the places lies in its range
pub within : (from n : ℕ) (places : List ℕ) → ArePlaces from n places → All (λ p. (from ≤ p) × (p < n)) places
within from n [] h = All-nil (λ p. (from ≤ p) × (p < n))
within from n (p ∷ rest) h =
    let later = within (p + 1) n rest h.2 in
    All-cons (λ q. (from ≤ q) × (q < n)) p rest (h.0, h.1) (λ k d kn. let w = later k d kn in (omega (arith, w.0, h.0), w.1))

pub below : (from n : ℕ) (places : List ℕ) → ArePlaces from n places → All (λ p. p < n) places
below from n places h = λ k d kn. (within from n places h k d kn).1

-- what each two elements have, each two at rising places have
pub two_at : {X : Type 0} (R : X → X → Type 0) (xs : List X) (from : ℕ) (places : List ℕ) (d : X) → EachTwo R xs → ArePlaces from (length xs) places → EachTwo R (map (λ p. get_or xs p d) places)
two_at R xs from [] d each h = λ i j e ij jn. absurd (omega arith)
two_at R xs from (p ∷ rest) d each h =
    two_cons R (get_or xs p d) (map (λ q. get_or xs q d) rest)
    (All-map (R (get_or xs p d)) (λ q. get_or xs q d) rest (λ k e kn. let w = within (p + 1) (length xs) rest h.2 k e kn in each p (get_or rest k e) d (omega (arith, w.0)) w.1))
    (two_at R xs (p + 1) rest d each h.2)

-- spots at rising places of an arc are an arc
pub arc_at : (spots : List SpotData) (from : ℕ) (places : List ℕ) (d : SpotData) → IsArc spots → ArePlaces from (length spots) places → IsArc (spots_at spots places)
arc_at spots from places d arc h =
    let is : IsArc (map (λ p. get_or spots p d) places) = record {
      rising = two_at (λ (a b : SpotData). a.epoch <ℤ b.epoch) spots from places d arc.rising h;
      short = two_at (λ (a b : SpotData). (b.epoch -ℤ a.epoch) <ℤ arc_ticks) spots from places d arc.short h;
      spread = two_at (λ (a b : SpotData). AreNear Ra a b × AreNear Dec a b) spots from places d arc.spread h;
    } in
    subst IsArc (sym (spots_are spots places d (below from (length spots) places h))) is

-- they are among the spots
pub among_at : (spots : List SpotData) (from : ℕ) (places : List ℕ) (d : SpotData) → ArePlaces from (length spots) places → All (Contains spots) (spots_at spots places)
among_at spots from places d h =
    subst (All (Contains spots)) (sym (spots_are spots places d (below from (length spots) places h)))
    (All-map (Contains spots) (λ p. get_or spots p d) places (λ k e kn.
    let w = below from (length spots) places h k e kn in
    (get_or places k e, w, get_or_default spots (get_or places k e) (get_or spots (get_or places k e) d) d w)))

-- ---- the spot that spots are counted from
part_passed : (axis : Axis) (tol : ℤ) (f : Quadratic) (base b : SpotData) (spots part : List SpotData) → IsArc spots → Contains spots base → Contains spots b → All (Contains spots) part →
    All (Passes tol f) (map (point_from axis b) part) → All (Passes tol (shifted f (base.epoch -ℤ b.epoch) (offset axis b base))) (map (point_from axis base) part)
part_passed axis tol f base b spots part arc has cb inside passes = λ k d h.
    let n : k < length part = omega (arith, length-map part (point_from axis base), h) in
    let x : SpotData = get_or part k b in
    let near = near_of_arc axis spots b base arc cb has in
    let near' = near_of_arc axis spots b x arc cb (inside k b n) in
    let old : Passes tol f (get_or (map (point_from axis b) part) k (point_from axis b x)) = passes k (point_from axis b x) (omega (arith, length-map part (point_from axis b), n)) in
    let here : Passes tol f (point_from axis b x) = rw (get_or-map (point_from axis b) part k b (point_from axis b x) n) at old in
    let there : get_or (map (point_from axis base) part) k d ≡ moved_point (point_from axis b x) (base.epoch -ℤ b.epoch) (offset axis b base) = get_or-map (point_from axis base) part k b d n ∙ seen_from axis b base x near near' in
    rw there (passes_moved tol f (point_from axis b x) (base.epoch -ℤ b.epoch) (offset axis b base) here)

-- what an axis admits of an arc is admitted as counted from any spot of the arc
pub admitted_from : (axis : Axis) (settings : SettingsData) (base : SpotData) (spots part : List SpotData) → IsArc spots → Contains spots base → All (Contains spots) part → AxisAdmits axis settings part → Admits (acceleration axis settings) (tolerance axis settings) (map (point_from axis base) part)
admitted_from axis settings base spots [] arc has inside w = w
admitted_from axis settings base spots (b ∷ more) arc has inside w =
    (shifted w.0 (base.epoch -ℤ b.epoch) (offset axis b base), w.1, part_passed axis (tolerance axis settings) w.0 base b spots (b ∷ more) arc has (inside 0 b (omega arith)) inside w.2)

-- what an axis admits of an arc, it admits at all rising places
pub admits_at : (axis : Axis) (settings : SettingsData) (spots : List SpotData) (from : ℕ) (places : List ℕ) (d : SpotData) → IsArc spots → ArePlaces from (length spots) places → AxisAdmits axis settings spots → AdmitsAt axis settings spots places
admits_at axis settings spots from places d arc h w = part_is_admitted axis settings spots (spots_at spots places) arc (among_at spots from places d h) w

-- the spot at a place
pub read_at : (spots : List SpotData) (i : ℕ) (x : SpotData) → i < length spots → x ≡ get_or spots i x → slice_get spots i ≡ Some x
read_at spots i x h e = slice_get-get_or spots i x h ∙ ap (λ (s : SpotData). Some s) (sym e)

pub three_at : (spots : List SpotData) (i j k : ℕ) (x y z : SpotData) → i < length spots → j < length spots → k < length spots → x ≡ get_or spots i x → y ≡ get_or spots j y → z ≡ get_or spots k z → spots_at spots (i ∷ j ∷ k ∷ []) ≡ x ∷ y ∷ z ∷ []
three_at spots i j k x y z il jl kl ex ey ez = rw (read_at spots i x il ex, read_at spots j y jl ey, read_at spots k z kl ez) refl

pub four_at : (spots : List SpotData) (i j k l : ℕ) (w x y z : SpotData) → i < length spots → j < length spots → k < length spots → l < length spots → w ≡ get_or spots i w → x ≡ get_or spots j x → y ≡ get_or spots k y → z ≡ get_or spots l z → spots_at spots (i ∷ j ∷ k ∷ l ∷ []) ≡ w ∷ x ∷ y ∷ z ∷ []
four_at spots i j k l w x y z il jl kl ll ew ex ey ez = rw (read_at spots i w il ew, read_at spots j x jl ex, read_at spots k y kl ey, read_at spots l z ll ez) refl
