-- What holds of spots and of points together holds of parts of them.
use Rattle.std.proofs.Common.{◌≡◌, ℕ, ◌+◌, ◌<◌, List, [], ◌++◌, length, map, get_or, refl, sym, subst, ap, ◌∙◌, length-append, ◌-ℤ◌, ◌<ℤ◌, arith}
use Rattle.std.proofs.lemmas.List.{append-nil, map-append, get_or_append_left, get_or-append_right}
use Rattle.std.proofs.lemmas.List.Elements.{All-append, Contains-append_left, Contains-append_right, Contains-append_cases}
use Rattle.std.specs.List.{All, Contains}
use mathlib.Core.Logic.{inl, inr}
use Rattle.sky_math.specs.Lists.{EachTwo}
use Rattle.sky_math.specs.Quadratics.{Point}
use Rattle.sky_units.specs.Arcs.{IsArc}
use Rattle.sky_units.specs.Limits.{arc_ticks}
use Rattle.sky_units.specs.Motion.{point_from}
use Rattle.sky_units.specs.SpotData.{SpotData}
use Rattle.sky_units.specs.declared.axis.Axis.{Axis}
use Rattle.quad_fit.specs.MarkRanges.{AreMarks, IsMarkPoint}
use Rattle.quad_fit.proofs.MarkLists.{first_among, marks_of_arc}

-- ---- lists
read_right : {X : Type 0} (xs ys : List X) (i : ℕ) (d : X) → get_or (xs ++ ys) (length xs + i) d ≡ get_or ys i d
read_right xs ys i d = get_or-append_right xs ys (length xs) (length xs + i) d refl (omega arith) ∙ ap (λ (k : ℕ). get_or ys k d) (omega arith)

pub two_left : {X : Type 0} (R : X → X → Type 0) (xs ys : List X) → EachTwo R (xs ++ ys) → EachTwo R xs
two_left R xs ys h = λ i j d ij jn.
    let a : get_or (xs ++ ys) i d ≡ get_or xs i d = get_or_append_left xs ys d i (omega arith) in
    let b : get_or (xs ++ ys) j d ≡ get_or xs j d = get_or_append_left xs ys d j jn in
    rw (← a, ← b) (h i j d ij (omega (arith, length-append xs ys)))

pub two_right : {X : Type 0} (R : X → X → Type 0) (xs ys : List X) → EachTwo R (xs ++ ys) → EachTwo R ys
two_right R xs ys h = λ i j d ij jn.
    let a = read_right xs ys i d in
    let b = read_right xs ys j d in
    rw (← a, ← b) (h (length xs + i) (length xs + j) d (omega arith) (omega (arith, length-append xs ys)))

pub all_left : {X : Type 0} (P : X → Type 0) (xs ys : List X) → All P (xs ++ ys) → All P xs
all_left P xs ys h = λ k d l.
    let a : get_or (xs ++ ys) k d ≡ get_or xs k d = get_or_append_left xs ys d k l in
    rw (← a) (h k d (omega (arith, length-append xs ys)))

pub all_right : {X : Type 0} (P : X → Type 0) (xs ys : List X) → All P (xs ++ ys) → All P ys
all_right P xs ys h = λ k d l.
    let a = read_right xs ys k d in
    rw (← a) (h (length xs + k) d (omega (arith, length-append xs ys)))

-- what is in a list is in one that has more in the middle
pub still_in : {X : Type 0} (a b c : List X) (x : X) → Contains (a ++ c) x → Contains (a ++ b ++ c) x
still_in a b c x has = elim (Contains-append_cases a c x has) [
  | inl left ↦ Contains-append_left (a ++ b) c x (Contains-append_left a b x left)
  | inr right ↦ Contains-append_right (a ++ b) c x right
]

pub all_joined : {X : Type 0} (P : X → Type 0) (a b c : List X) → All P (a ++ c) → All P b → All P (a ++ b ++ c)
all_joined P a b c outer inner = All-append P (a ++ b) c (All-append P a b (all_left P a c outer) inner) (all_right P a c outer)

pub alone : {X : Type 0} (b : List X) → b ++ [] ++ [] ≡ b
alone b = append-nil (b ++ []) ∙ append-nil b

-- ---- marks
pub marks_left : (xs ys : List Point) → AreMarks (xs ++ ys) → AreMarks xs
marks_left xs ys m = record {
  each = all_left IsMarkPoint xs ys m.each;
  rise = two_left (λ x y. x.time <ℤ y.time) xs ys m.rise;
  short = two_left (λ x y. (y.time -ℤ x.time) <ℤ arc_ticks) xs ys m.short;
}

pub marks_right : (xs ys : List Point) → AreMarks (xs ++ ys) → AreMarks ys
marks_right xs ys m = record {
  each = all_right IsMarkPoint xs ys m.each;
  rise = two_right (λ x y. x.time <ℤ y.time) xs ys m.rise;
  short = two_right (λ x y. (y.time -ℤ x.time) <ℤ arc_ticks) xs ys m.short;
}

pub three_mapped : {X Y : Type 0} (f : X → Y) (a b c : List X) → map f (a ++ b ++ c) ≡ map f a ++ map f b ++ map f c
three_mapped {X} {Y} f a b c = map-append f (a ++ b) c ∙ ap (λ (l : List Y). l ++ map f c) (map-append f a b)

-- the middle of an arc, counted from any of its spots
pub middle_marks : (axis : Axis) (base : SpotData) (a b c : List SpotData) → IsArc (a ++ b ++ c) → Contains (a ++ b ++ c) base → AreMarks (map (point_from axis base) (b ++ [] ++ []))
middle_marks axis base a b c arc has =
    let f : SpotData → Point = point_from axis base in
    let whole : AreMarks (map f a ++ map f b ++ map f c) = subst AreMarks (three_mapped f a b c) (marks_of_arc axis base (a ++ b ++ c) arc has) in
    let middle : AreMarks (map f b) = marks_right (map f a) (map f b) (marks_left (map f a ++ map f b) (map f c) whole) in
    subst AreMarks (ap (map f) (sym (alone b))) middle

-- the marks of one slice, counted from its first spot
pub alone_marks : (axis : Axis) (base : SpotData) (spots : List SpotData) → IsArc spots → 0 < length spots → base ≡ get_or spots 0 base → AreMarks (map (point_from axis base) (spots ++ [] ++ []))
alone_marks axis base spots arc some is = subst (λ (l : List SpotData). AreMarks (map (point_from axis base) l)) (sym (alone spots)) (marks_of_arc axis base spots arc (first_among base spots some is))
