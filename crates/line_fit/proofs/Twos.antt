-- Each two elements as a list, and as places.
use Rattle.std.proofs.Common.{◌≡◌, ℕ, ◌+◌, Bool, true, false, ◌&&◌, List, [], ◌∷◌, ◌++◌, map, length, get_or, refl, ap, ◌∙◌, length-append, arith}
use Rattle.std.proofs.lemmas.List.{get_or_append_left, get_or-append_right, get_or-map, length-map}
use Rattle.std.proofs.lemmas.List.Elements.{All-nil, All-append, All-map}
use Rattle.std.specs.List.{All}
use Prim.Native.Nat.{zero, suc}
use Rattle.sky_math.specs.Lists.{EachTwo}
use Rattle.line_fit.specs.Lines.{each_two}

pub both : (a b : Bool) → (a && b) ≡ true → (a ≡ true) × (b ≡ true)
both true b h = (refl, h)
both false true h = (h, refl)
both false false h = (h, h)

pub and_of : (a b : Bool) → a ≡ true → b ≡ true → (a && b) ≡ true
and_of a b p q = rw (p, q) refl

-- ---- what holds of a list holds of its parts
pub all_left : {X : Type 0} (P : X → Type 0) (xs ys : List X) → All P (xs ++ ys) → All P xs
all_left P xs ys h = λ k d lt. let l = h k d (omega (arith, length-append xs ys)) in rw (get_or_append_left xs ys d k lt) at l

pub all_right : {X : Type 0} (P : X → Type 0) (xs ys : List X) → All P (xs ++ ys) → All P ys
all_right P xs ys h = λ k d lt.
    let l = h (length xs + k) d (omega (arith, length-append xs ys)) in
    let e : get_or (xs ++ ys) (length xs + k) d ≡ get_or ys k d = get_or-append_right xs ys (length xs) (length xs + k) d refl (omega arith) ∙ ap (λ (n : ℕ). get_or ys n d) (omega arith) in
    rw e at l

pub all_unmapped : {X Y : Type 0} (P : X → Type 0) (f : Y → X) (ys : List Y) → All P (map f ys) → All (λ y. P (f y)) ys
all_unmapped P f ys h = λ k d lt.
    let l = h k (f d) (omega (arith, length-map ys f)) in
    rw (get_or-map f ys k d (f d) lt) at l

pub all_rest : {X : Type 0} (P : X → Type 0) (x : X) (xs : List X) → All P (x ∷ xs) → All P xs
all_rest P x xs h = λ k d lt. h (suc k) d (omega arith)

-- ---- from places to the list, and back
pub all_of_two : {X : Type 0} (R : X → X → Type 0) (xs : List X) → EachTwo R xs → All (λ p. R p.0 p.1) (each_two xs)
all_of_two R [] h = All-nil (λ p. R p.0 p.1)
all_of_two R (x ∷ rest) h =
    All-append (λ p. R p.0 p.1) (map (λ y. (x, y)) rest) (each_two rest)
    (All-map (λ p. R p.0 p.1) (λ y. (x, y)) rest (λ k d lt. h zero (suc k) d (omega arith) (omega arith)))
    (all_of_two R rest (λ i j d ij jn. h (suc i) (suc j) d (omega arith) (omega arith)))

pub by_place : {X : Type 0} (R : X → X → Type 0) (x : X) (rest : List X) → All (R x) rest → EachTwo R rest → EachTwo R (x ∷ rest)
by_place R x rest first others zero zero d ij jn = absurd (omega arith)
by_place R x rest first others zero (suc j) d ij jn = first j d (omega arith)
by_place R x rest first others (suc i) zero d ij jn = absurd (omega arith)
by_place R x rest first others (suc i) (suc j) d ij jn = others i j d (omega arith) (omega arith)

pub two_of_all : {X : Type 0} (R : X → X → Type 0) (xs : List X) → All (λ p. R p.0 p.1) (each_two xs) → EachTwo R xs
two_of_all R [] h = λ i j d ij jn. absurd (omega arith)
two_of_all R (x ∷ rest) h =
    by_place R x rest
    (all_unmapped (λ p. R p.0 p.1) (λ y. (x, y)) rest (all_left (λ p. R p.0 p.1) (map (λ y. (x, y)) rest) (each_two rest) h))
    (two_of_all R rest (all_right (λ p. R p.0 p.1) (map (λ y. (x, y)) rest) (each_two rest) h))

-- ---- the first of a list, and the rest
pub first_of_two : {X : Type 0} (R : X → X → Type 0) (x : X) (rest : List X) → EachTwo R (x ∷ rest) → All (R x) rest
first_of_two R x rest h = λ k d lt. h zero (suc k) d (omega arith) (omega arith)

pub rest_of_two : {X : Type 0} (R : X → X → Type 0) (x : X) (rest : List X) → EachTwo R (x ∷ rest) → EachTwo R rest
rest_of_two R x rest h = λ i j d ij jn. h (suc i) (suc j) d (omega arith) (omega arith)
