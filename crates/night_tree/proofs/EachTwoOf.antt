-- What holds of each two elements of a list: of its parts, and of two lists together.
use Rattle.std.proofs.Common.{List, ◌∷◌, ◌++◌, [], zero, suc, arith}
use Rattle.std.specs.List.{All}
use Rattle.std.proofs.lemmas.List.Elements.{All-append, All-head, All-tail}
use Rattle.sky_math.specs.Lists.{EachTwo}

pub each_two_tail : {X : Type 0} (R : X → X → Type 0) (x : X) (xs : List X) → EachTwo R (x ∷ xs) → EachTwo R xs
each_two_tail R x xs h = λ i j d ij jn. h (suc i) (suc j) d (omega arith) (omega arith)

pub each_two_head : {X : Type 0} (R : X → X → Type 0) (x : X) (xs : List X) → EachTwo R (x ∷ xs) → All (R x) xs
each_two_head R x xs h = λ k d kn. h 0 (suc k) d (omega arith) (omega arith)

pub each_two_cons : {X : Type 0} (R : X → X → Type 0) (x : X) (xs : List X) → All (R x) xs → EachTwo R xs → EachTwo R (x ∷ xs)
each_two_cons R x xs first rest zero zero d ij jn = absurd (omega arith)
each_two_cons R x xs first rest zero (suc j) d ij jn = first j d (omega arith)
each_two_cons R x xs first rest (suc i) zero d ij jn = absurd (omega arith)
each_two_cons R x xs first rest (suc i) (suc j) d ij jn = rest i j d (omega arith) (omega arith)

pub each_two_append : {X : Type 0} (R : X → X → Type 0) (xs ys : List X) → EachTwo R xs → EachTwo R ys → All (λ x. All (R x) ys) xs → EachTwo R (xs ++ ys)
each_two_append R [] ys h k across = k
each_two_append R (x ∷ xs) ys h k across =
    each_two_cons R x (xs ++ ys) (All-append (R x) xs ys (each_two_head R x xs h) (All-head (λ z. All (R z) ys) x xs across))
    (each_two_append R xs ys (each_two_tail R x xs h) k (All-tail (λ z. All (R z) ys) x xs across))
