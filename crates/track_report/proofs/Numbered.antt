-- Items numbered in order.
use Rattle.std.proofs.Common.{◌≡◌, refl, ℕ, suc, ◌+◌, ◌<◌, List, [], ◌∷◌, ◌++◌, length, take, get_or, ap, arith}
use Rattle.std.proofs.Math.Seq.{take-suc}
use Rattle.std.proofs.lemmas.List.{length-take-le, flat_map_more}
use Rattle.std.specs.List.{enumerate_from, flat_map}

-- one more item at the end has the next number
pub enumerate_more : {X : Type 0} (first : ℕ) (xs : List X) (x : X) → enumerate_from first (xs ++ x ∷ []) ≡ enumerate_from first xs ++ (first + length xs, x) ∷ []
enumerate_more first [] x = ap (λ n. (n, x) ∷ []) (omega arith)
enumerate_more first (y ∷ xs) x =
    let next : first + 1 + length xs ≡ first + suc (length xs) = omega arith
    in ap (λ rest. (first, y) ∷ rest) (rw (enumerate_more (first + 1) xs x, next) refl)

-- what is written of the items before place i, and then of the item there under the number i + 1
pub numbered_next : {X A : Type 0} (f : ℕ × X → List A) (before : List A) (xs : List X) (i : ℕ) (x : X) → i < length xs → get_or xs i x ≡ x →
    (before ++ flat_map f (enumerate_from 1 (take i xs))) ++ f (i + 1, x) ≡ before ++ flat_map f (enumerate_from 1 (take (i + 1) xs))
numbered_next f before xs i x within is =
    let next : i + 1 ≡ suc i = omega arith in
    let count : 1 + length (take i xs) ≡ i + 1 =
    let kept : length (take i xs) ≡ i = length-take-le i xs (omega arith) in omega (arith, kept) in
    let taken : take (i + 1) xs ≡ take i xs ++ x ∷ [] = rw (next, take-suc xs i x within, is) refl in
    let more : enumerate_from 1 (take (i + 1) xs) ≡ enumerate_from 1 (take i xs) ++ (i + 1, x) ∷ [] =
    rw (taken, enumerate_more 1 (take i xs) x, count) refl in
    rw more (flat_map_more f before (enumerate_from 1 (take i xs)) (i + 1, x))
