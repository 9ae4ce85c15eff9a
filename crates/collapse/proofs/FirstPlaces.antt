-- The first places of the pairs of a night don't fall.
use Rattle.std.proofs.Common.{◌≡◌, ℕ, zero, suc, ◌+◌, ◌≤◌, List, [], ◌∷◌, ◌++◌, length, map, refl, arith}
use Rattle.std.specs.List.{All, flat_map, range_with_len}
use Rattle.std.specs.List.Sorted.{IsNonDecreasingBy}
use Rattle.std.proofs.lemmas.List.Elements.{All-append, All-head, All-map, All-nil, All-tail, All-weaker}
use Rattle.std.proofs.lemmas.List.Kept.{IsNonDecreasingBy-filter}
use Rattle.sky_units.specs.Pairs.{all_pairs, are_pair_at, below, pairs_of}
use Rattle.sky_units.specs.SettingsData.{SettingsData}
use Rattle.sky_units.specs.SpotData.{SpotData}

abbrev pub FirstsDontFall : List (ℕ × ℕ) → Type 0
FirstsDontFall pairs = IsNonDecreasingBy (λ (pair : ℕ × ℕ). pair.0) pairs

-- the pairs of each of m numbers from i on and one below n
abbrev rows : ℕ → ℕ → ℕ → List (ℕ × ℕ)
rows n i m = flat_map (λ i. map (λ j. (i, j)) (below n)) (range_with_len i m)

in_front : (pair : ℕ × ℕ) (rest : List (ℕ × ℕ)) → All (λ (other : ℕ × ℕ). pair.0 ≤ other.0) rest → FirstsDontFall rest → FirstsDontFall (pair ∷ rest)
in_front pair rest first order zero zero d ij jn = omega arith
in_front pair rest first order zero (suc j) d ij jn = first j d (omega arith)
in_front pair rest first order (suc i) zero d ij jn = absurd (omega arith)
in_front pair rest first order (suc i) (suc j) d ij jn = order i j d (omega arith) (omega arith)

row_in_front : (i : ℕ) (row rest : List (ℕ × ℕ)) → All (λ (pair : ℕ × ℕ). pair.0 ≡ i) row → All (λ (pair : ℕ × ℕ). i ≤ pair.0) rest → FirstsDontFall rest → FirstsDontFall (row ++ rest)
row_in_front i [] rest own from order = order
row_in_front i (pair ∷ row) rest own from order =
    let e : pair.0 ≡ i = All-head (λ (p : ℕ × ℕ). p.0 ≡ i) pair row own in
    let own' = All-tail (λ (p : ℕ × ℕ). p.0 ≡ i) pair row own in
    in_front pair (row ++ rest)
    (All-append (λ (p : ℕ × ℕ). pair.0 ≤ p.0) row rest (All-weaker (λ (p : ℕ × ℕ). p.0 ≡ i) (λ (p : ℕ × ℕ). pair.0 ≤ p.0) (λ p same. omega (arith, e, same)) row own')
    (All-weaker (λ (p : ℕ × ℕ). i ≤ p.0) (λ (p : ℕ × ℕ). pair.0 ≤ p.0) (λ p l. omega (arith, e, l)) rest from))
    (row_in_front i row rest own' from order)

rows_from : (n i m k : ℕ) → k ≤ i → All (λ (pair : ℕ × ℕ). k ≤ pair.0) (rows n i m)
rows_from n i zero k h = All-nil (λ (pair : ℕ × ℕ). k ≤ pair.0)
rows_from n i (suc m) k h = All-append (λ (pair : ℕ × ℕ). k ≤ pair.0) (map (λ j. (i, j)) (below n)) (rows n (i + 1) m) (All-map (λ (pair : ℕ × ℕ). k ≤ pair.0) (λ j. (i, j)) (below n) (λ at d l. h)) (rows_from n (i + 1) m k (omega arith))

rows_in_order : (n i m : ℕ) → FirstsDontFall (rows n i m)
rows_in_order n i zero = λ a b d ab bn. absurd (omega arith)
rows_in_order n i (suc m) = row_in_front i (map (λ j. (i, j)) (below n)) (rows n (i + 1) m) (All-map (λ (pair : ℕ × ℕ). pair.0 ≡ i) (λ j. (i, j)) (below n) (λ at d l. refl)) (rows_from n (i + 1) m i (omega arith)) (rows_in_order n (i + 1) m)

pub firsts_dont_fall : (settings : SettingsData) (spots : List SpotData) → FirstsDontFall (pairs_of settings spots)
firsts_dont_fall settings spots = IsNonDecreasingBy-filter (λ (pair : ℕ × ℕ). pair.0) (are_pair_at settings spots) (all_pairs (length spots) (length spots)) (rows_in_order (length spots) 0 (length spots))
