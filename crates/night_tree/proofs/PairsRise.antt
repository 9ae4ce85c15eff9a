-- The pairs of a night stand in the lexicographic order of their places, each once.
use Rattle.std.proofs.Common.{◌≡◌, ℕ, ◌+◌, ◌<◌, pos, true, List, [], ◌∷◌, length, map, get_or, refl, sym, ap, ◌∙◌, arith}
use Rattle.std.specs.Cmp.Lexicographic.{slice_cmp}
use Rattle.std.specs.List.{All, filter, flat_map}
use Rattle.std.specs.Ordering.{int_eq, nat_cmp}
use Rattle.std.specs.declared.cmp.Ordering.TheVariants.{Less, Equal}
use Rattle.std.proofs.lemmas.Bool.Decides.{nat_tests}
use Rattle.std.proofs.lemmas.List.Elements.{All-append, All-head, All-map, All-nil, All-tail}
use Rattle.std.proofs.lemmas.List.FromFn.{get_or-range_with_len, length-range_with_len}
use Rattle.std.proofs.lemmas.List.Kept.{AllPairs-filter}
use Rattle.std.proofs.lemmas.Simd.{map-map}
use Rattle.sky_math.specs.Lists.{EachTwo}
use Rattle.sky_units.specs.AtPlaces.{spots_at}
use Rattle.sky_units.specs.Pairs.{all_pairs, are_pair_at, below, pairs_of}
use Rattle.sky_units.specs.SettingsData.{SettingsData}
use Rattle.sky_units.specs.SpotData.{SpotData}
use Rattle.night_tree.specs.Nights.{in_order, places_of_pair, tracklets_of, with_set}
use Rattle.night_tree.proofs.EachTwoOf.{each_two_append, each_two_cons, each_two_head, each_two_tail}

abbrev Comes : List ℕ → List ℕ → Type 0
Comes one later = slice_cmp nat_cmp one later ≡ Less

abbrev PairComes : ℕ × ℕ → ℕ × ℕ → Type 0
PairComes one later = Comes (places_of_pair one) (places_of_pair later)

nat_less : (a b : ℕ) → a < b → nat_cmp a b ≡ Less
nat_less a b h = grind (arith, nat_tests)

nat_same : (a : ℕ) → nat_cmp a a ≡ Equal
nat_same a = grind (arith, nat_tests)

by_first : (one later : ℕ × ℕ) → one.0 < later.0 → PairComes one later
by_first one later h = rw (nat_less one.0 later.0 h) refl

by_second : (i j k : ℕ) → j < k → PairComes (i, j) (i, k)
by_second i j k h = rw (nat_same i, nat_less j k h) refl

each_two_map : {X Y : Type 0} (R : Y → Y → Type 0) (f : X → Y) (xs : List X) → EachTwo (λ x y. R (f x) (f y)) xs → EachTwo R (map f xs)
each_two_map R f [] h = λ i j d ij jn. absurd (omega arith)
each_two_map R f (x ∷ xs) h =
    each_two_cons R (f x) (map f xs) (All-map (R (f x)) f xs (each_two_head (λ a b. R (f a) (f b)) x xs h)) (each_two_map R f xs (each_two_tail (λ a b. R (f a) (f b)) x xs h))

-- ---- all pairs of places
abbrev Rises : ℕ → ℕ → Type 0
Rises i j = i < j

below_rises : (n : ℕ) → EachTwo Rises (below n)
below_rises n = λ i j d ij jn.
    let within : j < n = omega (arith, jn, length-range_with_len 0 n) in
    let a : get_or (below n) i d ≡ 0 + i = get_or-range_with_len 0 n i d (omega arith) in
    let b : get_or (below n) j d ≡ 0 + j = get_or-range_with_len 0 n j d within in
    omega (arith, a, b)

abbrev row : List ℕ → ℕ → List (ℕ × ℕ)
row js i = map (λ j. (i, j)) js

behind : (js : List ℕ) (i : ℕ) (is : List ℕ) → All (Rises i) is → All (λ (pair : ℕ × ℕ). i < pair.0) (flat_map (row js) is)
behind js i [] h = All-nil (λ (pair : ℕ × ℕ). i < pair.0)
behind js i (k ∷ is) h =
    All-append (λ (pair : ℕ × ℕ). i < pair.0) (row js k) (flat_map (row js) is) (All-map (λ (pair : ℕ × ℕ). i < pair.0) (λ j. (k, j)) js (λ at d l. All-head (Rises i) k is h)) (behind js i is (All-tail (Rises i) k is h))

rows_rise : (js is : List ℕ) → EachTwo Rises js → EachTwo Rises is → EachTwo PairComes (flat_map (row js) is)
rows_rise js [] h k = λ i j d ij jn. absurd (omega arith)
rows_rise js (i ∷ is) h k =
    let later = behind js i is (each_two_head Rises i is k) in
    each_two_append PairComes (row js i) (flat_map (row js) is)
    (each_two_map PairComes (λ j. (i, j)) js (λ a b d ab bn. by_second i (get_or js a d) (get_or js b d) (h a b d ab bn)))
    (rows_rise js is h (each_two_tail Rises i is k))
    (All-map (λ (pair : ℕ × ℕ). All (PairComes pair) (flat_map (row js) is)) (λ j. (i, j)) js (λ a d an. λ b e bn. by_first (i, get_or js a d) (get_or (flat_map (row js) is) b e) (later b e bn)))

pairs_rise : (settings : SettingsData) (spots : List SpotData) → EachTwo PairComes (pairs_of settings spots)
pairs_rise settings spots = AllPairs-filter PairComes (are_pair_at settings spots) (all_pairs (length spots) (length spots)) (rows_rise (below (length spots)) (below (length spots)) (below_rises (length spots)) (below_rises (length spots)))

-- ---- what is in order stays
in_front : (set : List ℕ) (rest : List (List ℕ)) → All (Comes set) rest → with_set set rest ≡ set ∷ rest
in_front set [] h = refl
in_front set (first ∷ rest) h = rw (All-head (Comes set) first rest h) refl

already : (sets : List (List ℕ)) → EachTwo Comes sets → in_order sets ≡ sets
already [] h = refl
already (set ∷ rest) h = ap (with_set set) (already rest (each_two_tail Comes set rest h)) ∙ in_front set rest (each_two_head Comes set rest h)

-- the tracklets of a night where pairs are not collapsed
pub of_pairs : (settings : SettingsData) (spots : List SpotData) → int_eq settings.stages (pos 1) ≡ true → tracklets_of settings spots ≡ map (λ (pair : ℕ × ℕ). spots_at spots (places_of_pair pair)) (pairs_of settings spots)
of_pairs settings spots one =
    let sets : List (List ℕ) = map places_of_pair (pairs_of settings spots) in
    rw one (ap (map (spots_at spots)) (already sets (each_two_map Comes places_of_pair (pairs_of settings spots) (pairs_rise settings spots))) ∙ map-map (spots_at spots) places_of_pair (pairs_of settings spots))
