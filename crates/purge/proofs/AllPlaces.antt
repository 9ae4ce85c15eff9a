-- The spots at all places are all the spots.
use Rattle.std.proofs.Common.{◌≡◌, ℕ, ◌+◌, ◌<◌, ◌≤◌, List, [], ◌∷◌, ◌++◌, length, take, get_or, refl, subst, sym, ap, ◌∙◌, arith}
use Rattle.std.specs.List.{All, range_with_len}
use Rattle.std.specs.Prelude.{slice_get, Some}
use Rattle.std.proofs.lemmas.List.{take_more, take_all}
use Rattle.std.proofs.lemmas.List.Elements.{All-nil, All-push, filter_map-append}
use Rattle.std.proofs.lemmas.Option.{slice_get-get_or}
use Prim.Native.Nat.{zero, suc}
use Rattle.sky_units.specs.Pairs.{below}
use Rattle.sky_units.specs.SpotData.{SpotData}
use Rattle.sky_units.specs.AtPlaces.{spots_at}

last_number : (a n : ℕ) → range_with_len a (n + 1) ≡ range_with_len a n ++ (a + n) ∷ []
last_number a zero = let e : a + 0 ≡ a = omega arith in rw e refl
last_number a (suc n) =
    let e : suc n + 1 ≡ suc (n + 1) = omega arith in
    let f : a + suc n ≡ (a + 1) + n = omega arith in
    rw (e, f, last_number (a + 1) n) refl

pub below_more : (n : ℕ) → below n ++ n ∷ [] ≡ below (n + 1)
below_more n = let e : 0 + n ≡ n = omega arith in let l = last_number 0 n in sym (rw e at l)

pub below_all : (n m : ℕ) → n ≤ m → All (λ p. p < m) (below n)
below_all zero m h = All-nil (λ p. p < m)
below_all (suc n) m h =
    let e : n + 1 ≡ suc n = omega arith in
    let b : below n ++ n ∷ [] ≡ below (suc n) = below_more n ∙ ap below e in
    subst (All (λ p. p < m)) b (All-push (λ p. p < m) (below n) n (below_all n m (omega arith)) (omega arith))

spots_taken : (spots : List SpotData) (n : ℕ) (d : SpotData) → n ≤ length spots → spots_at spots (below n) ≡ take n spots
spots_taken spots zero d h = refl
spots_taken spots (suc n) d h =
    let e : n + 1 ≡ suc n = omega arith in
    let b : below (suc n) ≡ below n ++ n ∷ [] = sym (below_more n ∙ ap below e) in
    let one : slice_get spots n ≡ Some (get_or spots n d) = slice_get-get_or spots n d (omega arith) in
    let last : spots_at spots (n ∷ []) ≡ get_or spots n d ∷ [] = rw one refl in
    let more : take (n + 1) spots ≡ take n spots ++ get_or spots n d ∷ [] = take_more spots n d (omega arith) in
    let more' : take (suc n) spots ≡ take n spots ++ get_or spots n d ∷ [] = rw e at more in
    let before = spots_taken spots n d (omega arith) in
    ap (spots_at spots) b ∙ filter_map-append (slice_get spots) (below n) (n ∷ []) ∙ ap (λ (xs : List SpotData). spots_at spots (below n) ++ xs) last ∙ ap (λ (xs : List SpotData). xs ++ get_or spots n d ∷ []) before ∙ sym more'

pub spots_all : (spots : List SpotData) (n : ℕ) → n ≡ length spots → spots_at spots (below n) ≡ spots
spots_all [] n e = rw e refl
spots_all (s ∷ rest) n e = spots_taken (s ∷ rest) n s (omega arith) ∙ take_all n (s ∷ rest) (omega arith)
