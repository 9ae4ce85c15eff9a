-- Lists joined into one that is strictly in order.
use Rattle.std.proofs.Common.{◌≡◌, Bool, List, [], ◌∷◌, ◌++◌, get_or, suc, inl, inr, arith}
use Rattle.std.specs.List.{All, AllPairs, filter, flat_map}
use Rattle.std.specs.List.Sorted.{IsStrictlySortedBy}
use Rattle.std.specs.declared.cmp.Ordering.{Ordering}
use Rattle.std.specs.declared.cmp.Ordering.TheVariants.{Less}
use Rattle.std.proofs.lemmas.Bool.{cases_Bool}
use Rattle.std.proofs.lemmas.List.Elements.{All-nil, All-cons, All-head, All-tail, All-append, All-from_recursion, recursion_from_All}
use Rattle.std.proofs.lemmas.List.Kept.{AllPairs-cons}

-- each of the first list is below each of the second
abbrev pub AllBelow : {X : Type 0} → (X → X → Ordering) → List X → List X → Type 0
AllBelow cmp xs ys = All (λ x. All (λ y. cmp x y ≡ Less) ys) xs

all_parts : {X : Type 0} (P : X → Type 0) (xs ys : List X) → All P (xs ++ ys) → All P xs × All P ys
all_parts P [] ys h = (All-nil P, h)
all_parts P (x ∷ xs) ys h =
    let rest = all_parts P xs ys (All-tail P x (xs ++ ys) h) in
    (All-cons P x xs (All-head P x (xs ++ ys) h) rest.0, rest.1)

pub pairs_append : {X : Type 0} (R : X → X → Type 0) (xs ys : List X) → AllPairs R xs → AllPairs R ys → All (λ x. All (R x) ys) xs → AllPairs R (xs ++ ys)
pairs_append R [] ys h k across = k
pairs_append R (x ∷ xs) ys h k across =
    AllPairs-cons R x (xs ++ ys) (All-append (R x) xs ys (λ j d l. h 0 (suc j) d (omega arith) (omega arith)) (All-head (λ z. All (R z) ys) x xs across))
    (pairs_append R xs ys (λ i j d l m. h (suc i) (suc j) d (omega arith) (omega arith)) k (All-tail (λ z. All (R z) ys) x xs across))

module _ {X : Type 0} (cmp : X → X → Ordering) where
  pub sorted_from_pairs : (xs : List X) → AllPairs (λ x y. cmp x y ≡ Less) xs → IsStrictlySortedBy cmp xs
  unfolding IsStrictlySortedBy
  sorted_from_pairs [] h = tt
  sorted_from_pairs (x ∷ xs) h =
      (recursion_from_All (λ y. cmp x y ≡ Less) xs (λ k d l. h 0 (suc k) d (omega arith) (omega arith)), sorted_from_pairs xs (λ i j d l m. h (suc i) (suc j) d (omega arith) (omega arith)))

  record Halves (xs ys : List X) : Type 0 where
    front : IsStrictlySortedBy cmp xs
    back : IsStrictlySortedBy cmp ys
    across : AllBelow cmp xs ys

  halves : (xs ys : List X) → IsStrictlySortedBy cmp (xs ++ ys) → Halves xs ys
  unfolding IsStrictlySortedBy
  halves [] ys h = record { front = tt; back = h; across = All-nil (λ z. All (λ y. cmp z y ≡ Less) ys) }
  halves (x ∷ xs) ys h =
      let rest = halves xs ys h.1 in
      let above = all_parts (λ y. cmp x y ≡ Less) xs ys (All-from_recursion (λ y. cmp x y ≡ Less) (xs ++ ys) h.0) in
      record {
        front = (recursion_from_All (λ y. cmp x y ≡ Less) xs above.0, rest.front);
        back = rest.back;
        across = All-cons (λ z. All (λ y. cmp z y ≡ Less) ys) x xs above.1 rest.across;
      }

  pub sorted_append : (xs ys : List X) → IsStrictlySortedBy cmp xs → IsStrictlySortedBy cmp ys → AllBelow cmp xs ys → IsStrictlySortedBy cmp (xs ++ ys)
  unfolding IsStrictlySortedBy
  sorted_append [] ys h k across = k
  sorted_append (x ∷ xs) ys h k across =
      let above = All-append (λ y. cmp x y ≡ Less) xs ys (All-from_recursion (λ y. cmp x y ≡ Less) xs h.0) (All-head (λ z. All (λ y. cmp z y ≡ Less) ys) x xs across) in
      (recursion_from_All (λ y. cmp x y ≡ Less) (xs ++ ys) above, sorted_append xs ys h.1 k (All-tail (λ z. All (λ y. cmp z y ≡ Less) ys) x xs across))

module _ {W X : Type 0} (part : W → List X) where
  all_kept : (P : X → Type 0) (p : W → Bool) (ws : List W) → All P (flat_map part ws) → All P (flat_map part (filter p ws))
  all_kept P p [] h = h
  all_kept P p (w ∷ ws) h =
      let halves = all_parts P (part w) (flat_map part ws) h in
      let rest = all_kept P p ws halves.1 in
      elim (cases_Bool (p w)) [
        | inl t ↦ rw t (All-append P (part w) (flat_map part (filter p ws)) halves.0 rest)
        | inr f ↦ rw f rest
      ]

  pub all_joined : (P : X → Type 0) (Q : W → Type 0) → ((w : W) → Q w → All P (part w)) → (ws : List W) → All Q ws → All P (flat_map part ws)
  all_joined P Q each [] h = All-nil P
  all_joined P Q each (w ∷ ws) h = All-append P (part w) (flat_map part ws) (each w (All-head Q w ws h)) (all_joined P Q each ws (All-tail Q w ws h))

  pub sorted_kept : (cmp : X → X → Ordering) (p : W → Bool) (ws : List W) → IsStrictlySortedBy cmp (flat_map part ws) → IsStrictlySortedBy cmp (flat_map part (filter p ws))
  sorted_kept cmp p [] h = h
  sorted_kept cmp p (w ∷ ws) h =
      let both = halves cmp (part w) (flat_map part ws) h in
      let rest = sorted_kept cmp p ws both.back in
      elim (cases_Bool (p w)) [
        | inl t ↦ rw t (sorted_append cmp (part w) (flat_map part (filter p ws)) both.front rest
            (λ k d l. all_kept (λ y. cmp (get_or (part w) k d) y ≡ Less) p ws (both.across k d l)))
        | inr f ↦ rw f rest
      ]
