-- Members of lists, of maps and of filters.
use Rattle.std.proofs.Common.{◌≡◌, Bool, true, false, cond, List, [], ◌∷◌, ◌⊎◌, inl, inr, map, refl, sym, subst, arith}
use Rattle.std.specs.List.{Contains, filter}
use Rattle.std.proofs.lemmas.List.Elements.{Contains-append_cases, Contains-append_left, Contains-append_right, Contains-push, Contains-push_cases}

pub in_none : {X : Type 0} → (x : X) → Contains [] x → ⊥
in_none x h = let less = h.1 in omega arith

pub in_front : {X : Type 0} → (x : X) (xs : List X) → Contains (x ∷ xs) x
in_front x xs = Contains-append_left (x ∷ []) xs x (Contains-push [] x)

pub in_rest : {X : Type 0} → (x : X) (xs : List X) (y : X) → Contains xs y → Contains (x ∷ xs) y
in_rest x xs y c = Contains-append_right (x ∷ []) xs y c

pub front_or_rest : {X : Type 0} → (x : X) (xs : List X) (y : X) → Contains (x ∷ xs) y → (x ≡ y) ⊎ Contains xs y
front_or_rest x xs y c = elim (Contains-append_cases (x ∷ []) xs y c) [
  | inl d ↦ elim (Contains-push_cases [] x y d) [ inl f ↦ absurd (in_none y f) | inr e ↦ inl e ]
  | inr d ↦ inr d
]

pub in_map : {X Y : Type 0} (f : X → Y) (xs : List X) (x : X) → Contains xs x → Contains (map f xs) (f x)
in_map f [] x c = absurd (in_none x c)
in_map f (y ∷ ys) x c = elim (front_or_rest y ys x c) [
  | inl e ↦ subst (λ z. Contains (f y ∷ map f ys) (f z)) e (in_front (f y) (map f ys))
  | inr d ↦ in_rest (f y) (map f ys) (f x) (in_map f ys x d)
]

pub of_map : {X Y : Type 0} (f : X → Y) (xs : List X) (y : Y) → Contains (map f xs) y → (x : X) × Contains xs x × (f x ≡ y)
of_map f [] y c = absurd (in_none y c)
of_map f (x ∷ xs) y c = elim (front_or_rest (f x) (map f xs) y c) [
  | inl e ↦ (x, in_front x xs, e)
  | inr d ↦ (let w = of_map f xs y d in (w.0, in_rest x xs w.0 w.1, w.2))
]

module _ {X : Type 0} (p : X → Bool) where
  pub in_filter : (xs : List X) (x : X) → Contains xs x → p x ≡ true → Contains (filter p xs) x
  in_filter [] x c h = absurd (in_none x c)
  in_filter (y ∷ ys) x c h = elim (front_or_rest y ys x c) [
    | inl e ↦
        let here : p y ≡ true = subst (λ z. p z ≡ true) (sym e) h in
        subst (λ b. Contains (cond b (y ∷ filter p ys) (filter p ys)) x) (sym here) (subst (Contains (y ∷ filter p ys)) e (in_front y (filter p ys)))
    | inr d ↦ elim (p y) as (λ b. Contains (cond b (y ∷ filter p ys) (filter p ys)) x) [
      | true ↦ in_rest y (filter p ys) x (in_filter ys x d h)
      | false ↦ in_filter ys x d h
    ]
  ]

  pub of_filter : (xs : List X) (x : X) → Contains (filter p xs) x → Contains xs x × (p x ≡ true)
  of_filter [] x c = absurd (in_none x c)
  of_filter (y ∷ ys) x c =
      (elim (p y) as (λ b. p y ≡ b → Contains (cond b (y ∷ filter p ys) (filter p ys)) x → Contains (y ∷ ys) x × (p x ≡ true)) [
        | true ↦ λ t k. elim (front_or_rest y (filter p ys) x k) [
          | inl e ↦ (subst (Contains (y ∷ ys)) e (in_front y ys), subst (λ z. p z ≡ true) e t)
          | inr d ↦ (let w = of_filter ys x d in (in_rest y ys x w.0, w.1))
        ]
        | false ↦ λ f k. (let w = of_filter ys x k in (in_rest y ys x w.0, w.1))
      ]) refl c
