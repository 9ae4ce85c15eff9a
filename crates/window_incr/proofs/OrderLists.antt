-- Members of lists, of their parts and of permutations of them.
use Rattle.std.proofs.Common.{◌≡◌, ℕ, ◌+◌, ◌<◌, ◌≤◌, Bool, true, false, cond, None, List, [], ◌∷◌, ◌++◌, append_assoc, length, get_or, zero, suc, refl, sym, subst, ap, ◌∙◌, inl, inr, arith}
use Rattle.std.specs.List.{Contains, filter, find, flat_map, list_any, range_with_len, sum_by}
use Rattle.std.specs.List.Sorted.{IsPermutation}
use Rattle.std.proofs.lemmas.Bool.{cases_Bool, cases_order, false≢true}
use Rattle.std.proofs.lemmas.List.{get_or_default}
use Rattle.std.proofs.lemmas.List.Elements.{Contains-append_cases, Contains-append_left, Contains-append_right}
use Rattle.std.proofs.lemmas.List.Folds.{list_any_at}
use Rattle.std.proofs.lemmas.List.Sorted.{IsPermutation-middle, IsPermutation-sym, IsPermutation-trans}
use Rattle.std.proofs.lemmas.List.Sums.{sum_by-cons}
use Rattle.sky_math.specs.Lists.{EachTwo}
use Rattle.sky_units.proofs.Members.{front_or_rest, in_front, in_none, in_rest}
use Rattle.night_tree.proofs.EachTwoOf.{each_two_tail}
use Rattle.plain_tracks.proofs.Steps.{each_two_left}

-- members that are alike are the same one, where no two are alike
pub one_of : {X : Type 0} (R : X → X → Type 0) (xs : List X) → EachTwo (λ x y. R x y → ⊥) xs → ((x y : X) → R x y → R y x) → (x y : X) → Contains xs x → Contains xs y → R x y → x ≡ y
one_of R xs apart turn x y a b alike =
    let there : get_or xs b.0 x ≡ y = get_or_default xs b.0 x y b.1 ∙ b.2 in
    elim (cases_order a.0 b.0) [
      | inl e ↦ sym a.2 ∙ (ap (λ (i : ℕ). get_or xs i x) e ∙ there)
      | inr (inl lt) ↦ absurd (apart a.0 b.0 x lt b.1 (subst (λ z. R z (get_or xs b.0 x)) (sym a.2) (subst (R x) (sym there) alike)))
      | inr (inr gt) ↦ absurd (apart b.0 a.0 x gt a.1 (subst (R (get_or xs b.0 x)) (sym a.2) (subst (λ z. R z x) (sym there) (turn x y alike))))
    ]

-- ---- tests
pub some_of : {X : Type 0} (p : X → Bool) (xs : List X) → list_any p xs ≡ true → (x : X) × Contains xs x × (p x ≡ true)
some_of p [] h = absurd (false≢true h)
some_of p (x ∷ xs) h = elim (cases_Bool (p x)) [
  | inl t ↦ (x, in_front x xs, t)
  | inr f ↦ let w = some_of p xs (rw f at h) in (w.0, in_rest x xs w.0 w.1, w.2)
]

pub any_of : {X : Type 0} (p : X → Bool) (xs : List X) (x : X) → Contains xs x → p x ≡ true → list_any p xs ≡ true
any_of p xs x c t = list_any_at p xs c.0 x c.1 (ap p c.2 ∙ t)

pub no_any : {X : Type 0} (p : X → Bool) (xs : List X) → ((x : X) → Contains xs x → p x ≡ false) → list_any p xs ≡ false
no_any p xs h = elim (cases_Bool (list_any p xs)) [
  | inl t ↦ let w = some_of p xs t in absurd (false≢true (sym (h w.0 w.1) ∙ w.2))
  | inr f ↦ f
]

pub found_none : (p : ℕ → Bool) (a n : ℕ) → ((k : ℕ) → a ≤ k → k < a + n → p k ≡ false) → find p (range_with_len a n) ≡ None
found_none p a zero h = refl
found_none p a (suc n) h = rw (h a (omega arith) (omega arith)) (found_none p (a + 1) n (λ k l m. h k (omega arith) (omega arith)))

-- ---- lists that are joined
pub in_parts : {X Y : Type 0} (f : X → List Y) (xs : List X) (x : X) (y : Y) → Contains xs x → Contains (f x) y → Contains (flat_map f xs) y
in_parts f [] x y a b = absurd (in_none x a)
in_parts f (z ∷ xs) x y a b = elim (front_or_rest z xs x a) [
  | inl e ↦ Contains-append_left (f z) (flat_map f xs) y (subst (λ w. Contains (f w) y) (sym e) b)
  | inr c ↦ Contains-append_right (f z) (flat_map f xs) y (in_parts f xs x y c b)
]

pub of_parts : {X Y : Type 0} (f : X → List Y) (xs : List X) (y : Y) → Contains (flat_map f xs) y → (x : X) × Contains xs x × Contains (f x) y
of_parts f [] y c = absurd (in_none y c)
of_parts f (z ∷ xs) y c = elim (Contains-append_cases (f z) (flat_map f xs) y c) [
  | inl a ↦ (z, in_front z xs, a)
  | inr a ↦ let w = of_parts f xs y a in (w.0, in_rest z xs w.0 w.1, w.2)
]

each_two_right : {X : Type 0} (R : X → X → Type 0) (xs ys : List X) → EachTwo R (xs ++ ys) → EachTwo R ys
each_two_right R [] ys h = h
each_two_right R (x ∷ xs) ys h = each_two_right R xs ys (each_two_tail R x (xs ++ ys) h)

pub two_of_part : {X Y : Type 0} (R : Y → Y → Type 0) (f : X → List Y) (xs : List X) (x : X) → Contains xs x → EachTwo R (flat_map f xs) → EachTwo R (f x)
two_of_part R f [] x c h = absurd (in_none x c)
two_of_part R f (z ∷ xs) x c h = elim (front_or_rest z xs x c) [
  | inl e ↦ subst (λ w. EachTwo R (f w)) e (each_two_left R (f z) (flat_map f xs) h)
  | inr d ↦ two_of_part R f xs x d (each_two_right R (f z) (flat_map f xs) h)
]

-- ---- a member taken to the front
pub parted : {X : Type 0} (xs : List X) (x : X) → Contains xs x → (front : List X) × (back : List X) × (xs ≡ front ++ x ∷ back)
parted [] x c = absurd (in_none x c)
parted (y ∷ ys) x c = elim (front_or_rest y ys x c) [
  | inl e ↦ ([], ys, ap (λ z. z ∷ ys) e)
  | inr d ↦ let w = parted ys x d in (y ∷ w.0, w.1, ap (λ l. y ∷ l) w.2)
]

pub to_front : {X : Type 0} (held left all : List X) (x : X) → IsPermutation (held ++ left) all → Contains left x → (rest : List X) × IsPermutation (x ∷ (held ++ rest)) all
to_front held left all x whole c =
    let w = parted left x c in
    let joined : held ++ left ≡ (held ++ w.0) ++ x ∷ w.1 = ap (λ l. held ++ l) w.2 ∙ sym (append_assoc held w.0 (x ∷ w.1)) in
    let whole' : IsPermutation ((held ++ w.0) ++ x ∷ w.1) all = subst (λ l. IsPermutation l all) joined whole in
    let out = IsPermutation-trans (x ∷ ((held ++ w.0) ++ w.1)) ((held ++ w.0) ++ x ∷ w.1) all
    (IsPermutation-sym ((held ++ w.0) ++ x ∷ w.1) (x ∷ ((held ++ w.0) ++ w.1)) (IsPermutation-middle (held ++ w.0) x w.1)) whole' in
    (w.0 ++ w.1, subst (λ l. IsPermutation (x ∷ l) all) (append_assoc held w.0 w.1) out)

-- ---- how many pass a test
pub counted : {X : Type 0} (p : X → Bool) (xs : List X) → length (filter p xs) ≡ sum_by (λ x. cond (p x) 1 0) xs
counted p [] = refl
counted p (x ∷ xs) = elim (cases_Bool (p x)) [
  | inl t ↦ let rest = counted p xs in rw (sum_by-cons (λ x. cond (p x) 1 0) x xs, t) (omega (arith, rest))
  | inr f ↦ let rest = counted p xs in rw (sum_by-cons (λ x. cond (p x) 1 0) x xs, f) (omega (arith, rest))
]
