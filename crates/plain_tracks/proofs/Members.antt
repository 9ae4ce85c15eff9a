-- Lists of exactly the things of a property, and properties that hold or don't of each thing.
use Rattle.std.proofs.Common.{◌≡◌, Bool, true, false, None, Some, List, [], ◌∷◌, map, refl, sym, subst, ap, ◌∙◌, ◌↔◌, arith}
use Rattle.std.proofs.lemmas.Bool.{cases_Bool, false≢true}
use Rattle.std.proofs.lemmas.List.Elements.{All-nil, All-cons, All-head, All-tail, All-map}
use Rattle.std.specs.List.{All, Contains, filter, find, list_any}
use Rattle.std.specs.Map.{lookup}
use mathlib.Core.Logic.{◌⊎◌, inl, inr}
use Rattle.sky_math.specs.Lists.{EachTwo}
use Rattle.night_tree.proofs.EachTwoOf.{each_two_cons, each_two_head, each_two_tail}
use Rattle.plain_tracks.proofs.Entries.{in_front, in_rest, front_or_rest}
use Rattle.plain_tracks.proofs.Steps.{in_none, mapped}

-- it holds or doesn't
abbrev pub IsDecided : Type 0 → Type 0
IsDecided P = P ⊎ (¬ P)

pub reworded : {P Q : Type 0} → (P → Q) → (Q → P) → IsDecided P → IsDecided Q
reworded there back (inl p) = inl (there p)
reworded there back (inr n) = inr (λ q. n (back q))

pub both : {P Q : Type 0} → IsDecided P → IsDecided Q → IsDecided (P × Q)
both (inl p) (inl q) = inl (p, q)
both (inl p) (inr n) = inr (λ w. n w.1)
both (inr n) d = inr (λ w. n w.0)

pub implied : {P Q : Type 0} → IsDecided P → IsDecided Q → IsDecided (P → Q)
implied (inl p) (inl q) = inl (λ p'. q)
implied (inl p) (inr n) = inr (λ h. n (h p))
implied (inr n) d = inl (λ p. absurd (n p))

-- ---- of each thing of a list
pub all_or_not : {X : Type 0} → (P : X → Type 0) → ((x : X) → IsDecided (P x)) → (xs : List X) → IsDecided (All P xs)
all_or_not P d [] = inl (All-nil P)
all_or_not P d (x ∷ xs) = reworded (λ h. All-cons P x xs h.0 h.1) (λ h. (All-head P x xs h, All-tail P x xs h)) (both (d x) (all_or_not P d xs))

pub each_two_or_not : {X : Type 0} → (R : X → X → Type 0) → ((x y : X) → IsDecided (R x y)) → (xs : List X) → IsDecided (EachTwo R xs)
each_two_or_not R d [] = inl (λ i j e ij jl. absurd (omega arith))
each_two_or_not R d (x ∷ xs) = reworded (λ h. each_two_cons R x xs h.0 h.1) (λ h. (each_two_head R x xs h, each_two_tail R x xs h)) (both (all_or_not (R x) (d x) xs) (each_two_or_not R d xs))

pub contains_or_not : {X : Type 0} → (xs : List X) (x : X) → ((y : X) → Contains xs y → IsDecided (y ≡ x)) → IsDecided (Contains xs x)
contains_or_not [] x same = inr (in_none x)
contains_or_not (y ∷ ys) x same = elim (same y (in_front y ys)) [
  | inl e ↦ inl (subst (Contains (y ∷ ys)) e (in_front y ys))
  | inr differ ↦ elim (contains_or_not ys x (λ z c. same z (in_rest y ys z c))) [
    | inl c ↦ inl (in_rest y ys x c)
    | inr never ↦ inr (λ c. elim (front_or_rest y ys x c) [ inl e ↦ differ e | inr d ↦ never d ])
  ]
]

-- ---- of a map
pub each_two_map : {X Y : Type 0} (R : Y → Y → Type 0) (f : X → Y) (xs : List X) → EachTwo (λ x y. R (f x) (f y)) xs → EachTwo R (map f xs)
each_two_map R f [] h = λ i j d ij jn. absurd (omega arith)
each_two_map R f (x ∷ xs) h =
    each_two_cons R (f x) (map f xs) (All-map (R (f x)) f xs (each_two_head (λ a b. R (f a) (f b)) x xs h)) (each_two_map R f xs (each_two_tail (λ a b. R (f a) (f b)) x xs h))

-- ---- exactly the things of a property
pub record Members {X : Type 0} (P : X → Type 0) : Type 0 where
  pub list : List X
  pub exactly : (x : X) → Contains list x ↔ P x

-- those of a list of which Q holds
pub kept : {X : Type 0} → (Q : X → Type 0) (xs : List X) → ((x : X) → Contains xs x → IsDecided (Q x)) → Members (λ x. Contains xs x × Q x)
kept Q [] d = record { list = []; exactly = λ x. (λ c. absurd (in_none x c), λ w. w.0) }
kept Q (x ∷ xs) d =
    let rest = kept Q xs (λ y c. d y (in_rest x xs y c)) in
    elim (d x (in_front x xs)) [
      | inl q ↦ record {
        list = x ∷ rest.list;
        exactly = λ y. (
          λ c. elim (front_or_rest x rest.list y c) [
            | inl e ↦ (subst (Contains (x ∷ xs)) e (in_front x xs), subst Q e q)
            | inr k ↦ (let w = (rest.exactly y).0 k in (in_rest x xs y w.0, w.1))
          ],
          λ w. elim (front_or_rest x xs y w.0) [
            | inl e ↦ subst (Contains (x ∷ rest.list)) e (in_front x rest.list)
            | inr k ↦ in_rest x rest.list y ((rest.exactly y).1 (k, w.1))
          ],
        );
      }
      | inr never ↦ record {
        list = rest.list;
        exactly = λ y. (
          λ c. (let w = (rest.exactly y).0 c in (in_rest x xs y w.0, w.1)),
          λ w. elim (front_or_rest x xs y w.0) [
            | inl e ↦ absurd (never (subst Q (sym e) w.1))
            | inr k ↦ (rest.exactly y).1 (k, w.1)
          ],
        );
      }
    ]

-- ---- members of a map
pub in_mapped : {X Y : Type 0} → (f : X → Y) (xs : List X) (x : X) → Contains xs x → Contains (map f xs) (f x)
in_mapped f xs x c = let at = mapped f xs c.0 x c.1 (sym c.2) in (c.0, at.0, sym at.1)

pub of_mapped : {X Y : Type 0} → (f : X → Y) (xs : List X) (y : Y) → Contains (map f xs) y → (x : X) × Contains xs x × (f x ≡ y)
of_mapped f [] y c = absurd (in_none y c)
of_mapped f (x ∷ xs) y c = elim (front_or_rest (f x) (map f xs) y c) [
  | inl e ↦ (x, in_front x xs, e)
  | inr d ↦ (let w = of_mapped f xs y d in (w.0, in_rest x xs w.0 w.1, w.2))
]

-- ---- members that a search finds
pub found_in : {X : Type 0} → (p : X → Bool) (xs : List X) (x : X) → find p xs ≡ Some x → Contains xs x × (p x ≡ true)
found_in p [] x e = absurd (cc)
found_in p (y ∷ xs) x e = elim (cases_Bool (p y)) [
  | inl t ↦
      let first : Some y ≡ Some x = rw t at e in
      let same : y ≡ x = cc in
      (subst (Contains (y ∷ xs)) same (in_front y xs), ap p (sym same) ∙ t)
  | inr f ↦ (let rest = found_in p xs x (rw f at e) in (in_rest y xs x rest.0, rest.1))
]

pub none_in : {X : Type 0} → (p : X → Bool) (xs : List X) (x : X) → find p xs ≡ None → Contains xs x → p x ≡ true → ⊥
none_in p [] x e c h = in_none x c
none_in p (y ∷ xs) x e c h = elim (cases_Bool (p y)) [
  | inl t ↦ (let first : Some y ≡ None = rw t at e in cc)
  | inr f ↦ elim (front_or_rest y xs x c) [ inl same ↦ false≢true (sym f ∙ (ap p same ∙ h)) | inr d ↦ none_in p xs x (rw f at e) d h ]
]

-- a look-up finds an entry that passes, where all that pass have its value
pub found : {K V : Type 0} → (test : K → Bool) (es : List (K × V)) (k : K) (v : V) → Contains es (k, v) → test k ≡ true → ((e : K × V) → Contains es e → test e.0 ≡ true → e.1 ≡ v) → lookup test es ≡ Some v
found test [] k v c t only = absurd (in_none (k, v) c)
found test (x ∷ es) k v c t only = elim (cases_Bool (test x.0)) [
  | inl y ↦ rw y (ap (λ w. Some w) (only x (in_front x es) y))
  | inr n ↦ elim (front_or_rest x es (k, v) c) [
    | inl e ↦ absurd (false≢true (sym n ∙ (ap (λ z. test z.0) e ∙ t)))
    | inr d ↦ rw n (found test es k v d t (λ e i. only e (in_rest x es e i)))
  ]
]

pub none_of : {X : Type 0} → (p : X → Bool) (xs : List X) → list_any p xs ≡ false → filter p xs ≡ []
none_of p [] h = refl
none_of p (x ∷ xs) h = elim (cases_Bool (p x)) [ inl t ↦ absurd (false≢true (sym (rw t at h))) | inr f ↦ rw f (none_of p xs (rw f at h)) ]

-- what is given back of each
pub each_same : {X Y Z : Type 0} → (f : X → Y) (g : Y → Z) (h : X → Z) (xs : List X) → ((x : X) → Contains xs x → g (f x) ≡ h x) → map g (map f xs) ≡ map h xs
each_same f g h [] e = refl
each_same f g h (x ∷ xs) e = rw (e x (in_front x xs), each_same f g h xs (λ y c. e y (in_rest x xs y c))) refl
