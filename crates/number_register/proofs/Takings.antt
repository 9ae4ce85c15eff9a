-- Taking numbers one after another, and letting them go.
use Rattle.std.proofs.Common.{◌≡◌, ◌≢◌, ℕ, ◌+◌, ◌<◌, ◌==◌, Bool, true, false, ◌||◌, cond, Option, Some, None, IsSome, List, [], ◌∷◌, ◌++◌, length, get_or, take, drop, reverse, take_all, refl, sym, ap, ◌∙◌, arith, zero, suc, inl, inr, ◌⊎◌, eq-eqb, length-take}
use Rattle.std.specs.List.{list_any}
use Rattle.std.proofs.lemmas.Bool.{cases_eq, cases_Bool, ne_eqb, eqb-true, or_parts, or_left, or_right, or_from}
use Rattle.std.proofs.lemmas.List.{length_push, take_more, get_or-take, length-drop, reverse-append}
use Rattle.std.proofs.lemmas.List.Folds.{list_any_more}
use Rattle.miti_text.specs.Observation.{Observation}
use Rattle.number_register.specs.Numbering.{with_at, IsLeastFree}
use Rattle.number_register.specs.Numbering.{TakeLeast, Takes, with_all, without_numbers, AreDistinct}

abbrev At : Type 0
At = ℕ → Option Observation

abbrev among : ℕ → List ℕ → Bool
among k numbers = list_any (λ n. n == k) numbers

pub at_here : (at : At) (n k : ℕ) (held : Option Observation) → k ≡ n → with_at at n held k ≡ held
at_here at n k held e = rw (eq-eqb k n e) refl

pub at_other : (at : At) (n k : ℕ) (held : Option Observation) → k ≢ n → with_at at n held k ≡ at k
at_other at n k held e = rw (ne_eqb k n e) refl

-- a number that was taken was free before
pub taken_was_free : (at : At) (ns : List ℕ) (ds : List Observation) → TakeLeast at ns ds → (k : ℕ) → among k ns ≡ true → at k ≡ None
taken_was_free at [] ds t k h = cc
taken_was_free at (n ∷ ns) [] t k h = absurd t
taken_was_free at (n ∷ ns) (d ∷ ds) t k h = elim (cases_eq k n) [
  | inl e ↦ ap at e ∙ t.0.is_free
  | inr ne ↦
      let no : (n == k) ≡ false = ne_eqb n k (λ q. ne (sym q)) in
      let rest : among k ns ≡ true = rw no at h in
      sym (at_other at n k (Some d) ne) ∙ taken_was_free (with_at at n (Some d)) ns ds t.1 k rest
]

-- another number keeps what it had
pub other_stays : (at : At) (ns : List ℕ) (ds : List Observation) (k : ℕ) → among k ns ≡ false → with_all at ns ds k ≡ at k
other_stays at [] ds k h = refl
other_stays at (n ∷ ns) [] k h = refl
other_stays at (n ∷ ns) (d ∷ ds) k h =
    let p = or_parts (n == k) (among k ns) h in
    let ne : k ≢ n = λ e. (let y : (n == k) ≡ true = eq-eqb n k (sym e) in cc) in
    other_stays (with_at at n (Some d)) ns ds k p.1 ∙ at_other at n k (Some d) ne

or_false : (a b : Bool) → b ≡ false → (a || b) ≡ true → a ≡ true
or_false true b f h = refl
or_false false b f h = cc

-- a taken number has a detection
pub taken_is_held : (at : At) (ns : List ℕ) (ds : List Observation) → TakeLeast at ns ds → (k : ℕ) → among k ns ≡ true → IsSome (with_all at ns ds k)
taken_is_held at [] ds t k h = cc
taken_is_held at (n ∷ ns) [] t k h = absurd t
taken_is_held at (n ∷ ns) (d ∷ ds) t k h = elim (cases_Bool (among k ns)) [
  | inl y ↦ taken_is_held (with_at at n (Some d)) ns ds t.1 k y
  | inr f ↦
      let e : n ≡ k = eqb-true n k (or_false (n == k) (among k ns) f h) in
      let is : with_all (with_at at n (Some d)) ns ds k ≡ Some d = other_stays (with_at at n (Some d)) ns ds k f ∙ at_here at n k (Some d) (sym e) in
      rw is refl
]

-- no number is taken twice
pub not_again : (at : At) (ns : List ℕ) (ds : List Observation) (n : ℕ) (d : Observation) → TakeLeast (with_at at n (Some d)) ns ds → among n ns ≡ false
not_again at ns ds n d t = elim (cases_Bool (among n ns)) [
  | inl y ↦ let none = taken_was_free (with_at at n (Some d)) ns ds t n y in let here = at_here at n n (Some d) refl in cc
  | inr f ↦ f
]

not_among : (ns : List ℕ) (n i : ℕ) → i < length ns → among n ns ≡ false → n ≢ get_or ns i 0
not_among [] n i h f = absurd (omega arith)
not_among (m ∷ ms) n zero h f =
    let p = or_parts (m == n) (among n ms) f in
    λ e. (let y : (m == n) ≡ true = eq-eqb m n (sym e) in cc)
not_among (m ∷ ms) n (suc i) h f = not_among ms n i (omega arith) (or_parts (m == n) (among n ms) f).1

pub among_at : (ns : List ℕ) (i : ℕ) → i < length ns → among (get_or ns i 0) ns ≡ true
among_at [] i h = absurd (omega arith)
among_at (m ∷ ms) zero h = or_left (m == m) (among m ms) (eq-eqb m m refl)
among_at (m ∷ ms) (suc i) h = or_right (m == get_or ms i 0) (among (get_or ms i 0) ms) (among_at ms i (omega arith))

pub taken_are_distinct : (at : At) (ns : List ℕ) (ds : List Observation) → TakeLeast at ns ds → AreDistinct ns
taken_are_distinct at [] ds t j k h l = absurd (omega arith)
taken_are_distinct at (n ∷ ns) [] t j k h l = absurd t
taken_are_distinct at (n ∷ ns) (d ∷ ds) t j zero h l = absurd (omega arith)
taken_are_distinct at (n ∷ ns) (d ∷ ds) t zero (suc k) h l = not_among ns n k (omega arith) (not_again at ns ds n d t.1)
taken_are_distinct at (n ∷ ns) (d ∷ ds) t (suc j) (suc k) h l = taken_are_distinct (with_at at n (Some d)) ns ds t.1 j k (omega arith) (omega arith)

-- taking and letting go leaves what there was
pub undone : (at : At) (ns : List ℕ) (ds : List Observation) → TakeLeast at ns ds → (k : ℕ) → without_numbers (with_all at ns ds) ns k ≡ at k
undone at ns ds t k = elim (cases_Bool (among k ns)) [
  | inl y ↦ rw y (sym (taken_was_free at ns ds t k y))
  | inr f ↦ rw f (other_stays at ns ds k f)
]

-- ---- one more

pub with_one_more : (at : At) (ns : List ℕ) (ds : List Observation) (n : ℕ) (d : Observation) → length ns ≡ length ds → with_all at (ns ++ n ∷ []) (ds ++ d ∷ []) ≡ with_at (with_all at ns ds) n (Some d)
with_one_more at [] [] n d h = refl
with_one_more at [] (e ∷ ds) n d h = absurd (omega arith)
with_one_more at (m ∷ ns) [] n d h = absurd (omega arith)
with_one_more at (m ∷ ns) (e ∷ ds) n d h = with_one_more (with_at at m (Some e)) ns ds n d (omega arith)

pub take_one_more : (at : At) (ns : List ℕ) (ds : List Observation) (n : ℕ) (d : Observation) → TakeLeast at ns ds → IsLeastFree (with_all at ns ds) n → TakeLeast at (ns ++ n ∷ []) (ds ++ d ∷ [])
take_one_more at [] [] n d t l = (l, tt)
take_one_more at [] (e ∷ ds) n d t l = absurd t
take_one_more at (m ∷ ns) [] n d t l = absurd t
take_one_more at (m ∷ ns) (e ∷ ds) n d t l = (t.0, take_one_more (with_at at m (Some e)) ns ds n d t.1 l)

pub as_many : (at : At) (ns : List ℕ) (ds : List Observation) → TakeLeast at ns ds → length ns ≡ length ds
as_many at [] [] t = refl
as_many at [] (d ∷ ds) t = absurd t
as_many at (n ∷ ns) [] t = absurd t
as_many at (n ∷ ns) (d ∷ ds) t = let e = as_many (with_at at n (Some d)) ns ds t.1 in omega (arith, e)

same_held : (d e : Observation) → Some d ≡ Some e → d ≡ e
same_held d e h = cc

-- what is held afterwards was held before, or was taken
pub held_after : (at : At) (ns : List ℕ) (ds : List Observation) (k : ℕ) (e : Observation) → with_all at ns ds k ≡ Some e → (at k ≡ Some e) ⊎ ((j : ℕ) × (j < length ds) × (get_or ds j e ≡ e))
held_after at [] ds k e h = inl h
held_after at (n ∷ ns) [] k e h = inl h
held_after at (n ∷ ns) (d ∷ ds) k e h = elim (held_after (with_at at n (Some d)) ns ds k e h) [
  | inl was ↦ elim (cases_eq k n) [
    | inl eq ↦ let here = at_here at n k (Some d) eq in inr (0, omega arith, same_held d e (sym here ∙ was))
    | inr ne ↦ inl (sym (at_other at n k (Some d) ne) ∙ was)
  ]
  | inr later ↦ inr (suc later.0, omega (arith, later.1), later.2)
]

-- ---- letting go one after another

gone : (a b : Bool) (held : Option Observation) → b ≡ true → None ≡ cond (a || b) None held
gone a b held h = rw (or_right a b h) refl

kept : (a b : Bool) (held : Option Observation) → b ≡ false → cond a None held ≡ cond (a || b) None held
kept true b held h = refl
kept false b held h = rw h refl

none_of : (ns : List ℕ) (n i : ℕ) → ((j : ℕ) → j < i → j < length ns → get_or ns j 0 ≢ n) → among n (take i ns) ≡ false
none_of ns n zero h = refl
none_of [] n (suc i) h = refl
none_of (m ∷ ms) n (suc i) h =
    or_from (m == n) (among n (take i ms)) (ne_eqb m n (h 0 (omega arith) (omega arith))) (none_of ms n i (λ j l w. h (suc j) (omega arith) (omega arith)))

pub not_yet : (ns : List ℕ) (i : ℕ) → AreDistinct ns → i < length ns → among (get_or ns i 0) (take i ns) ≡ false
not_yet ns i apart h = none_of ns (get_or ns i 0) i (λ j l w. apart j i l h)

pub one_more_gone : (at : At) (ns : List ℕ) (i : ℕ) → i < length ns → (k : ℕ) → with_at (without_numbers at (take i ns)) (get_or ns i 0) None k ≡ without_numbers at (take (i + 1) ns) k
one_more_gone at ns i h k = rw (list_any_more (λ n. n == k) ns i 0 h) (elim (cases_eq k (get_or ns i 0)) [
  | inl e ↦ at_here (without_numbers at (take i ns)) (get_or ns i 0) k None e ∙ gone (among k (take i ns)) (get_or ns i 0 == k) (at k) (eq-eqb (get_or ns i 0) k (sym e))
  | inr ne ↦ at_other (without_numbers at (take i ns)) (get_or ns i 0) k None ne ∙ kept (among k (take i ns)) (get_or ns i 0 == k) (at k) (ne_eqb (get_or ns i 0) k (λ q. ne (sym q)))
])

pub with_same : (f g : At) → ((k : ℕ) → f k ≡ g k) → (n : ℕ) (held : Option Observation) (k : ℕ) → with_at f n held k ≡ with_at g n held k
with_same f g h n held k = ap (λ (v : Option Observation). cond (k == n) held v) (h k)

pub all_gone : (at : At) (ns : List ℕ) (i : ℕ) → i ≡ length ns → (k : ℕ) → without_numbers at (take i ns) k ≡ without_numbers at ns k
all_gone at ns i e k = rw (take_all i ns (omega arith)) refl

-- ---- taking all of a list

abbrev Ds : Type 0
Ds = List Observation

-- what holds as the detections are taken one after another, the last of `rest` next
pub record Took (at : At) (ds rest : Ds) (ns : List ℕ) (now : At) : Type 0 where
  pub left : reverse rest ≡ drop (length ns) ds
  pub least : TakeLeast at ns (take (length ns) ds)
  pub is : now ≡ with_all at ns (take (length ns) ds)

first_is : (x y : Observation) (xs ys : Ds) → x ∷ xs ≡ y ∷ ys → x ≡ y
first_is x y xs ys e = cc

rest_is : (x y : Observation) (xs ys : Ds) → x ∷ xs ≡ y ∷ ys → xs ≡ ys
rest_is x y xs ys e = cc

front_is : (ds : Ds) (k : ℕ) (d : Observation) (rest : Ds) → drop k ds ≡ d ∷ rest → (k < length ds) × ((e : Observation) → get_or ds k e ≡ d) × (drop (suc k) ds ≡ rest)
front_is [] zero d rest e = cc
front_is [] (suc k) d rest e = cc
front_is (x ∷ xs) zero d rest e = (omega arith, λ f. first_is x d xs rest e, rest_is x d xs rest e)
front_is (x ∷ xs) (suc k) d rest e = let r = front_is xs k d rest e in (omega (arith, r.0), r.1, r.2)

module _ (at : At) (ds rest rest' : Ds) (ns : List ℕ) (now : At) (d : Observation) (t : Took at ds rest ns now) (popped : rest ≡ rest' ++ d ∷ []) where
  next : (length ns < length ds) × ((e : Observation) → get_or ds (length ns) e ≡ d) × (drop (suc (length ns)) ds ≡ reverse rest')
  next = front_is ds (length ns) d (reverse rest') (sym t.left ∙ (ap reverse popped ∙ reverse-append rest' (d ∷ [])))

  pub next_within : length ns < length ds
  next_within = next.0

  -- its id differs from those that are held
  pub next_is_fresh : ((k n : ℕ) (e f : Observation) → k < length ds → at n ≡ Some e → e.id ≢ (get_or ds k f).id) → ((j k : ℕ) (e : Observation) → j < k → k < length ds → (get_or ds j e).id ≢ (get_or ds k e).id)
      → (n : ℕ) (e : Observation) → now n ≡ Some e → e.id ≢ d.id
  next_is_fresh fresh apart n e held same = elim (held_after at ns (take (length ns) ds) n e (sym (ap (λ (f : At). f n) t.is) ∙ held)) [
    | inl was ↦ fresh (length ns) n e d next_within was (same ∙ ap (λ (x : Observation). x.id) (sym (next.1 d)))
    | inr earlier ↦
        let j : earlier.0 < length ns = omega (arith, earlier.1, length-take (length ns) ds) in
        let there : get_or ds earlier.0 e ≡ e = sym (get_or-take (length ns) ds earlier.0 e j) ∙ earlier.2 in
        apart earlier.0 (length ns) e j next_within (ap (λ (x : Observation). x.id) there ∙ (same ∙ ap (λ (x : Observation). x.id) (sym (next.1 e))))
  ]

  pub took_one_more : (n : ℕ) (now' : At) → IsLeastFree now n → now' ≡ with_at now n (Some d) → Took at ds rest' (ns ++ n ∷ []) now'
  took_one_more n now' least is =
      let many : length (ns ++ n ∷ []) ≡ suc (length ns) = omega (arith, length_push ns n) in
      let step : take (length (ns ++ n ∷ [])) ds ≡ take (length ns) ds ++ d ∷ [] =
      ap (λ (k : ℕ). take k ds) (length_push ns n) ∙ (take_more ds (length ns) d next_within ∙ ap (λ (x : Observation). take (length ns) ds ++ x ∷ []) (next.1 d)) in
      let as_long : length ns ≡ length (take (length ns) ds) = as_many at ns (take (length ns) ds) t.least in
      record {
        left = sym (ap (λ (k : ℕ). drop k ds) many ∙ next.2);
        least = rw step (take_one_more at ns (take (length ns) ds) n d t.least (rw t.is at least));
        is = is ∙ (ap (λ (f : At). with_at f n (Some d)) t.is ∙ (sym (with_one_more at ns (take (length ns) ds) n d as_long) ∙ ap (with_all at (ns ++ n ∷ [])) (sym step)));
      }

pub took_all : (at : At) (ds rest : Ds) (ns : List ℕ) (now : At) → Took at ds rest ns now → length rest ≡ 0 → (length ns ≡ length ds) × Takes at ns ds now
took_all at ds [] ns now t none =
    let many = as_many at ns (take (length ns) ds) t.least in
    let gone = ap length t.left in
    let all : length ns ≡ length ds = omega (arith, many, gone, length-take (length ns) ds, length-drop (length ns) ds) in
    let same : take (length ns) ds ≡ ds = take_all (length ns) ds (omega (arith, all)) in
    (all, record { least = rw same at t.least; is = rw same at t.is })
took_all at ds (x ∷ xs) ns now t none = absurd (omega (arith, none))

-- those that are taken can be let go, and then all is as it was
pub let_go_again : (at : At) (ds rest : Ds) (ns : List ℕ) (now : At) → Took at ds rest ns now → ((k : ℕ) → k < length ns → IsSome (now (get_or ns k 0))) × AreDistinct ns × ((k : ℕ) → without_numbers now ns k ≡ at k)
let_go_again at ds rest ns now t = rw t.is (
  (λ k h. taken_is_held at ns (take (length ns) ds) t.least (get_or ns k 0) (among_at ns k h)),
  taken_are_distinct at ns (take (length ns) ds) t.least,
  undone at ns (take (length ns) ds) t.least,
)
