-- Which numbers fit with a set, and largest fitting sets.
use Rattle.std.proofs.Common.{◌≡◌, ℕ, ◌+◌, ◌≤◌, Bool, true, false, cond, IsTrue, List, [], ◌∷◌, ◌++◌, ◌⊎◌, inl, inr, length, refl, sym, subst, ◌↔◌, length-append, arith}
use Rattle.std.specs.List.{Contains}
use Rattle.std.proofs.lemmas.Bool.{false≢true}
use Rattle.std.proofs.lemmas.List.Elements.{Contains-append_cases, Contains-append_left, Contains-append_right, Contains-push, Contains-push_cases}
use Rattle.closed_sets.specs.Families.{IsHereditary}
use Rattle.closed_sets.specs.Around.{FitTogether}
use Rattle.closed_sets.specs.Search.{AreFitting, IsLargest, IsUnion}
use Rattle.closed_sets.proofs.Fitting.{beside, one_more}
use Rattle.closed_sets.proofs.Lists.{among, among_self, among_trans, different_apart, different_left, different_push, in_front, in_none, in_whole, only_one}

-- what holds of each of a front and of the next one
pub each_more : {X : Type 0} (P : X → Type 0) (front : List X) (x : X) → ((y : X) → Contains front y → P y) → P x → (y : X) → Contains (front ++ x ∷ []) y → P y
each_more P front x h k y c = elim (Contains-push_cases front x y c) [ inl d ↦ h y d | inr e ↦ subst P e k ]

module _ (Fits : List ℕ → Type 0) where
  pub fitting_none : (set : List ℕ) → AreFitting Fits set [] []
  fitting_none set = record {
    different = λ d. tt;
    exactly = λ x. (λ c. absurd (in_none x c), λ w. absurd (in_none x w.0));
    few = omega arith;
  }

  pub fitting_more : (set front kept new : List ℕ) (x : ℕ) (fits : Bool) → (IsTrue fits ↔ FitTogether Fits (x ∷ set)) → new ≡ cond fits (kept ++ x ∷ []) kept → AreFitting Fits set front kept → AreFitting Fits set (front ++ x ∷ []) new
  fitting_more set front kept new x true says e k =
      let few : length kept ≤ length front = k.few in
      let size : length (kept ++ x ∷ []) ≡ length kept + 1 = length-append kept (x ∷ []) in
      let longer : length (front ++ x ∷ []) ≡ length front + 1 = length-append front (x ∷ []) in
      subst (AreFitting Fits set (front ++ x ∷ [])) (sym e) (record {
        different = λ d. different_push kept x (k.different (different_left front (x ∷ []) d)) (λ c. different_apart front (x ∷ []) d x ((k.exactly x).0 c).0 (in_front x []));
        exactly = λ y. (
          λ c. elim (Contains-push_cases kept x y c) [
            | inl d ↦ (let w = (k.exactly y).0 d in (Contains-append_left front (x ∷ []) y w.0, w.1))
            | inr f ↦ (subst (Contains (front ++ x ∷ [])) f (Contains-push front x), subst (λ (z : ℕ). FitTogether Fits (z ∷ set)) f (says.0 refl))
          ],
          λ w. elim (Contains-push_cases front x y w.0) [
            | inl d ↦ Contains-append_left kept (x ∷ []) y ((k.exactly y).1 (d, w.1))
            | inr f ↦ subst (Contains (kept ++ x ∷ [])) f (Contains-push kept x)
          ],
        );
        few = omega arith;
      })
  fitting_more set front kept new x false says e k =
      let few : length kept ≤ length front = k.few in
      let longer : length (front ++ x ∷ []) ≡ length front + 1 = length-append front (x ∷ []) in
      subst (AreFitting Fits set (front ++ x ∷ [])) (sym e) (record {
        different = λ d. k.different (different_left front (x ∷ []) d);
        exactly = λ y. (
          λ c. (let w = (k.exactly y).0 c in (Contains-append_left front (x ∷ []) y w.0, w.1)),
          λ w. elim (Contains-push_cases front x y w.0) [
            | inl d ↦ (k.exactly y).1 (d, w.1)
            | inr f ↦ absurd (false≢true (says.1 (subst (λ (z : ℕ). FitTogether Fits (z ∷ set)) (sym f) w.1)))
          ],
        );
        few = omega arith;
      })

  module _ (law : IsHereditary Fits) where
    pub largest_whole : (set candidates whole : List ℕ) → IsUnion set candidates whole → Fits whole → IsLargest Fits set candidates whole
    largest_whole set candidates whole u f = record {
      fits = f;
      has = among set whole (λ x c. (u.exactly x).1 (inl c));
      only = λ x c. (u.exactly x).0 c;
      full = λ x c t. (u.exactly x).1 (inr c);
    }

    pub largest_same : (set more : List ℕ) (x : ℕ) → Fits set → IsUnion set (x ∷ []) more → (¬ Fits more) → IsLargest Fits set (x ∷ []) set
    largest_same set more x f u none = record {
      fits = f;
      has = among_self set;
      only = λ y c. inl c;
      full = λ y c t. absurd (none ((one_more Fits law set more x u).1 (subst (λ (z : ℕ). FitTogether Fits (z ∷ set)) (sym (only_one x y c)) t)));
    }

    pub largest_none : (set union : List ℕ) → Fits set → IsUnion set [] union → IsLargest Fits set [] union
    largest_none set union f u = largest_whole set [] union u (law.parts set union f u.is_set (among union set (λ x c. elim ((u.exactly x).0 c) [ inl d ↦ d | inr d ↦ absurd (in_none x d) ])))

  -- one after the other
  pub largest_then : (set xs ys zs one two : List ℕ) → ((x : ℕ) → Contains zs x ↔ (Contains xs x ⊎ Contains ys x)) → IsLargest Fits set xs one → IsLargest Fits one ys two → IsLargest Fits set zs two
  largest_then set xs ys zs one two parts p q = record {
    fits = q.fits;
    has = among_trans set one two p.has q.has;
    only = λ x c. elim (q.only x c) [
      | inl d ↦ elim (p.only x d) [ inl k ↦ inl k | inr k ↦ inr ((parts x).1 (inl k)) ]
      | inr d ↦ inr ((parts x).1 (inr d))
    ];
    full = λ x c t. elim ((parts x).0 c) [
      | inl d ↦ in_whole one two x q.has (p.full x d (beside Fits x two one t q.has))
      | inr d ↦ q.full x d t
    ];
  }

  pub largest_start : (set : List ℕ) → Fits set → IsLargest Fits set [] set
  largest_start set f = record { fits = f; has = among_self set; only = λ x c. inl c; full = λ x c t. absurd (in_none x c) }

  pub largest_push : (set front one two : List ℕ) (x : ℕ) → IsLargest Fits set front one → IsLargest Fits one (x ∷ []) two → IsLargest Fits set (front ++ x ∷ []) two
  largest_push set front one two x p q = largest_then set front (x ∷ []) (front ++ x ∷ []) one two (λ y. (
    λ c. Contains-append_cases front (x ∷ []) y c,
    λ c. elim c [ inl d ↦ Contains-append_left front (x ∷ []) y d | inr d ↦ Contains-append_right front (x ∷ []) y d ],
  )) p q

  pub largest_cons : (set rest candidates one two : List ℕ) (x : ℕ) → candidates ≡ x ∷ rest → IsLargest Fits set (x ∷ []) one → IsLargest Fits one rest two → IsLargest Fits set candidates two
  largest_cons set rest candidates one two x e p q = subst (λ (xs : List ℕ). IsLargest Fits set xs two) (sym e) (largest_then set (x ∷ []) rest (x ∷ rest) one two (λ y. (
    λ c. Contains-append_cases (x ∷ []) rest y c,
    λ c. elim c [ inl d ↦ Contains-append_left (x ∷ []) rest y d | inr d ↦ Contains-append_right (x ∷ []) rest y d ],
  )) p q)
