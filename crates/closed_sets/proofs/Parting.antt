-- Candidates in a set, and those outside it.
use Rattle.std.proofs.Common.{◌≡◌, ℕ, ◌+◌, Bool, true, false, not, cond, IsTrue, List, [], ◌∷◌, ◌++◌, ◌⊎◌, inl, inr, length, refl, sym, subst, ◌↔◌, length-append, arith}
use Rattle.std.specs.List.{Contains}
use Rattle.std.proofs.lemmas.Bool.{false≢true}
use Rattle.std.proofs.lemmas.List.Elements.{Contains-append_left, Contains-push, Contains-push_cases}
use Rattle.closed_sets.specs.Counting.{AreDifferent}
use Rattle.closed_sets.proofs.Lists.{different_apart, different_left, different_push, in_front, in_none}

-- the candidates so far, parted
pub record ArePartedSoFar (set front outside inside : List ℕ) : Type 0 where
  pub exactly : (x : ℕ) → Contains front x ↔ (Contains outside x ⊎ Contains inside x)
  pub out : (x : ℕ) → Contains outside x → ¬ Contains set x
  pub within : (x : ℕ) → Contains inside x → Contains set x
  pub different : AreDifferent front → AreDifferent outside × AreDifferent inside
  pub size : length outside + length inside ≡ length front

pub parted_none : (set : List ℕ) → ArePartedSoFar set [] [] []
parted_none set = record {
  exactly = λ x. (λ c. absurd (in_none x c), λ c. elim c [ inl d ↦ d | inr d ↦ d ]);
  out = λ x c. absurd (in_none x c);
  within = λ x c. absurd (in_none x c);
  different = λ d. (tt, tt);
  size = refl;
}

pub parted_more : (set front outside inside new_outside new_inside : List ℕ) (x : ℕ) (there : Bool) → (IsTrue there ↔ Contains set x) → new_outside ≡ cond (not there) (outside ++ x ∷ []) outside → new_inside ≡ cond there (inside ++ x ∷ []) inside → ArePartedSoFar set front outside inside → ArePartedSoFar set (front ++ x ∷ []) new_outside new_inside
parted_more set front outside inside new_outside new_inside x true says e f p =
    let size : length outside + length inside ≡ length front = p.size in
    let longer : length (inside ++ x ∷ []) ≡ length inside + 1 = length-append inside (x ∷ []) in
    let longest : length (front ++ x ∷ []) ≡ length front + 1 = length-append front (x ∷ []) in
    subst (λ (o : List ℕ). ArePartedSoFar set (front ++ x ∷ []) o new_inside) (sym e) (subst (ArePartedSoFar set (front ++ x ∷ []) outside) (sym f) (record {
      exactly = λ y. (
        λ c. elim (Contains-push_cases front x y c) [
          | inl d ↦ elim ((p.exactly y).0 d) [ inl k ↦ inl k | inr k ↦ inr (Contains-append_left inside (x ∷ []) y k) ]
          | inr g ↦ inr (subst (Contains (inside ++ x ∷ [])) g (Contains-push inside x))
        ],
        λ c. elim c [
          | inl k ↦ Contains-append_left front (x ∷ []) y ((p.exactly y).1 (inl k))
          | inr k ↦ elim (Contains-push_cases inside x y k) [
            | inl m ↦ Contains-append_left front (x ∷ []) y ((p.exactly y).1 (inr m))
            | inr g ↦ subst (Contains (front ++ x ∷ [])) g (Contains-push front x)
          ]
        ],
      );
      out = p.out;
      within = λ y c. elim (Contains-push_cases inside x y c) [ inl k ↦ p.within y k | inr g ↦ subst (Contains set) g (says.0 refl) ];
      different = λ d. (let w = p.different (different_left front (x ∷ []) d) in (w.0, different_push inside x w.1 (λ c. different_apart front (x ∷ []) d x ((p.exactly x).1 (inr c)) (in_front x []))));
      size = omega arith;
    }))
parted_more set front outside inside new_outside new_inside x false says e f p =
    let size : length outside + length inside ≡ length front = p.size in
    let longer : length (outside ++ x ∷ []) ≡ length outside + 1 = length-append outside (x ∷ []) in
    let longest : length (front ++ x ∷ []) ≡ length front + 1 = length-append front (x ∷ []) in
    subst (λ (o : List ℕ). ArePartedSoFar set (front ++ x ∷ []) o new_inside) (sym e) (subst (ArePartedSoFar set (front ++ x ∷ []) (outside ++ x ∷ [])) (sym f) (record {
      exactly = λ y. (
        λ c. elim (Contains-push_cases front x y c) [
          | inl d ↦ elim ((p.exactly y).0 d) [ inl k ↦ inl (Contains-append_left outside (x ∷ []) y k) | inr k ↦ inr k ]
          | inr g ↦ inl (subst (Contains (outside ++ x ∷ [])) g (Contains-push outside x))
        ],
        λ c. elim c [
          | inr k ↦ Contains-append_left front (x ∷ []) y ((p.exactly y).1 (inr k))
          | inl k ↦ elim (Contains-push_cases outside x y k) [
            | inl m ↦ Contains-append_left front (x ∷ []) y ((p.exactly y).1 (inl m))
            | inr g ↦ subst (Contains (front ++ x ∷ [])) g (Contains-push front x)
          ]
        ],
      );
      out = λ y c. elim (Contains-push_cases outside x y c) [ inl k ↦ p.out y k | inr g ↦ λ d. false≢true (says.1 (subst (Contains set) (sym g) d)) ];
      within = p.within;
      different = λ d. (let w = p.different (different_left front (x ∷ []) d) in (different_push outside x w.0 (λ c. different_apart front (x ∷ []) d x ((p.exactly x).1 (inl c)) (in_front x [])), w.1));
      size = omega arith;
    }))
