-- What fits together, and closed sets.
use Rattle.std.proofs.Common.{◌≡◌, ℕ, Bool, IsTrue, IfOk, Result, Ok, Err, List, [], ◌∷◌, inl, inr, subst, ◌↔◌, arith}
use Rattle.std.specs.List.{Contains}
use Rattle.sky_units.specs.Tracks.{AreAmong}
use Rattle.closed_sets.specs.Families.{IsClosed, IsHereditary, IsSet}
use Rattle.closed_sets.specs.Around.{FitTogether}
use Rattle.closed_sets.specs.Search.{AreBeside, AreOthers, IsUnion}
use Rattle.closed_sets.proofs.Lists.{among, among_cons, among_trans, in_front, in_part, in_rest, in_whole, part_is_set, part_of}

pub if_ok : {T E : Type 0} (P Q : T → Type 0) (r : Result T E) → ((x : T) → P x → Q x) → IfOk r P → IfOk r Q
if_ok P Q (Ok x) f h = f x h
if_ok P Q (Err e) f h = tt

module _ (Fits : List ℕ → Type 0) where
  -- numbers of a fitting set fit together
  pub together : (numbers whole : List ℕ) → Fits whole → AreAmong numbers whole → FitTogether Fits numbers
  together numbers whole f a = record { whole = whole; fits = f; has = a }

  -- fewer numbers fit together too
  pub fewer : (numbers some : List ℕ) → FitTogether Fits numbers → AreAmong some numbers → FitTogether Fits some
  fewer numbers some t a = record { whole = t.whole; fits = t.fits; has = among_trans some numbers t.whole a t.has }

  -- one more number beside fewer others
  pub beside : (x : ℕ) (numbers some : List ℕ) → FitTogether Fits (x ∷ numbers) → AreAmong some numbers → FitTogether Fits (x ∷ some)
  beside x numbers some t a = fewer (x ∷ numbers) (x ∷ some) t (among_cons x some (x ∷ numbers) (in_front x numbers) (among some (x ∷ numbers) (λ y c. in_rest x numbers y (in_whole some numbers y a c))))

  -- a number of a fitting set fits with a part of it
  pub fits_beside : (x : ℕ) (set whole : List ℕ) → Fits whole → Contains whole x → AreAmong set whole → FitTogether Fits (x ∷ set)
  fits_beside x set whole f c a = together (x ∷ set) whole f (among_cons x set whole c a)

  module _ (law : IsHereditary Fits) where
    -- a set of numbers that fit together fits
    pub part_fits : (numbers set : List ℕ) → FitTogether Fits numbers → IsSet set → AreAmong set numbers → Fits set
    part_fits numbers set t s a = law.parts t.whole set t.fits s (among_trans set numbers t.whole a t.has)

    pub union_fits : (numbers one other union : List ℕ) → FitTogether Fits numbers → IsUnion one other union → AreAmong one numbers → AreAmong other numbers → Fits union
    union_fits numbers one other union t u a b = part_fits numbers union t u.is_set (among union numbers (λ x c. elim ((u.exactly x).0 c) [
      | inl d ↦ in_whole one numbers x a d
      | inr d ↦ in_whole other numbers x b d
    ]))

    -- a set with one more number fits exactly where they fit together
    pub one_more : (set union : List ℕ) (x : ℕ) → IsUnion set (x ∷ []) union → Fits union ↔ FitTogether Fits (x ∷ set)
    one_more set union x u = (
      λ f. together (x ∷ set) union f (among_cons x set union ((u.exactly x).1 (inr (in_front x []))) (among set union (λ y c. (u.exactly y).1 (inl c)))),
      λ t. union_fits (x ∷ set) set (x ∷ []) union t u (among set (x ∷ set) (λ y c. in_rest x set y c)) (among_cons x [] (x ∷ set) (in_front x set) (among [] (x ∷ set) (λ y c. in_rest x set y (in_whole [] set y (λ k d l. absurd (omega arith)) c)))),
    )

    -- what a test of a set with one more number tells
    pub told : {E : Type 0} (r : Result Bool E) (set other union numbers : List ℕ) (x : ℕ) → other ≡ x ∷ [] → numbers ≡ union → IsUnion set other union → IfOk r (λ fits. IsTrue fits ↔ Fits numbers) → IfOk r (λ fits. IsTrue fits ↔ FitTogether Fits (x ∷ set))
    told (Ok fits) set other union numbers x e f u says =
        let k = one_more set union x (subst (λ (o : List ℕ). IsUnion set o union) e u) in
        let h : IsTrue fits ↔ Fits union = subst (λ (n : List ℕ). IsTrue fits ↔ Fits n) f says in
        (λ t. k.0 (h.0 t), λ t. h.1 (k.1 t))
    told (Err error) set other union numbers x e f u says = tt

    -- numbers that fit together are those of a fitting set
    pub set_of_them : (numbers : List ℕ) → FitTogether Fits numbers → (set : List ℕ) × Fits set × ((x : ℕ) → Contains set x ↔ Contains numbers x)
    set_of_them numbers t = (
      part_of numbers t.whole,
      part_fits numbers (part_of numbers t.whole) t (part_is_set numbers t.whole (law.sets t.whole t.fits)) (among (part_of numbers t.whole) numbers (λ x c. (in_part numbers t.whole t.has x).0 c)),
      in_part numbers t.whole t.has,
    )

  pub others_beside : (set others : List ℕ) → AreOthers Fits set others → AreBeside Fits set others
  others_beside set others o = record {
    different = o.different;
    new = λ x c. ((o.exactly x).0 c).0;
    complete = λ x new t. (o.exactly x).1 (new, t);
  }

  pub closed_is_full : (set : List ℕ) → IsClosed Fits set ↔ (Fits set × ((x : ℕ) → FitTogether Fits (x ∷ set) → Contains set x))
  closed_is_full set = (
    λ closed. (closed.fits, λ x t. in_whole t.whole set x (closed.full t.whole t.fits (among set t.whole (λ y c. in_whole (x ∷ set) t.whole y t.has (in_rest x set y c)))) (in_whole (x ∷ set) t.whole x t.has (in_front x set))),
    λ w. record { fits = w.0; full = λ other f a. among other set (λ x c. w.1 x (fits_beside x set other f c a)) },
  )
