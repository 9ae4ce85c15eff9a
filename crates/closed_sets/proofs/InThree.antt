-- Fitting sets that lie in one of three or more: a family of its own, with the same closed sets of three or more.
use Rattle.std.proofs.Common.{◌≡◌, ℕ, ◌≤◌, List, ◌∷◌, inl, inr, length, sym, subst, arith}
use Rattle.std.specs.List.{Contains}
use Rattle.sky_units.specs.Tracks.{AreAmong}
use Rattle.closed_sets.specs.Families.{IsClosed, IsHereditary}
use Rattle.closed_sets.specs.Around.{FitTogether}
use Rattle.closed_sets.specs.Counting.{AreDifferent}
use Rattle.closed_sets.specs.Search.{Gains, IsClosedFrom, IsLargest, IsNode, LiesInThree}
use Rattle.closed_sets.proofs.Lists.{among, among_self, among_trans, different_set, in_front, in_rest, in_whole, no_longer, outside_or_in}
use Rattle.closed_sets.proofs.Pairs.{three}

module _ (Fits : List ℕ → Type 0) (law : IsHereditary Fits) where
  pub three_law : IsHereditary (LiesInThree Fits)
  three_law = record {
    sets = λ set f. law.sets set f.fits;
    parts = λ set part f s a. record {
      fits = law.parts set part f.fits s a;
      whole = f.whole;
      whole_fits = f.whole_fits;
      large = f.large;
      has = among_trans part set f.whole a f.has;
    };
  }

  pub itself : (set : List ℕ) → Fits set → 3 ≤ length set → LiesInThree Fits set
  itself set f large = record { fits = f; whole = set; whole_fits = f; large = large; has = among_self set }

  -- what has all of three or more different numbers has three or more
  pub no_smaller : (set other : List ℕ) → AreDifferent set → AreAmong set other → 3 ≤ length set → 3 ≤ length other
  no_smaller set other different a large =
      let more : length set ≤ length other = no_longer set other different (λ x c. in_whole set other x a c) in
      omega arith

  pub closed_there : (set : List ℕ) → IsClosed Fits set → 3 ≤ length set → IsClosed (LiesInThree Fits) set
  closed_there set closed large = record {
    fits = itself set closed.fits large;
    full = λ other f a. closed.full other f.fits a;
  }

  pub closed_here : (set : List ℕ) → IsClosed (LiesInThree Fits) set → IsClosed Fits set × 3 ≤ length set
  closed_here set closed =
      let f = closed.fits in
      let large : 3 ≤ length set = no_smaller f.whole set (different_set f.whole (law.sets f.whole f.whole_fits)) (closed.full f.whole (itself f.whole f.whole_fits f.large) f.has) f.large in (
        record {
          fits = f.fits;
          full = λ other g a. closed.full other (itself other g (no_smaller set other (different_set set (law.sets set f.fits)) a large)) a;
        },
        large,
      )

  pub together_here : (numbers : List ℕ) → FitTogether (LiesInThree Fits) numbers → FitTogether Fits numbers
  together_here numbers t = record { whole = t.whole; fits = t.fits.fits; has = t.has }

  -- numbers that fit together, three different ones among them
  pub together_there : (numbers : List ℕ) (x y z : ℕ) → (¬ (x ≡ y)) → (¬ (x ≡ z)) → (¬ (y ≡ z)) → Contains numbers x → Contains numbers y → Contains numbers z → FitTogether Fits numbers → FitTogether (LiesInThree Fits) numbers
  together_there numbers x y z a b c has_x has_y has_z t = record {
    whole = t.whole;
    fits = itself t.whole t.fits (three x y z t.whole a b c (in_whole numbers t.whole x t.has has_x) (in_whole numbers t.whole y t.has has_y) (in_whole numbers t.whole z t.has has_z));
    has = t.has;
  }

  pub beside_there : (x : ℕ) (set : List ℕ) → Fits set → 3 ≤ length set → FitTogether Fits (x ∷ set) → FitTogether (LiesInThree Fits) (x ∷ set)
  beside_there x set f large t = record {
    whole = t.whole;
    fits = itself t.whole t.fits (no_smaller set t.whole (different_set set (law.sets set f)) (among set t.whole (λ y c. in_whole (x ∷ set) t.whole y t.has (in_rest x set y c))) large);
    has = t.has;
  }

  pub largest_there : (set candidates largest : List ℕ) → 3 ≤ length largest → IsLargest Fits set candidates largest → IsLargest (LiesInThree Fits) set candidates largest
  largest_there set candidates largest large l = record {
    fits = itself largest l.fits large;
    has = l.has;
    only = l.only;
    full = λ x c t. l.full x c (together_here (x ∷ largest) t);
  }

  -- from two numbers on the two families are one
  module _ (set : List ℕ) (a b : ℕ) (differ : ¬ (a ≡ b)) (has_a : Contains set a) (has_b : Contains set b) where
    pub node_here : (others : List ℕ) (first : ℕ) → IsNode (LiesInThree Fits) set others first → IsNode Fits set others first
    node_here others first node = record {
      fits = node.fits.fits;
      listed = record {
        different = node.listed.different;
        exactly = λ x. (
          λ c. (let w = (node.listed.exactly x).0 c in (w.0, together_here (x ∷ set) w.1)),
          λ w. (node.listed.exactly x).1 (w.0, together_there (x ∷ set) x a b (λ e. w.0 (subst (Contains set) (sym e) has_a)) (λ e. w.0 (subst (Contains set) (sym e) has_b)) differ (in_front x set) (in_rest x set a has_a) (in_rest x set b has_b) w.1),
        );
      };
      within = node.within;
    }

    -- a closed set that has all of a set that lies in three
    large_above : LiesInThree Fits set → (found : List ℕ) → IsClosed Fits found → AreAmong set found → 3 ≤ length found
    large_above f found closed a_in = elim (outside_or_in found set) [
      | inl w ↦ three w.0 a b found (λ e. w.2 (subst (Contains set) (sym e) has_a)) (λ e. w.2 (subst (Contains set) (sym e) has_b)) differ w.1 (in_whole set found a a_in has_a) (in_whole set found b a_in has_b)
      | inr h ↦ no_smaller f.whole found (different_set f.whole (law.sets f.whole f.whole_fits)) (closed.full f.whole f.whole_fits (among found f.whole (λ x c. in_whole set f.whole x f.has (h x c)))) f.large
    ]

    pub gains_there : (excluded : List ℕ) (old new : List (List ℕ)) → LiesInThree Fits set → Gains (IsClosedFrom Fits set excluded) old new → Gains (IsClosedFrom (LiesInThree Fits) set excluded) old new
    gains_there excluded old new f g = λ found. (
      λ c. elim ((g found).0 c) [
        | inl d ↦ inl d
        | inr k ↦ inr (record { closed = closed_there found k.closed (large_above f found k.closed k.has); has = k.has; free = k.free })
      ],
      λ c. (g found).1 (elim c [
        | inl d ↦ inl d
        | inr k ↦ inr (record { closed = (closed_here found k.closed).0; has = k.has; free = k.free })
      ]),
    )
