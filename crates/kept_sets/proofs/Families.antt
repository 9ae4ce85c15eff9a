-- What is kept of a family after a change: the candidates that lie properly in no other.
use Rattle.std.proofs.Common.{◌≡◌, ℕ, zero, suc, ◌<◌, ◌≤◌, List, [], ◌∷◌, ◌++◌, length, map, sym, subst, ap, ◌∙◌, ◌↔◌, arith}
use Rattle.std.specs.List.{Contains}
use Rattle.std.proofs.lemmas.List.Elements.{Contains-append_left, Contains-append_right}
use mathlib.Core.Logic.{◌⊎◌, inl, inr}
use Rattle.closed_sets.specs.Families.{IsClosed, IsSet}
use Rattle.sky_units.specs.Tracks.{AreAmong}
use Rattle.kept_sets.specs.Changes.{AreReady, IsAfter, IsCandidate, IsRest, IsStep, IsTop, Stays}
use Rattle.kept_sets.specs.Kept.{AreKept, IsKept}
use Rattle.kept_sets.specs.Lists.{AreDifferent, HoldsOne, less}
use Rattle.kept_sets.proofs.Basics.{among, among_itself, among_less, among_or_not, among_then, at_least, front_or_rest, holds_or_not, in_front, in_map, in_none, in_or_not, in_rest, lacks_fewer, less_among, less_same, member, of_map, same_or_not, same_sets}

-- a fitting set lies in a closed one, so not all closed sets above it can be ruled out
module _ (Fits : List ℕ → Type 0) (items : List ℕ) (all : (set : List ℕ) → Fits set → AreAmong set items) where
  climbs : (fuel : ℕ) (base : List ℕ) → ((top : List ℕ) → IsClosed Fits top → AreAmong base top → ⊥) → (set : List ℕ) → Fits set → AreAmong base set → length (less set items) < fuel → ⊥
  climbs zero base none set fits a l = absurd (omega arith)
  climbs (suc fuel) base none set fits a l = none set (record {
    fits = fits;
    full = λ other f b. elim (among_or_not other set) [
      | inl whole ↦ whole
      | inr w ↦
          let k = lacks_fewer items set other w.0 b (member other items (all other f) w.0 w.1) w.1 w.2 in
          absurd (climbs fuel base none other f (among_then base set other a b) (omega arith))
    ];
  }) a

  pub some_above : (set : List ℕ) → Fits set → ((top : List ℕ) → IsClosed Fits top → AreAmong set top → ⊥) → ⊥
  some_above set fits none = climbs (suc (length (less set items))) set none set fits (among_itself set) (omega arith)

-- an old set that is such a set without what went
whole_or_none : (went set : List ℕ) (sets : List (List ℕ)) → ((whole : List ℕ) × Contains sets whole × (set ≡ less went whole)) ⊎ ((whole : List ℕ) → Contains sets whole → set ≡ less went whole → ⊥)
whole_or_none went set [] = inr (λ whole c e. in_none whole c)
whole_or_none went set (x ∷ xs) = elim (same_or_not set (less went x)) [
  | inl e ↦ inl (x, in_front x xs, e)
  | inr n ↦ elim (whole_or_none went set xs) [
    | inl w ↦ inl (w.0, in_rest x xs w.0 w.1, w.2)
    | inr m ↦ inr (λ whole c e. elim (front_or_rest x xs whole c) [ inl f ↦ n (e ∙ ap (less went) (sym f)) | inr d ↦ m whole d e ])
  ]
]

module _ (Old New : List ℕ → Type 0) (went came : List ℕ) (old grown : List (List ℕ)) (step : IsStep Old New went came old grown) where
  is_set : (set : List ℕ) → New set → IsSet set
  is_set set n = step.after.sets set n

  -- the sets of the family now are made of the old items and those that came
  made_of : (set : List ℕ) → New set → AreAmong set (step.finite.items ++ came)
  made_of set n = among set (step.finite.items ++ came) (λ x c. elim (in_or_not came x) [
    | inl d ↦ Contains-append_right step.finite.items came x d
    | inr k ↦ Contains-append_left step.finite.items came x (member (less came set) step.finite.items (step.finite.all (less came set) (step.change.was set n)) x (in_part set x c k))
  ]) where
    in_part : (set : List ℕ) (x : ℕ) → Contains set x → (Contains came x → ⊥) → Contains (less came set) x
    in_part set x c k = member (x ∷ []) (less came set) (among_less came (x ∷ []) set (among (x ∷ []) set (λ y d. elim (front_or_rest x [] y d) [ inl e ↦ subst (Contains set) e c | inr f ↦ absurd (in_none y f) ])) (λ w. elim (front_or_rest x [] w.0 w.2) [ inl e ↦ k (subst (Contains came) (sym e) w.1) | inr f ↦ in_none w.0 f ])) x (in_front x [])

  is_new : (set : List ℕ) → IsCandidate went old grown set → New set
  is_new set (inl g) = ((step.grown_now.exactly set).0 g).0.0.fits
  is_new set (inr w) = subst New (sym w.2) (step.change.stays w.0 ((step.kept.exactly w.0).0 w.1).0.fits)

  -- where a kept set has no item that came, it is an old one without what went
  has_whole : (set : List ℕ) → IsKept New set → (HoldsOne came set → ⊥) → (whole : List ℕ) × Contains old whole × (set ≡ less went whole)
  has_whole set k n = elim (whole_or_none went set old) [
    | inl w ↦ w
    | inr none ↦
        let was : Old set = subst Old (less_same came set n) (step.change.was set k.0.fits) in
        absurd (some_above Old step.finite.items step.finite.all set was (λ top closed a.
        let here : IsSet set = is_set set k.0.fits in
        let long = at_least top set here (step.before.sets top closed.fits) a in
        let listed : Contains old top = (step.kept.exactly top).1 (closed, omega arith) in
        let left : New (less went top) = step.change.stays top closed.fits in
        let wide : AreAmong set (less went top) = among_less went set top a (step.change.gone set k.0.fits) in
        none top listed (same_sets set (less went top) here (is_set (less went top) left) wide (k.0.full (less went top) left wide))))
  ]

  kept_is_candidate : (set : List ℕ) → IsKept New set → IsCandidate went old grown set
  kept_is_candidate set k = elim (holds_or_not came set) [
    | inl h ↦ inl ((step.grown_now.exactly set).1 (k, h))
    | inr n ↦ inr (has_whole set k n)
  ]

  -- a fitting set of three or more is kept where every kept set that has all of it has no more
  kept_if : (set : List ℕ) → New set → 3 ≤ length set → ((top : List ℕ) → IsKept New top → AreAmong set top → AreAmong top set) → IsKept New set
  kept_if set n large top_is = (
    record {
      fits = n;
      full = λ other f a. elim (among_or_not other set) [
        | inl whole ↦ whole
        | inr w ↦ absurd (some_above New (step.finite.items ++ came) made_of other f (λ top closed b.
            let wide = among_then set other top a b in
            let long = at_least top set (is_set set n) (is_set top closed.fits) wide in
            w.2 (member top set (top_is top (closed, omega arith) wide) w.0 (member other top b w.0 w.1))))
      ];
    },
    large,
  )

  -- ---- the law by candidates
  pub kept_is_top : (set : List ℕ) → IsKept New set ↔ IsTop went old grown set
  kept_is_top set = (
    λ k. record {
      candidate = kept_is_candidate set k;
      large = k.1;
      top = λ other c a. k.0.full other (is_new other c) a;
    },
    λ t. kept_if set (is_new set t.candidate) t.large (λ top k a. t.top top (kept_is_candidate top k) a),
  )

  -- ---- the law by what stays, rests and grown sets
  rest_or_stays : (set : List ℕ) → IsKept New set → (HoldsOne came set → ⊥) → (whole : List ℕ) → Contains old whole → set ≡ less went whole → IsAfter went came old grown set
  rest_or_stays set k n whole c e = elim (holds_or_not went whole) [
    | inl h ↦ inr (inl (record {
      whole = whole;
      was = c;
      broken = h;
      is = e;
      large = k.1;
      old_top = λ other d a.
          let fits : New (less went other) = step.change.stays other ((step.kept.exactly other).0 d).0.fits in
          k.0.full (less went other) fits (among_less went set other a (step.change.gone set k.0.fits));
      new_top = λ other d a. n (narrow other d a);
    }))
    | inr m ↦
        let same : set ≡ whole = e ∙ less_same went whole m in
        inl (record {
          was = subst (Contains old) (sym same) c;
          whole = λ h. m (subst (HoldsOne went) same h);
          free = λ d. n (extended d);
        })
  ] where
    narrow : (other : List ℕ) → Contains grown other → AreAmong set other → HoldsOne came set
    narrow other d a =
        let g = (step.grown_now.exactly other).0 d in
        (g.1.0, g.1.1, member other set (k.0.full other g.0.0.fits a) g.1.0 g.1.2)

    extended : Contains (map (less came) grown) set → HoldsOne came set
    extended d = (let w = of_map (less came) grown set d in narrow w.0 w.1 (subst (λ s. AreAmong s w.0) w.2 (less_among came w.0)))

  kept_is_after : (set : List ℕ) → IsKept New set → IsAfter went came old grown set
  kept_is_after set k = elim (holds_or_not came set) [
    | inl h ↦ inr (inr ((step.grown_now.exactly set).1 (k, h)))
    | inr n ↦ (let w = has_whole set k n in rest_or_stays set k n w.0 w.1 w.2)
  ]

  stays_is_kept : (set : List ℕ) → Stays went came old grown set → IsKept New set
  stays_is_kept set s =
      let was = (step.kept.exactly set).0 s.was in
      let now : New set = subst New (less_same went set s.whole) (step.change.stays set was.0.fits) in
      kept_if set now was.1 (λ top k a. elim (kept_is_candidate top k) [
        | inl g ↦
            let part : Old (less came top) = step.change.was top k.0.fits in
            let wide : AreAmong set (less came top) = among_less came set top a (step.change.fresh set was.0.fits) in
            let same : less came top ≡ set = same_sets (less came top) set (step.before.sets (less came top) part) (step.before.sets set was.0.fits) (was.0.full (less came top) part wide) wide in
            absurd (s.free (subst (Contains (map (less came) grown)) same (in_map (less came) grown top g)))
        | inr w ↦
            let inside : AreAmong top w.0 = subst (λ z. AreAmong z w.0) (sym w.2) (less_among went w.0) in
            among_then top w.0 set inside (was.0.full w.0 ((step.kept.exactly w.0).0 w.1).0.fits (among_then set top w.0 a inside))
      ])

  rest_is_kept : (set : List ℕ) → IsRest went old grown set → IsKept New set
  rest_is_kept set r =
      kept_if set (is_new set (inr (r.whole, r.was, r.is))) r.large (λ top k a. elim (kept_is_candidate top k) [
        | inl g ↦ absurd (r.new_top top g a)
        | inr w ↦
            let inside : AreAmong top w.0 = subst (λ z. AreAmong z w.0) (sym w.2) (less_among went w.0) in
            subst (λ z. AreAmong z set) (sym w.2) (r.old_top w.0 w.1 (among_then set top w.0 a inside))
      ])

  pub kept_are_after : (set : List ℕ) → IsKept New set ↔ IsAfter went came old grown set
  kept_are_after set = (
    kept_is_after set,
    λ a. elim a [
      | inl s ↦ stays_is_kept set s
      | inr b ↦ elim b [ inl r ↦ rest_is_kept set r | inr g ↦ ((step.grown_now.exactly set).0 g).0 ]
    ],
  )

  -- ---- what a change relies on, and what it gives
  pub ready : AreReady went came old grown
  ready = record {
    sets = λ set c. step.before.sets set ((step.kept.exactly set).0 c).0.fits;
    apart = λ set other c d a.
        let one = ((step.kept.exactly set).0 c).0 in
        let two = ((step.kept.exactly other).0 d).0 in
        same_sets set other (step.before.sets set one.fits) (step.before.sets other two.fits) a (one.full other two.fits a);
    fresh = λ set c. step.change.fresh set ((step.kept.exactly set).0 c).0.fits;
    once = step.grown_now.once;
    new = λ set c. ((step.grown_now.exactly set).0 c).1;
    left = λ set c. step.change.gone set ((step.grown_now.exactly set).0 c).0.0.fits;
  }

  pub kept_now : (now : List (List ℕ)) → AreDifferent now → ((set : List ℕ) → Contains now set ↔ IsAfter went came old grown set) → AreKept New now
  kept_now now once exactly = record {
    once = once;
    exactly = λ set. (
      λ c. (kept_are_after set).1 ((exactly set).0 c),
      λ k. (exactly set).1 ((kept_are_after set).0 k),
    );
  }
