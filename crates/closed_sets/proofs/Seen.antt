-- The fitting pairs of the tests' family.
use Rattle.std.proofs.Common.{◌≡◌, ℕ, ◌+◌, ◌<◌, Bool, true, false, cond, IsTrue, IfOk, Result, Ok, Err, List, [], ◌∷◌, ◌++◌, ◌⊎◌, inl, inr, Vec, Global, length, map, take, get_or, refl, sym, subst, ap, ◌∙◌, ◌↔◌, arith}
use Rattle.std.specs.List.{Contains}
use Rattle.std.proofs.lemmas.Bool.{cases_eq, false≢true}
use Rattle.std.proofs.lemmas.List.{get_or-map, length-map, take_more}
use Rattle.std.proofs.lemmas.List.Elements.{All-contains, Contains-append_left, Contains-get_or, Contains-push, Contains-push_cases}
use Rattle.sky_units.specs.Tracks.{AreAmong}
use Rattle.closed_sets.specs.Families.{IsSet}
use Rattle.closed_sets.specs.Around.{AreFittingPairs, IsFittingPair}
use Rattle.closed_sets.specs.Objects.{IsSeen, seen_is_hereditary}
use Rattle.closed_sets.proofs.Fitting.{part_fits, together}
use Rattle.closed_sets.proofs.Pairs.{pair_is}
use Rattle.closed_sets.proofs.Lists.{among, in_front, in_none, in_rest, in_whole}

module _ (objects : List (List ℕ)) (item : ℕ) where
  pub pair_told : {E : Type 0} (r : Result Bool E) (first second : ℕ) (set list : List ℕ) → IsSet set → ((x : ℕ) → Contains set x ↔ Contains list x) → list ≡ item ∷ first ∷ second ∷ [] → (¬ (first ≡ item)) → (¬ (second ≡ item)) → first < second → IfOk r (λ fits. IsTrue fits ↔ IsSeen objects set) → IfOk r (λ fits. IsTrue fits ↔ IsFittingPair (IsSeen objects) item (first, second))
  pair_told (Err e) first second set list s h e' a b less says = tt
  pair_told (Ok fits) first second set list s h e a b less says =
      let members : (x : ℕ) → Contains set x ↔ Contains (item ∷ first ∷ second ∷ []) x = subst (λ (xs : List ℕ). (x : ℕ) → Contains set x ↔ Contains xs x) e h in (
        λ t. record { rising = less; first = a; second = b; fit = together (IsSeen objects) (item ∷ first ∷ second ∷ []) set (says.0 t) (among (item ∷ first ∷ second ∷ []) set (λ x c. (members x).1 c)) },
        λ p. says.1 (part_fits (IsSeen objects) (seen_is_hereditary objects) (item ∷ first ∷ second ∷ []) set p.fit s (among set (item ∷ first ∷ second ∷ []) (λ x c. (members x).0 c))),
      )

  -- ---- the pairs of a second number
  abbrev pub HasFirst : List (ℕ × ℕ) → ℕ → ℕ → List (ℕ × ℕ) → Type 0
  HasFirst old second first now = (pair : ℕ × ℕ) → Contains now pair ↔ (Contains old pair ⊎ ((pair.1 ≡ second) × (pair.0 < first) × IsFittingPair (IsSeen objects) item pair))

  pub first_none : (old : List (ℕ × ℕ)) (second : ℕ) → HasFirst old second 0 old
  first_none old second = λ pair. (λ c. inl c, λ c. elim c [ inl d ↦ d | inr w ↦ (let less : pair.0 < 0 = w.1 in absurd (omega arith)) ])

  pub first_more : (old now new : List (ℕ × ℕ)) (second first : ℕ) (fits : Bool) → (IsTrue fits ↔ IsFittingPair (IsSeen objects) item (first, second)) → new ≡ cond fits (now ++ (first, second) ∷ []) now → HasFirst old second first now → HasFirst old second (first + 1) new
  first_more old now new second first true says e h = λ pair. (
    λ c. elim (Contains-push_cases now (first, second) pair (subst (λ (ps : List (ℕ × ℕ)). Contains ps pair) e c)) [
      | inl d ↦ elim ((h pair).0 d) [
        | inl k ↦ inl k
        | inr w ↦ (let less : pair.0 < first = w.1 in inr (w.0, omega arith, w.2))
      ]
      | inr same ↦ inr (subst (λ (p : ℕ × ℕ). (p.1 ≡ second) × (p.0 < first + 1) × IsFittingPair (IsSeen objects) item p) same (refl, omega arith, says.0 refl))
    ],
    λ c. subst (λ (ps : List (ℕ × ℕ)). Contains ps pair) (sym e) (elim c [
      | inl d ↦ Contains-append_left now ((first, second) ∷ []) pair ((h pair).1 (inl d))
      | inr w ↦ elim (cases_eq pair.0 first) [
        | inl same ↦ subst (Contains (now ++ (first, second) ∷ [])) (sym (pair_is pair first second same w.0)) (Contains-push now (first, second))
        | inr differ ↦ (
            let less : pair.0 < first + 1 = w.1 in
            Contains-append_left now ((first, second) ∷ []) pair ((h pair).1 (inr (w.0, omega arith, w.2))))
      ]
    ]),
  )
  first_more old now new second first false says e h = λ pair. (
    λ c. elim ((h pair).0 (subst (λ (ps : List (ℕ × ℕ)). Contains ps pair) e c)) [
      | inl k ↦ inl k
      | inr w ↦ (let less : pair.0 < first = w.1 in inr (w.0, omega arith, w.2))
    ],
    λ c. subst (λ (ps : List (ℕ × ℕ)). Contains ps pair) (sym e) (elim c [
      | inl d ↦ (h pair).1 (inl d)
      | inr w ↦ elim (cases_eq pair.0 first) [
        | inl same ↦ absurd (false≢true (says.1 (subst (λ (p : ℕ × ℕ). IsFittingPair (IsSeen objects) item p) (pair_is pair first second same w.0) w.2)))
        | inr differ ↦ (
            let less : pair.0 < first + 1 = w.1 in
            (h pair).1 (inr (w.0, omega arith, w.2)))
      ]
    ]),
  )

  pub first_all : (old now : List (ℕ × ℕ)) (second : ℕ) → HasFirst old second second now → (pair : ℕ × ℕ) → Contains now pair ↔ (Contains old pair ⊎ ((pair.1 ≡ second) × IsFittingPair (IsSeen objects) item pair))
  first_all old now second h pair = (
    λ c. elim ((h pair).0 c) [ inl d ↦ inl d | inr w ↦ inr (w.0, w.2) ],
    λ c. (h pair).1 (elim c [
      | inl d ↦ inl d
      | inr w ↦ (
          let rising : pair.0 < pair.1 = w.1.rising in
          let same : pair.1 ≡ second = w.0 in
          inr (w.0, omega arith, w.1))
    ]),
  )

  -- ---- the pairs of all second numbers
  abbrev pub HasSecond : ℕ → List (ℕ × ℕ) → Type 0
  HasSecond second now = (pair : ℕ × ℕ) → Contains now pair ↔ ((pair.1 < second) × IsFittingPair (IsSeen objects) item pair)

  pub second_none : (found : List (ℕ × ℕ)) → found ≡ [] → HasSecond 0 found
  second_none found e = λ pair. (λ c. absurd (in_none pair (subst (λ (ps : List (ℕ × ℕ)). Contains ps pair) e c)), λ w. (let less : pair.1 < 0 = w.0 in absurd (omega arith)))

  pub second_more : (now new : List (ℕ × ℕ)) (second : ℕ) → HasSecond second now → ((pair : ℕ × ℕ) → Contains new pair ↔ (Contains now pair ⊎ ((pair.1 ≡ second) × IsFittingPair (IsSeen objects) item pair))) → HasSecond (second + 1) new
  second_more now new second h k pair = (
    λ c. elim ((k pair).0 c) [
      | inl d ↦ (
          let w = (h pair).0 d in
          let less : pair.1 < second = w.0 in
          (omega arith, w.1))
      | inr w ↦ (let same : pair.1 ≡ second = w.0 in (omega arith, w.1))
    ],
    λ w. (k pair).1 (elim (cases_eq pair.1 second) [
      | inl same ↦ inr (same, w.1)
      | inr differ ↦ (let less : pair.1 < second + 1 = w.0 in inl ((h pair).1 (omega arith, w.1)))
    ]),
  )

  pub second_all : (now : List (ℕ × ℕ)) → HasSecond 10 now → AreFittingPairs (IsSeen objects) item now
  second_all now h pair = (
    λ c. ((h pair).0 c).1,
    λ p. (h pair).1 (All-contains (λ (x : ℕ). x < 10) p.fit.whole pair.1 p.fit.fits.small (in_whole (item ∷ pair.0 ∷ pair.1 ∷ []) p.fit.whole pair.1 p.fit.has (in_rest item (pair.0 ∷ pair.1 ∷ []) pair.1 (in_rest pair.0 (pair.1 ∷ []) pair.1 (in_front pair.1 [])))), p),
  )

-- ---- objects in turn
module _ (objects : List (Vec ℕ Global)) (numbers : List ℕ) (i : ℕ) (object : Vec ℕ Global) (within : i < length objects) (is : object ≡ get_or objects i object) where
  there : get_or (map (λ (o : Vec ℕ Global). o.items) objects) i [] ≡ object.items
  there = get_or-map (λ (o : Vec ℕ Global). o.items) objects i object [] within ∙ ap (λ (o : Vec ℕ Global). o.items) (sym is)

  next : take (i + 1) (map (λ (o : Vec ℕ Global). o.items) objects) ≡ take i (map (λ (o : Vec ℕ Global). o.items) objects) ++ object.items ∷ []
  next = take_more (map (λ (o : Vec ℕ Global). o.items) objects) i [] (simp length-map within) ∙ ap (λ (x : List ℕ). take i (map (λ (o : Vec ℕ Global). o.items) objects) ++ x ∷ []) there

  pub none_more : ((x : List ℕ) → Contains (take i (map (λ (o : Vec ℕ Global). o.items) objects)) x → ¬ AreAmong numbers x) → (¬ AreAmong numbers object.items) → (x : List ℕ) → Contains (take (i + 1) (map (λ (o : Vec ℕ Global). o.items) objects)) x → ¬ AreAmong numbers x
  none_more h k x c = elim (Contains-push_cases (take i (map (λ (o : Vec ℕ Global). o.items) objects)) object.items x (subst (λ (xs : List (List ℕ)). Contains xs x) next c)) [
    | inl d ↦ h x d
    | inr e ↦ subst (λ (y : List ℕ). ¬ AreAmong numbers y) e k
  ]

  pub object_in : Contains (map (λ (o : Vec ℕ Global). o.items) objects) object.items
  object_in = subst (Contains (map (λ (o : Vec ℕ Global). o.items) objects)) there (Contains-get_or (map (λ (o : Vec ℕ Global). o.items) objects) i [] (simp length-map within))
