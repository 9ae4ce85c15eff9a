-- Pairs of numbers, and what is paired.
use Rattle.std.proofs.Common.{◌≡◌, ℕ, ◌+◌, ◌<◌, ◌≤◌, nat_eq, Bool, true, false, not, cond, List, [], ◌∷◌, ◌++◌, inl, inr, length, map, drop, refl, sym, subst, ◌↔◌, length-append, arith}
use Rattle.std.specs.List.{Contains, filter}
use Rattle.std.proofs.lemmas.Bool.{cases_order, eq-eqb, eqb-true, false≢true}
use Rattle.std.proofs.lemmas.List.Elements.{Contains-append_cases, Contains-append_left, Contains-append_right}
use Rattle.closed_sets.specs.Families.{IsHereditary, IsSet}
use Rattle.closed_sets.specs.Around.{AreFittingPairs, FitTogether}
use Rattle.closed_sets.specs.Counting.{AreDifferent}
use Rattle.closed_sets.specs.Search.{ArePartners, IsPaired, IsUnion, is_one, is_pair_free}
use Rattle.closed_sets.proofs.Fitting.{fewer, together}
use Rattle.closed_sets.proofs.Lists.{among_cons, among_none, different_append, different_filter, different_set, from_filter, from_map, front_or_rest, in_filter, in_front, in_map, in_none, in_or_not, in_rest, no_longer, not_one, only_one, outside_or_in}

-- the numbers that stand beside one in some pairs
abbrev pub firsts : List (ℕ × ℕ) → ℕ → List ℕ
firsts pairs leader = map (λ (pair : ℕ × ℕ). pair.0) (filter (λ (pair : ℕ × ℕ). nat_eq pair.1 leader) pairs)

abbrev pub seconds : List (ℕ × ℕ) → ℕ → List ℕ
seconds pairs leader = map (λ (pair : ℕ × ℕ). pair.1) (filter (λ (pair : ℕ × ℕ). nat_eq pair.0 leader) pairs)

pub pair_is : (pair : ℕ × ℕ) (x y : ℕ) → pair.0 ≡ x → pair.1 ≡ y → ◌≡◌ {A = ℕ × ℕ} pair (x, y)
pair_is pair x y e f = subst (λ (a : ℕ). ◌≡◌ {A = ℕ × ℕ} pair (a, y)) e (subst (λ (b : ℕ). ◌≡◌ {A = ℕ × ℕ} pair (pair.0, b)) f refl)

pub in_firsts : (pairs : List (ℕ × ℕ)) (leader x : ℕ) → Contains (firsts pairs leader) x ↔ Contains pairs (x, leader)
in_firsts pairs leader x = (
  λ c.
      let w = from_map (λ (pair : ℕ × ℕ). pair.0) (filter (λ (pair : ℕ × ℕ). nat_eq pair.1 leader) pairs) x c in
      let k = from_filter (λ (pair : ℕ × ℕ). nat_eq pair.1 leader) pairs w.0 w.1 in
      let first : w.0.0 ≡ x = w.2 in
      let second : w.0.1 ≡ leader = eqb-true w.0.1 leader k.1 in
      let same = pair_is w.0 x leader first second in
      subst (Contains pairs) same k.0,
  λ c. in_map (λ (pair : ℕ × ℕ). pair.0) (filter (λ (pair : ℕ × ℕ). nat_eq pair.1 leader) pairs) (x, leader) (in_filter (λ (pair : ℕ × ℕ). nat_eq pair.1 leader) pairs (x, leader) c (eq-eqb leader leader refl)),
)

pub in_seconds : (pairs : List (ℕ × ℕ)) (leader x : ℕ) → Contains (seconds pairs leader) x ↔ Contains pairs (leader, x)
in_seconds pairs leader x = (
  λ c.
      let w = from_map (λ (pair : ℕ × ℕ). pair.1) (filter (λ (pair : ℕ × ℕ). nat_eq pair.0 leader) pairs) x c in
      let k = from_filter (λ (pair : ℕ × ℕ). nat_eq pair.0 leader) pairs w.0 w.1 in
      let second : w.0.1 ≡ x = w.2 in
      let first : w.0.0 ≡ leader = eqb-true w.0.0 leader k.1 in
      let same = pair_is w.0 leader x first second in
      subst (Contains pairs) same k.0,
  λ c. in_map (λ (pair : ℕ × ℕ). pair.1) (filter (λ (pair : ℕ × ℕ). nat_eq pair.0 leader) pairs) (leader, x) (in_filter (λ (pair : ℕ × ℕ). nat_eq pair.0 leader) pairs (leader, x) c (eq-eqb leader leader refl)),
)

three_different : (x y z : ℕ) → (¬ (x ≡ y)) → (¬ (x ≡ z)) → (¬ (y ≡ z)) → AreDifferent (x ∷ y ∷ z ∷ [])
three_different x y z a b c = (
  λ d. elim (front_or_rest y (z ∷ []) x d) [ inl e ↦ a (sym e) | inr k ↦ b (sym (only_one z x k)) ],
  (λ d. c (sym (only_one z y d)), (in_none z, tt)),
)

-- a list that has three different numbers has three or more
pub three : (x y z : ℕ) (set : List ℕ) → (¬ (x ≡ y)) → (¬ (x ≡ z)) → (¬ (y ≡ z)) → Contains set x → Contains set y → Contains set z → 3 ≤ length set
three x y z set a b c has_x has_y has_z = no_longer (x ∷ y ∷ z ∷ []) set (three_different x y z a b c) (λ w d. elim (front_or_rest x (y ∷ z ∷ []) w d) [
  | inl e ↦ subst (Contains set) e has_x
  | inr k ↦ elim (front_or_rest y (z ∷ []) w k) [ inl e ↦ subst (Contains set) e has_y | inr m ↦ subst (Contains set) (only_one z w m) has_z ]
])

module _ (Fits : List ℕ → Type 0) (law : IsHereditary Fits) (item : ℕ) (pairs : List (ℕ × ℕ)) (exactly : AreFittingPairs Fits item pairs) where
  -- two numbers of a fitting set with the item are a pair
  pub are_pair : (set : List ℕ) (x y : ℕ) → Fits set → Contains set item → Contains set x → Contains set y → (¬ (x ≡ item)) → (¬ (y ≡ item)) → x < y → Contains pairs (x, y)
  are_pair set x y f i c d a b less = (exactly (x, y)).1 (record {
    rising = less;
    first = a;
    second = b;
    fit = together Fits (item ∷ x ∷ y ∷ []) set f (among_cons item (x ∷ y ∷ []) set i (among_cons x (y ∷ []) set c (among_cons y [] set d (among_none set))));
  })

  -- which are paired, in either order
  pub are_paired : (set : List ℕ) (x y : ℕ) → Fits set → Contains set item → Contains set x → Contains set y → (¬ (x ≡ item)) → (¬ (y ≡ item)) → (¬ (x ≡ y)) → IsPaired pairs x y
  are_paired set x y f i c d a b differ = elim (cases_order x y) [
    | inl e ↦ absurd (differ e)
    | inr h ↦ elim h [
      | inl less ↦ inl (are_pair set x y f i c d a b less)
      | inr more ↦ inr (are_pair set y x f i d c b a more)
    ]
  ]

  -- two numbers that are paired fit together with the item
  pub paired_fit : (x y : ℕ) → IsPaired pairs x y → FitTogether Fits (item ∷ x ∷ y ∷ [])
  paired_fit x y p = elim p [
    | inl c ↦ ((exactly (x, y)).0 c).fit
    | inr c ↦ fewer Fits (item ∷ y ∷ x ∷ []) (item ∷ x ∷ y ∷ []) ((exactly (y, x)).0 c).fit
        (among_cons item (x ∷ y ∷ []) (item ∷ y ∷ x ∷ []) (in_front item (y ∷ x ∷ [])) (among_cons x (y ∷ []) (item ∷ y ∷ x ∷ []) (in_rest item (y ∷ x ∷ []) x (in_rest y (x ∷ []) x (in_front x []))) (among_cons y [] (item ∷ y ∷ x ∷ []) (in_rest item (y ∷ x ∷ []) y (in_front y (x ∷ []))) (among_none (item ∷ y ∷ x ∷ [])))))
  ]

  pub paired_other : (x y : ℕ) → IsPaired pairs x y → ¬ (x ≡ item)
  paired_other x y p = elim p [ inl c ↦ ((exactly (x, y)).0 c).first | inr c ↦ ((exactly (y, x)).0 c).second ]

  pub paired_second : (x y : ℕ) → IsPaired pairs x y → ¬ (y ≡ item)
  paired_second x y p = elim p [ inl c ↦ ((exactly (x, y)).0 c).second | inr c ↦ ((exactly (y, x)).0 c).first ]

  pub paired_differ : (x y : ℕ) → IsPaired pairs x y → ¬ (x ≡ y)
  paired_differ x y p = elim p [
    | inl c ↦ λ e. (let rising : x < y = ((exactly (x, y)).0 c).rising in omega arith)
    | inr c ↦ λ e. (let rising : y < x = ((exactly (y, x)).0 c).rising in omega arith)
  ]

-- a set of three or more has a third number beside two
pub third : (set : List ℕ) (a b : ℕ) → AreDifferent set → 3 ≤ length set → (x : ℕ) × Contains set x × (¬ (a ≡ x)) × (¬ (b ≡ x))
third set a b different large = elim (outside_or_in set (a ∷ b ∷ [])) [
  | inl w ↦ (w.0, w.1, λ e. w.2 (subst (Contains (a ∷ b ∷ [])) e (in_front a (b ∷ []))), λ e. w.2 (subst (Contains (a ∷ b ∷ [])) e (in_rest a (b ∷ []) b (in_front b []))))
  | inr h ↦ (let few : length set ≤ length (a ∷ b ∷ []) = no_longer set (a ∷ b ∷ []) different h in absurd (omega arith))
]

-- ---- the numbers of pairs
pub numbers_in : (pairs : List (ℕ × ℕ)) (one other union : List ℕ) → one ≡ map (λ (pair : ℕ × ℕ). pair.0) pairs → other ≡ map (λ (pair : ℕ × ℕ). pair.1) pairs → IsUnion one other union → (x : ℕ) → Contains union x ↔ ((y : ℕ) × IsPaired pairs x y)
numbers_in pairs one other union e f u x = (
  λ c. elim ((u.exactly x).0 c) [
    | inl d ↦ (
        let w = from_map (λ (pair : ℕ × ℕ). pair.0) pairs x (subst (λ (xs : List ℕ). Contains xs x) e d) in
        (w.0.1, inl (subst (Contains pairs) (pair_is w.0 x w.0.1 w.2 refl) w.1)))
    | inr d ↦ (
        let w = from_map (λ (pair : ℕ × ℕ). pair.1) pairs x (subst (λ (xs : List ℕ). Contains xs x) f d) in
        (w.0.0, inr (subst (Contains pairs) (pair_is w.0 w.0.0 x refl w.2) w.1)))
  ],
  λ w. (u.exactly x).1 (elim w.1 [
    | inl c ↦ inl (subst (λ (xs : List ℕ). Contains xs x) (sym e) (in_map (λ (pair : ℕ × ℕ). pair.0) pairs (x, w.0) c))
    | inr c ↦ inr (subst (λ (xs : List ℕ). Contains xs x) (sym f) (in_map (λ (pair : ℕ × ℕ). pair.1) pairs (w.0, x) c))
  ]),
)

pub paired_in : (pairs : List (ℕ × ℕ)) (number : ℕ) (one other union : List ℕ) → one ≡ firsts pairs number → other ≡ seconds pairs number → IsUnion one other union → (x : ℕ) → Contains union x ↔ IsPaired pairs number x
paired_in pairs number one other union e f u x = (
  λ c. elim ((u.exactly x).0 c) [
    | inl d ↦ inr ((in_firsts pairs number x).0 (subst (λ (xs : List ℕ). Contains xs x) e d))
    | inr d ↦ inl ((in_seconds pairs number x).0 (subst (λ (xs : List ℕ). Contains xs x) f d))
  ],
  λ p. (u.exactly x).1 (elim p [
    | inl c ↦ inr (subst (λ (xs : List ℕ). Contains xs x) (sym f) ((in_seconds pairs number x).1 c))
    | inr c ↦ inl (subst (λ (xs : List ℕ). Contains xs x) (sym e) ((in_firsts pairs number x).1 c))
  ]),
)

-- ---- partners, of which those of pairs without done numbers are candidates
both_not : (a b : Bool) → (cond a false (not b) ≡ true) ↔ ((not a ≡ true) × (not b ≡ true))
both_not true b = (λ e. absurd (false≢true e), λ w. absurd (false≢true w.0))
both_not false b = (λ e. (refl, e), λ w. w.1)

pair_free : (done : List ℕ) (pair : ℕ × ℕ) → (is_pair_free done pair ≡ true) ↔ ((¬ Contains done pair.0) × (¬ Contains done pair.1))
pair_free done pair =
    let k = both_not (is_one done pair.0) (is_one done pair.1) in (
      λ e. ((not_one done pair.0).0 (k.0 e).0, (not_one done pair.1).0 (k.0 e).1),
      λ w. k.1 ((not_one done pair.0).1 w.0, (not_one done pair.1).1 w.1),
    )

-- paired without done numbers
free_paired : (pairs : List (ℕ × ℕ)) (done : List ℕ) (x y : ℕ) → IsPaired (filter (is_pair_free done) pairs) x y ↔ ((¬ Contains done x) × (¬ Contains done y) × IsPaired pairs x y)
free_paired pairs done x y = (
  λ p. elim p [
    | inl c ↦ (
        let w = from_filter (is_pair_free done) pairs (x, y) c in
        let k = (pair_free done (x, y)).0 w.1 in
        (k.0, k.1, inl w.0))
    | inr c ↦ (
        let w = from_filter (is_pair_free done) pairs (y, x) c in
        let k = (pair_free done (y, x)).0 w.1 in
        (k.1, k.0, inr w.0))
  ],
  λ w. elim w.2 [
    | inl c ↦ inl (in_filter (is_pair_free done) pairs (x, y) c ((pair_free done (x, y)).1 (w.0, w.1)))
    | inr c ↦ inr (in_filter (is_pair_free done) pairs (y, x) c ((pair_free done (y, x)).1 (w.1, w.0)))
  ],
)

pub drop_front : (xs ys : List ℕ) → drop (length xs) (xs ++ ys) ≡ ys
drop_front [] ys = refl
drop_front (x ∷ xs) ys = drop_front xs ys

module _ (pairs free : List (ℕ × ℕ)) (done all candidates rest numbers : List ℕ) (free_is : free ≡ filter (is_pair_free done) pairs) (all_set : IsSet all) (all_are : (x : ℕ) → Contains all x ↔ ((y : ℕ) × IsPaired pairs x y)) (set : IsSet candidates) (are : (x : ℕ) → Contains candidates x ↔ ((y : ℕ) × IsPaired free x y)) (rest_is : rest ≡ filter (λ number. not (is_one candidates number)) all) (is : numbers ≡ rest ++ candidates) where
  in_rest_of : (x : ℕ) → Contains rest x ↔ (Contains all x × (¬ Contains candidates x))
  in_rest_of x = (
    λ c. (let w = from_filter (λ number. not (is_one candidates number)) all x (subst (λ (xs : List ℕ). Contains xs x) rest_is c) in (w.0, (not_one candidates x).0 w.1)),
    λ w. subst (λ (xs : List ℕ). Contains xs x) (sym rest_is) (in_filter (λ number. not (is_one candidates number)) all x w.0 ((not_one candidates x).1 w.1)),
  )

  candidate_is : (x : ℕ) → Contains candidates x ↔ ((¬ Contains done x) × ((y : ℕ) × (¬ Contains done y) × IsPaired pairs x y))
  candidate_is x = (
    λ c. (
        let w = (are x).0 c in
        let k = (free_paired pairs done x w.0).0 (subst (λ (ps : List (ℕ × ℕ)). IsPaired ps x w.0) free_is w.1) in
        (k.0, (w.0, k.1, k.2))),
    λ w. (are x).1 (w.1.0, subst (λ (ps : List (ℕ × ℕ)). IsPaired ps x w.1.0) (sym free_is) ((free_paired pairs done x w.1.0).1 (w.0, w.1.1, w.1.2))),
  )

  pub partners_are : ArePartners pairs done numbers (length rest)
  partners_are = subst (λ (ns : List ℕ). ArePartners pairs done ns (length rest)) (sym is) (record {
    different = different_append rest candidates (subst AreDifferent (sym rest_is) (different_filter (λ number. not (is_one candidates number)) all (different_set all all_set))) (different_set candidates set) (λ x c d. ((in_rest_of x).0 c).1 d);
    within = (let size : length (rest ++ candidates) ≡ length rest + length candidates = length-append rest candidates in omega arith);
    exactly = λ x. (
      λ c. elim (Contains-append_cases rest candidates x c) [
        | inl d ↦ (all_are x).0 ((in_rest_of x).0 d).0
        | inr d ↦ (let w = (candidate_is x).0 d in (w.1.0, w.1.2))
      ],
      λ w. elim (in_or_not candidates x) [
        | inl d ↦ Contains-append_right rest candidates x d
        | inr new ↦ Contains-append_left rest candidates x ((in_rest_of x).1 ((all_are x).1 w, new))
      ],
    );
    candidates = λ x. (
      λ c. (candidate_is x).0 (subst (λ (xs : List ℕ). Contains xs x) (drop_front rest candidates) c),
      λ w. subst (λ (xs : List ℕ). Contains xs x) (sym (drop_front rest candidates)) ((candidate_is x).1 w),
    );
  })
