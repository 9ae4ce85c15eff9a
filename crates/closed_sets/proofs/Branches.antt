-- One branch of the search, and one branch after the other.
use Rattle.std.proofs.Common.{◌≡◌, ℕ, ◌+◌, ◌<◌, ◌≤◌, List, [], ◌∷◌, ◌++◌, inl, inr, length, take, drop, get_or, sym, subst, ◌↔◌, length-append, ◌-◌, arith}
use Rattle.std.specs.List.{Contains}
use Rattle.std.proofs.lemmas.List.{take_more}
use Rattle.std.proofs.lemmas.List.Elements.{Contains-append_cases, Contains-append_left, Contains-append_right, Contains-get_or, Contains-push, Contains-push_cases}
use Rattle.sky_units.specs.Tracks.{AreAmong}
use Rattle.closed_sets.specs.Around.{FitTogether, IsFree}
use Rattle.closed_sets.specs.Families.{IsHereditary}
use Rattle.closed_sets.specs.Counting.{AreDifferent, IsPaid, Rises}
use Rattle.closed_sets.specs.Search.{AreBeside, AreFitting, Gains, IsBranch, IsClosedFrom, IsGrown, IsNarrowed, IsReached, IsUnion}
use Rattle.closed_sets.proofs.Fitting.{beside, fits_beside, others_beside, set_of_them, union_fits}
use Rattle.closed_sets.proofs.Lists.{among, among_cons, among_none, different_append, different_apart, different_left, different_right, front_or_rest, in_front, in_longer, in_or_not, in_rest, in_whole, only_one, split_at_place}
use Rattle.closed_sets.proofs.Nodes.{take_front}
use Rattle.closed_sets.proofs.Paying.{paid_as, paid_by, paid_once, paid_then}

module _ (Fits : List ℕ → Type 0) (law : IsHereditary Fits) (set others : List ℕ) (known : AreBeside Fits set others) (place : ℕ) (within : place < length others) where
  abbrev item : ℕ
  item = get_or others place 0

  abbrev before : List ℕ
  before = take place others

  abbrev after : List ℕ
  after = drop (place + 1) others

  split : others ≡ take place others ++ get_or others place 0 ∷ drop (place + 1) others
  split = split_at_place others place 0 within

  apart : AreDifferent (take place others ++ get_or others place 0 ∷ drop (place + 1) others)
  apart = subst AreDifferent split known.different

  rest : AreDifferent (get_or others place 0 ∷ drop (place + 1) others)
  rest = different_right (take place others) (get_or others place 0 ∷ drop (place + 1) others) apart

  in_others : (x : ℕ) → Contains (take place others ++ get_or others place 0 ∷ drop (place + 1) others) x → Contains others x
  in_others x c = subst (λ (xs : List ℕ). Contains xs x) (sym split) c

  before_in : (x : ℕ) → Contains before x → Contains others x
  before_in x c = in_others x (Contains-append_left before (item ∷ after) x c)

  item_in : Contains others item
  item_in = in_others item (Contains-append_right before (item ∷ after) item (in_front item after))

  after_in : (x : ℕ) → Contains after x → Contains others x
  after_in x c = in_others x (Contains-append_right before (item ∷ after) x (in_rest item after x c))

  item_is_new : ¬ Contains set item
  item_is_new = known.new item item_in

  not_before : ¬ Contains before item
  not_before c = different_apart before (item ∷ after) apart item c (in_front item after)

  -- the numbers of the set and the item are not among those before
  pub none_before : (x : ℕ) → Contains before x → ¬ Contains (item ∷ set) x
  none_before x c d = elim (front_or_rest item set x d) [
    | inl e ↦ not_before (subst (Contains before) (sym e) c)
    | inr k ↦ known.new x (before_in x c) k
  ]

  pub next_front : take (place + 1) others ≡ take place others ++ get_or others place 0 ∷ []
  next_front = take_more others place 0 within

  pub branch : (grown excluded candidates numbers : List ℕ) → FitTogether Fits (get_or others place 0 ∷ set) → IsUnion set (get_or others place 0 ∷ []) grown → AreFitting Fits grown (take place others) excluded → AreFitting Fits grown (drop (place + 1) others) candidates → numbers ≡ excluded ++ candidates →
      IsBranch Fits set (take place others) (get_or others place 0) grown numbers (length excluded)
  branch grown excluded candidates numbers fit u b a e = subst (λ (ns : List ℕ). IsBranch Fits set before item grown ns (length excluded)) (sym e) (record {
    node = record {
      fits = union_fits Fits law (item ∷ set) set (item ∷ []) grown fit u (among set (item ∷ set) (λ x c. in_rest item set x c)) (among_cons item [] (item ∷ set) (in_front item set) (among_none (item ∷ set)));
      listed = record {
        different = different_append excluded candidates (b.different (different_left before (item ∷ after) apart)) (a.different rest.1) (λ x c d.
            different_apart before (item ∷ after) apart x ((b.exactly x).0 c).0 (in_rest item after x ((a.exactly x).0 d).0));
        exactly = λ x. (
          λ c. elim (Contains-append_cases excluded candidates x c) [
            | inl d ↦ (let w = (b.exactly x).0 d in (λ k. none_before x w.0 (in_grown x k), w.1))
            | inr d ↦ (let w = (a.exactly x).0 d in (λ k. none_after x w.0 (in_grown x k), w.1))
          ],
          λ w. elim (Contains-append_cases before (item ∷ after) x (subst (λ (xs : List ℕ). Contains xs x) split (known.complete x (λ c. w.0 ((u.exactly x).1 (inl c))) (beside Fits x grown set w.1 (among set grown (λ y c. (u.exactly y).1 (inl c))))))) [
            | inl c ↦ Contains-append_left excluded candidates x ((b.exactly x).1 (c, w.1))
            | inr c ↦ elim (front_or_rest item after x c) [
              | inl same ↦ absurd (w.0 ((u.exactly x).1 (inr (subst (Contains (item ∷ [])) same (in_front item [])))))
              | inr d ↦ Contains-append_right excluded candidates x ((a.exactly x).1 (d, w.1))
            ]
          ],
        );
      };
      within =
          let longer : length (excluded ++ candidates) ≡ length excluded + length candidates = length-append excluded candidates in
          omega arith;
    };
    exactly = λ x. (
      λ c. elim ((u.exactly x).0 c) [ inl d ↦ inr d | inr d ↦ inl d ],
      λ c. (u.exactly x).1 (elim c [ inl d ↦ inr d | inr d ↦ inl d ]),
    );
    excluded = λ x. (
      λ c. (b.exactly x).0 (subst (λ (xs : List ℕ). Contains xs x) (take_front excluded candidates) c),
      λ w. subst (λ (xs : List ℕ). Contains xs x) (sym (take_front excluded candidates)) ((b.exactly x).1 w),
    );
  })
    where
      in_grown : (x : ℕ) → Contains grown x → Contains (item ∷ set) x
      in_grown x c = elim ((u.exactly x).0 c) [
        | inl d ↦ in_rest item set x d
        | inr d ↦ subst (Contains (item ∷ set)) (only_one item x d) (in_front item set)
      ]

      none_after : (x : ℕ) → Contains after x → ¬ Contains (item ∷ set) x
      none_after x c d = elim (front_or_rest item set x d) [
        | inl same ↦ rest.0 (subst (Contains after) (sym same) c)
        | inr k ↦ known.new x (after_in x c) k
      ]

  module _ (grown numbers : List ℕ) (first : ℕ) (b : IsBranch Fits set (take place others) (get_or others place 0) grown numbers first) where
    has_both : AreAmong (item ∷ set) grown
    has_both = among (item ∷ set) grown (λ x c. (b.exactly x).1 (elim (front_or_rest item set x c) [
      | inl e ↦ inl (subst (Contains (item ∷ [])) e (in_front item []))
      | inr d ↦ inr d
    ]))

    grown_in : AreAmong grown (item ∷ set)
    grown_in = among grown (item ∷ set) (λ x c. elim ((b.exactly x).0 c) [
      | inl d ↦ subst (Contains (item ∷ set)) (only_one item x d) (in_front item set)
      | inr d ↦ in_rest item set x d
    ])

    has_grown : (found : List ℕ) → AreAmong (item ∷ set) found → AreAmong grown found
    has_grown found a = among grown found (λ x c. in_whole (item ∷ set) found x a (in_whole grown (item ∷ set) x grown_in c))

    has_first : (found : List ℕ) → AreAmong grown found → AreAmong (item ∷ set) found
    has_first found a = among (item ∷ set) found (λ x c. in_whole grown found x a (in_whole (item ∷ set) grown x has_both c))

    free_of_all : (found : List ℕ) → Fits found → AreAmong grown found → IsFree (take first numbers) found → IsFree (take place others) found
    free_of_all found f a free = λ x c d. free x ((b.excluded x).1 (c, fits_beside Fits x grown found f d a)) d

    pub branch_closed : (found : List ℕ) → IsClosedFrom Fits grown (take first numbers) found ↔ IsClosedFrom Fits (get_or others place 0 ∷ set) (take place others) found
    branch_closed found = (
      λ f. record { closed = f.closed; has = has_first found f.has; free = free_of_all found f.closed.fits f.has f.free },
      λ f. record { closed = f.closed; has = has_grown found f.has; free = λ x c d. f.free x ((b.excluded x).0 c).0 d },
    )

    -- the branch's own tests, and the search below it
    pub branch_paid : (size tests start middle end : ℕ) → tests ≤ size → Rises tests start middle → IsPaid (IsGrown Fits grown (take first numbers)) size 0 middle end → IsPaid (IsReached Fits (get_or others place 0 ∷ set) (take place others)) size 0 start end
    branch_paid size tests start middle end e r p = paid_by (IsGrown Fits grown (take first numbers)) (IsReached Fits (item ∷ set) before) grown size tests start middle end e
        (record { fits = b.node.fits; has = has_both; free = λ x c d. none_before x c (in_whole grown (item ∷ set) x grown_in d) })
        (λ found g. record { fits = g.reached.fits; has = has_first found g.reached.has; free = free_of_all found g.reached.fits g.reached.has g.reached.free })
        (λ g. g.new g.there)
        r p

  -- ---- one branch after the other
  free_before : (found : List ℕ) → IsFree (take (place + 1) others) found → IsFree (take place others) found
  free_before found free = λ x c d. free x (subst (λ (xs : List ℕ). Contains xs x) (sym next_front) (Contains-append_left before (item ∷ []) x c)) d

  pub gains_more : (old middle new : List (List ℕ)) → Gains (IsClosedFrom Fits set (take (place + 1) others)) old middle → Gains (IsClosedFrom Fits (get_or others place 0 ∷ set) (take place others)) middle new → Gains (IsClosedFrom Fits set (take place others)) old new
  gains_more old middle new one two = λ found. (
    λ c. elim ((two found).0 c) [
      | inl d ↦ elim ((one found).0 d) [
        | inl k ↦ inl k
        | inr f ↦ inr (record { closed = f.closed; has = f.has; free = free_before found f.free })
      ]
      | inr f ↦ inr (record { closed = f.closed; has = among set found (λ x k. in_whole (item ∷ set) found x f.has (in_rest item set x k)); free = f.free })
    ],
    λ c. elim c [
      | inl d ↦ (two found).1 (inl ((one found).1 (inl d)))
      | inr f ↦ elim (in_or_not found item) [
        | inl has ↦ (two found).1 (inr (record { closed = f.closed; has = among_cons item set found has f.has; free = f.free }))
        | inr lacks ↦ (two found).1 (inl ((one found).1 (inr (record {
          closed = f.closed;
          has = f.has;
          free = λ x k d. elim (Contains-push_cases before item x (subst (λ (xs : List ℕ). Contains xs x) next_front k)) [
            | inl m ↦ f.free x m d
            | inr e ↦ lacks (subst (Contains found) (sym e) d)
          ];
        }))))
      ]
    ],
  )

  pub pays_more : (cost free start middle end : ℕ) → IsPaid (IsGrown Fits set (take (place + 1) others)) cost free start middle → IsPaid (IsReached Fits (get_or others place 0 ∷ set) (take place others)) cost 0 middle end → IsPaid (IsGrown Fits set (take place others)) cost free start end
  pays_more cost free start middle end one two = paid_then (IsGrown Fits set (take (place + 1) others)) (IsReached Fits (item ∷ set) before) (IsGrown Fits set before) cost free 0 free start middle end
      (λ found g. record {
        reached = record { fits = g.reached.fits; has = g.reached.has; free = free_before found g.reached.free };
        more = g.more;
        there = g.there;
        new = g.new;
      })
      (λ found r. record {
        reached = record { fits = r.fits; has = among set found (λ x k. in_whole (item ∷ set) found x r.has (in_rest item set x k)); free = r.free };
        more = item;
        there = in_whole (item ∷ set) found item r.has (in_front item set);
        new = item_is_new;
      })
      (λ found g r. g.reached.free item (subst (λ (xs : List ℕ). Contains xs item) (sym next_front) (Contains-push before item)) (in_whole (item ∷ set) found item r.has (in_front item set)))
      (omega arith) one two

  -- ---- the search with one branch more
  module _ (later : ℕ) (next : later ≡ place + 1) where
    pub gains_step : (grown numbers : List ℕ) (first : ℕ) → IsBranch Fits set (take place others) (get_or others place 0) grown numbers first → (old middle new : List (List ℕ)) → Gains (IsClosedFrom Fits set (take later others)) old middle → Gains (IsClosedFrom Fits grown (take first numbers)) middle new → Gains (IsClosedFrom Fits set (take place others)) old new
    gains_step grown numbers first b old middle new one two = gains_more old middle new (subst (λ (n : ℕ). Gains (IsClosedFrom Fits set (take n others)) old middle) next one) (λ found. (
      λ c. elim ((two found).0 c) [ inl d ↦ inl d | inr f ↦ inr ((branch_closed grown numbers first b found).0 f) ],
      λ c. (two found).1 (elim c [ inl d ↦ inl d | inr f ↦ inr ((branch_closed grown numbers first b found).1 f) ]),
    ))

    pub pays_step : (grown numbers : List ℕ) (first : ℕ) → IsBranch Fits set (take place others) (get_or others place 0) grown numbers first → (size tests start middle third end : ℕ) → tests ≤ size → IsPaid (IsGrown Fits set (take later others)) size 0 start middle → Rises tests middle third → IsPaid (IsGrown Fits grown (take first numbers)) size 0 third end → IsPaid (IsGrown Fits set (take place others)) size 0 start end
    pays_step grown numbers first b size tests start middle third end e one r two = pays_more size 0 start middle end (subst (λ (n : ℕ). IsPaid (IsGrown Fits set (take n others)) size 0 start middle) next one) (branch_paid grown numbers first b size tests middle third end e r two)

    -- where the branch was not finished
    pub pays_tests : FitTogether Fits (get_or others place 0 ∷ set) → (size tests start middle end : ℕ) → tests ≤ size → IsPaid (IsGrown Fits set (take later others)) size 0 start middle → Rises tests middle end → IsPaid (IsGrown Fits set (take place others)) size 0 start end
    pays_tests fit size tests start middle end e one r =
        let own = set_of_them Fits law (item ∷ set) fit in
        pays_more size 0 start middle end (subst (λ (n : ℕ). IsPaid (IsGrown Fits set (take n others)) size 0 start middle) next one)
        (paid_once (IsReached Fits (item ∷ set) before) own.0 size tests middle end e (record {
          fits = own.1;
          has = among (item ∷ set) own.0 (λ x c. (own.2 x).1 c);
          free = λ x c d. none_before x c ((own.2 x).0 d);
        }) r)

-- at fewer excluded numbers
pub grown_before : (Fits : List ℕ → Type 0) (set others : List ℕ) (first place : ℕ) → first ≤ place → (found : List ℕ) → IsGrown Fits set (take place others) found → IsGrown Fits set (take first others) found
grown_before Fits set others first place h found g = record {
  reached = record { fits = g.reached.fits; has = g.reached.has; free = λ x c d. g.reached.free x (in_longer first place others x h c) d };
  more = g.more;
  there = g.there;
  new = g.new;
}

-- what a call tells of slices, told of the node's lists
pub branch_there : (Fits : List ℕ → Type 0) (set other numbers slice : List ℕ) (place : ℕ) (grown more : List ℕ) (begin : ℕ) → other ≡ set → slice ≡ numbers → IsBranch Fits other (take place slice) (get_or slice place 0) grown more begin → IsBranch Fits set (take place numbers) (get_or numbers place 0) grown more begin
branch_there Fits set other numbers slice place grown more begin e f b =
    subst (λ (ns : List ℕ). IsBranch Fits set (take place ns) (get_or ns place 0) grown more begin) f (subst (λ (s : List ℕ). IsBranch Fits s (take place slice) (get_or slice place 0) grown more begin) e b)

-- ---- the loop over the branches, the last one first
module _ (Fits : List ℕ → Type 0) (law : IsHereditary Fits) (set others : List ℕ) (first : ℕ) (numbers : List ℕ) (end : ℕ) (n : IsNarrowed Fits set others first numbers end) where
  pub paid_there : (size start stop place : ℕ) → first ≤ place → IsPaid (IsGrown Fits set (take place numbers)) size 0 start stop → IsPaid (IsGrown Fits set (take first others)) size 0 start stop
  paid_there size start stop place h p = paid_as (IsGrown Fits set (take place numbers)) (IsGrown Fits set (take first others)) size 0 0 start stop
      (λ found g. subst (λ (xs : List ℕ). IsGrown Fits set xs found) n.same (grown_before Fits set numbers first place h found g)) (omega arith) p

  module _ (place : ℕ) (low : first < place) (high : place ≤ end) where
    within : place - 1 < length numbers
    within = (let bound : end ≤ length numbers = n.node.within in omega arith)

    next : place ≡ (place - 1) + 1
    next = omega arith

    few : (size : ℕ) → length others ≤ size → length numbers ≤ size
    few size h = (let less : length numbers ≤ length others = n.few in omega arith)

    pub tests_there : (size : ℕ) → length others ≤ size → (start middle stop : ℕ) → IsPaid (IsGrown Fits set (take place numbers)) size 0 start middle → Rises (length numbers) middle stop → IsPaid (IsGrown Fits set (take first others)) size 0 start stop
    tests_there size h start middle stop p r = paid_there size start stop (place - 1) (omega arith) (pays_tests Fits law set numbers (others_beside Fits set numbers n.node.listed) (place - 1) within place next ((n.node.listed.exactly (get_or numbers (place - 1) 0)).0 (Contains-get_or numbers (place - 1) 0 within)).1 size (length numbers) start middle stop (few size h) p r)

    module _ (grown more : List ℕ) (begin : ℕ) (b : IsBranch Fits set (take (place - 1) numbers) (get_or numbers (place - 1) 0) grown more begin) (smaller : length more < length numbers) where
      pub pays_there : (start middle third stop : ℕ) → ((size : ℕ) → length others ≤ size → IsPaid (IsGrown Fits set (take place numbers)) size 0 start middle) → Rises (length numbers) middle third → ((size : ℕ) → length more ≤ size → IsPaid (IsGrown Fits grown (take begin more)) size 0 third stop) → (size : ℕ) → length others ≤ size → IsPaid (IsGrown Fits set (take (place - 1) numbers)) size 0 start stop
      pays_there start middle third stop one r two size h =
          let less : length numbers ≤ size = few size h in
          pays_step Fits law set numbers (others_beside Fits set numbers n.node.listed) (place - 1) within place next grown more begin b size (length numbers) start middle third stop less (one size h) r (two size (omega arith))

      pub gains_there : (old middle new : List (List ℕ)) → Gains (IsClosedFrom Fits set (take place numbers)) old middle → Gains (IsClosedFrom Fits grown (take begin more)) middle new → Gains (IsClosedFrom Fits set (take (place - 1) numbers)) old new
      gains_there old middle new one two = gains_step Fits law set numbers (others_beside Fits set numbers n.node.listed) (place - 1) within place next grown more begin b old middle new one two
