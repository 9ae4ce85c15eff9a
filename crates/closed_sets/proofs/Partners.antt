-- The search around an item among numbers of which some may not fit with it.
use Rattle.std.proofs.Common.{◌≡◌, ℕ, ◌+◌, ◌-◌, ◌*◌, ◌<◌, ◌≤◌, Bool, not, cond, List, [], ◌∷◌, ◌++◌, inl, inr, length, take, drop, get_or, sym, ◌∙◌, ap, subst, ◌↔◌, length-append, arith}
use Rattle.std.specs.List.{Contains, filter}
use Rattle.std.proofs.Math.Nat.{mul-le-mul_left}
use Rattle.std.proofs.lemmas.Bool.{cases_Bool, cases_lt}
use Rattle.std.proofs.lemmas.List.{take_more}
use Rattle.std.proofs.lemmas.List.Elements.{Contains-append_cases, Contains-push_cases}
use Rattle.sky_units.specs.Tracks.{AreAmong}
use Rattle.closed_sets.specs.Families.{IsClosed, IsHereditary, IsSet}
use Rattle.closed_sets.specs.Around.{FitTogether, HasPartners, IsFittingWith, IsFree}
use Rattle.closed_sets.specs.Counting.{AreDifferent, IsPaid}
use Rattle.closed_sets.specs.Search.{AreBeside, AreFitting, AreSplit, Gains, IsBranch, IsClosedFrom, IsSettledAround, IsUnion, LiesInThree, is_one}
use Rattle.closed_sets.proofs.Branches.{branch, gains_more}
use Rattle.closed_sets.proofs.Fitting.{fewer, fits_beside}
use Rattle.closed_sets.proofs.InThree.{beside_there, closed_here, closed_there, largest_there, three_law, together_here, together_there}
use Rattle.closed_sets.proofs.Lists.{among, among_cons, among_none, different_append, different_filter, different_set, from_filter, front_or_rest, in_dropped, in_filter, in_front, in_longer, in_none, in_or_not, in_rest, in_taken, in_whole, no_longer, not_one, one_of, only_one, taken_or_dropped}
use Rattle.closed_sets.proofs.Nodes.{inside, parted_beside, parted_same, parted_sizes, settled, take_front}
use Rattle.closed_sets.proofs.Pairs.{drop_front, third}
use Rattle.closed_sets.proofs.Paying.{paid_as}
use Rattle.closed_sets.proofs.Rooted.{before_it, behind_it, has_item, has_partner, not_in_set, paid_more, partner_new}

-- ---- done numbers and others
module _ (item : ℕ) (done partners all left candidates front numbers : List ℕ) (all_set : IsSet all) (all_are : (x : ℕ) → Contains all x ↔ Contains partners x) (left_is : left ≡ filter (λ number. not (is_one done number)) all) (candidates_are : candidates ≡ filter (λ number. not (is_one (item ∷ []) number)) left) (front_is : front ≡ filter (is_one done) all) (is : numbers ≡ front ++ candidates) where
  in_front_of : (x : ℕ) → Contains front x ↔ (Contains partners x × Contains done x)
  in_front_of x = (
    λ c. (let w = from_filter (is_one done) all x (subst (λ (xs : List ℕ). Contains xs x) front_is c) in ((all_are x).0 w.0, (one_of done x).0 w.1)),
    λ w. subst (λ (xs : List ℕ). Contains xs x) (sym front_is) (in_filter (is_one done) all x ((all_are x).1 w.0) ((one_of done x).1 w.1)),
  )

  in_left : (x : ℕ) → Contains left x ↔ (Contains partners x × (¬ Contains done x))
  in_left x = (
    λ c. (let w = from_filter (λ number. not (is_one done number)) all x (subst (λ (xs : List ℕ). Contains xs x) left_is c) in ((all_are x).0 w.0, (not_one done x).0 w.1)),
    λ w. subst (λ (xs : List ℕ). Contains xs x) (sym left_is) (in_filter (λ number. not (is_one done number)) all x ((all_are x).1 w.0) ((not_one done x).1 w.1)),
  )

  in_candidates : (x : ℕ) → Contains candidates x ↔ (Contains partners x × (¬ (x ≡ item)) × (¬ Contains done x))
  in_candidates x = (
    λ c. (
        let w = from_filter (λ number. not (is_one (item ∷ []) number)) left x (subst (λ (xs : List ℕ). Contains xs x) candidates_are c) in
        let k = (in_left x).0 w.0 in
        (k.0, (λ e. (not_one (item ∷ []) x).0 w.1 (subst (Contains (item ∷ [])) (sym e) (in_front item []))), k.1)),
    λ w. subst (λ (xs : List ℕ). Contains xs x) (sym candidates_are) (in_filter (λ number. not (is_one (item ∷ []) number)) left x ((in_left x).1 (w.0, w.2)) ((not_one (item ∷ []) x).1 (λ d. w.1 (sym (only_one item x d))))),
  )

  are_different : AreDifferent (front ++ candidates)
  are_different = different_append front candidates (subst AreDifferent (sym front_is) (different_filter (is_one done) all (different_set all all_set)))
      (subst AreDifferent (sym candidates_are) (different_filter (λ number. not (is_one (item ∷ []) number)) left (subst AreDifferent (sym left_is) (different_filter (λ number. not (is_one done number)) all (different_set all all_set)))))
      (λ x c d. ((in_candidates x).0 d).2 ((in_front_of x).0 c).1)

  pub split_is : AreSplit item done partners numbers (length front)
  split_is = subst (λ (ns : List ℕ). AreSplit item done partners ns (length front)) (sym is) (record {
    different = are_different;
    within = (let size : length (front ++ candidates) ≡ length front + length candidates = length-append front candidates in omega arith);
    few = no_longer (front ++ candidates) partners are_different (λ x c. elim (Contains-append_cases front candidates x c) [
      | inl d ↦ ((in_front_of x).0 d).0
      | inr d ↦ ((in_candidates x).0 d).0
    ]);
    front = λ x. (
      λ c. (in_front_of x).0 (subst (λ (xs : List ℕ). Contains xs x) (take_front front candidates) c),
      λ w. subst (λ (xs : List ℕ). Contains xs x) (sym (take_front front candidates)) ((in_front_of x).1 w),
    );
    rest = λ x. (
      λ c. (in_candidates x).0 (subst (λ (xs : List ℕ). Contains xs x) (drop_front front candidates) c),
      λ w. subst (λ (xs : List ℕ). Contains xs x) (sym (drop_front front candidates)) ((in_candidates x).1 w),
    );
  })

module _ (Fits : List ℕ → Type 0) (law : IsHereditary Fits) (item : ℕ) where
  -- ---- partners that are split so
  module _ (done partners numbers : List ℕ) (first : ℕ) (has : HasPartners Fits item partners) (parts : AreSplit item done partners numbers first) (new : ¬ Contains done item) where
    is_partner : (set : List ℕ) → Fits set → Contains set item → 3 ≤ length set → (x : ℕ) → Contains set x → (¬ (item ≡ x)) → Contains partners x
    is_partner set f i large x c differ = elim (front_or_rest item partners x (in_whole set (item ∷ partners) x (has set f i large) c)) [
      | inl e ↦ absurd (differ e)
      | inr d ↦ d
    ]

    pub split_beside : AreBeside (LiesInThree Fits) (item ∷ []) numbers
    split_beside = record {
      different = parts.different;
      new = λ x c d. elim (taken_or_dropped first numbers x c) [
        | inl k ↦ new (subst (Contains done) (sym (only_one item x d)) ((parts.front x).0 k).1)
        | inr k ↦ ((parts.rest x).0 k).1 (sym (only_one item x d))
      ];
      complete = λ x other t.
          let at : (z : ℕ) → Contains (x ∷ item ∷ []) z → Contains t.fits.whole z = λ z d. in_whole t.whole t.fits.whole z t.fits.has (in_whole (x ∷ item ∷ []) t.whole z t.has d) in
          let differ : ¬ (item ≡ x) = λ e. other (subst (Contains (item ∷ [])) e (in_front item [])) in
          let here : Contains partners x = is_partner t.fits.whole t.fits.whole_fits (at item (in_rest x (item ∷ []) item (in_front item []))) t.fits.large x (at x (in_front x (item ∷ []))) differ in
          elim (in_or_not done x) [
            | inl d ↦ in_taken first numbers x ((parts.front x).1 (here, d))
            | inr n ↦ in_dropped first numbers x ((parts.rest x).1 (here, (λ e. differ (sym e)), n))
          ];
    }

    free_of_done : (found : List ℕ) → Fits found → Contains found item → 3 ≤ length found → IsFree (take first numbers) found → IsFree done found
    free_of_done found f i large free x c d = free x ((parts.front x).1 (is_partner found f i large x d (λ e. new (subst (Contains done) (sym e) c)), c)) d

    pub split_closed : (found : List ℕ) → IsClosedFrom (LiesInThree Fits) (item ∷ []) (take first numbers) found ↔ (IsClosed Fits found × Contains found item × IsFree done found × 3 ≤ length found)
    split_closed found = (
      λ f. (
          let here = closed_here Fits law found f.closed in
          let i : Contains found item = in_whole (item ∷ []) found item f.has (in_front item []) in
          (here.0, i, free_of_done found here.0.fits i here.1 f.free, here.1)),
      λ w. record {
        closed = closed_there Fits law found w.0 w.3;
        has = among_cons item [] found w.1 (among_none found);
        free = λ x c d. w.2 x ((parts.front x).0 c).1 d;
      },
    )

    pub split_paid : (cost free most begins stop : ℕ) → free ≤ most → IsPaid (IsFittingWith Fits item (take first numbers)) cost free begins stop → IsPaid (IsFittingWith Fits item done) cost most begins stop
    split_paid cost free most begins stop e p = paid_as (IsFittingWith Fits item (take first numbers)) (IsFittingWith Fits item done) cost free most begins stop
        (λ found w. record { fits = w.fits; has = w.has; free = free_of_done found w.fits w.has w.large w.free; large = w.large }) e p

  -- ---- where the numbers beside the item are settled
  module _ (others : List ℕ) (first : ℕ) (known : AreBeside (LiesInThree Fits) (item ∷ []) others) (within : first ≤ length others) (numbers : List ℕ) (end : ℕ) (old new : List (List ℕ)) (s : IsSettledAround Fits item others first numbers end old new) where
    pub around_beside : AreBeside (LiesInThree Fits) (item ∷ []) numbers
    around_beside = parted_beside (LiesInThree Fits) (three_law Fits law) (item ∷ []) others first known within numbers s.largest end s.parted

    pub around_sizes : (first ≤ end) × (end ≤ length numbers) × (length numbers ≤ length others)
    around_sizes = parted_sizes (LiesInThree Fits) (three_law Fits law) (item ∷ []) others first known within numbers s.largest end s.parted

    pub around_same : take first numbers ≡ take first others
    around_same = parted_same (LiesInThree Fits) (three_law Fits law) (item ∷ []) others first known within numbers s.largest end s.parted

    pub around_gains : Gains (IsClosedFrom (LiesInThree Fits) (item ∷ []) (take end numbers)) old new
    around_gains = elim (cases_lt (length s.largest) 3) [
      | inr large ↦ settled (LiesInThree Fits) (three_law Fits law) (item ∷ []) others first known within numbers s.largest end s.parted (largest_there Fits law (item ∷ []) (drop first others) s.largest large s.is_largest) s.closed old new (
        λ t x c k. (s.alone.0 t).1 x c (together_here Fits law (x ∷ s.largest) k),
        λ h. s.alone.1 (large, λ x c k. h x c (beside_there Fits law x s.largest s.is_largest.fits large k)),
      ) s.added
      | inl small ↦ elim (cases_Bool s.closed) [
        | inl t ↦ (let large : 3 ≤ length s.largest = (s.alone.0 t).0 in absurd (omega arith))
        | inr f ↦ nothing small (s.added ∙ ap (λ (b : Bool). cond b (old ++ s.largest ∷ []) old) f)
      ]
    ]
      where
        none_in : length s.largest < 3 → (found : List ℕ) → ¬ IsClosedFrom (LiesInThree Fits) (item ∷ []) (take end numbers) found
        none_in small found f =
            let large : 3 ≤ length found = (closed_here Fits law found f.closed).1 in
            let few : length found ≤ length s.largest = no_longer found s.largest (different_set found (law.sets found f.closed.fits.fits)) (inside (LiesInThree Fits) (three_law Fits law) (item ∷ []) others first known within numbers s.largest end s.parted s.is_largest.has found f.closed.fits f.has f.free) in
            omega arith

        nothing : length s.largest < 3 → new ≡ old → Gains (IsClosedFrom (LiesInThree Fits) (item ∷ []) (take end numbers)) old new
        nothing small e = λ found. (
          λ c. inl (subst (λ (sets : List (List ℕ)). Contains sets found) e c),
          λ c. elim c [
            | inl d ↦ subst (λ (sets : List (List ℕ)). Contains sets found) (sym e) d
            | inr f ↦ absurd (none_in small found f)
          ],
        )

    -- the whole is paid by L for each set, and by as many for each number beside the item
    pub paid_at : (most begins stop place : ℕ) → length others ≤ most → first ≤ place → place ≤ end → IsPaid (IsFittingWith Fits item (take place numbers)) most (most + 1 + (end - place) * most) begins stop → IsPaid (IsFittingWith Fits item (take first others)) most (most * most + most + 1) begins stop
    paid_at most begins stop place h low high p =
        let sizes = around_sizes in
        let bound : end ≤ length numbers = sizes.1 in
        let few : length numbers ≤ length others = sizes.2 in
        paid_as (IsFittingWith Fits item (take place numbers)) (IsFittingWith Fits item (take first others)) most (most + 1 + (end - place) * most) (most * most + most + 1) begins stop
        (λ found w. record { fits = w.fits; has = w.has; large = w.large; free = λ x c d. w.free x (in_longer first place numbers x low (subst (λ (xs : List ℕ). Contains xs x) (sym around_same) c)) d })
        (spent_all (end - place) most (omega arith)) p
      where
        spent_all : (n most : ℕ) → n ≤ most → most + 1 + n * most ≤ most * most + most + 1
        spent_all n most h =
            let product : most * n ≤ most * most = mul-le-mul_left most h in
            let other : n * most ≡ most * n = grind arith in
            omega arith

  -- ---- one of the numbers beside the item
  module _ (numbers : List ℕ) (known : AreBeside (LiesInThree Fits) (item ∷ []) numbers) (place : ℕ) (within : place < length numbers) (set : List ℕ) (u : IsUnion (item ∷ []) (get_or numbers place 0 ∷ []) set) where
    abbrev partner : ℕ
    partner = get_or numbers place 0

    item_there : Contains set item
    item_there = has_item Fits law item numbers known place within set u

    partner_there : Contains set (get_or numbers place 0)
    partner_there = has_partner Fits law item numbers known place within set u

    -- a third number makes three
    together_three : (x : ℕ) → (¬ Contains set x) → FitTogether Fits (x ∷ set) → FitTogether (LiesInThree Fits) (x ∷ set)
    together_three x new t = together_there Fits law (x ∷ set) x item partner (λ e. new (subst (Contains set) (sym e) item_there)) (λ e. new (subst (Contains set) (sym e) partner_there)) (partner_new Fits law item numbers known place within) (in_front x set) (in_rest x set item item_there) (in_rest x set partner partner_there) t

    fitting_there : (some kept : List ℕ) → ((x : ℕ) → Contains some x → Contains numbers x × (¬ (get_or numbers place 0 ≡ x))) → AreFitting Fits set some kept → AreFitting (LiesInThree Fits) set some kept
    fitting_there some kept h k = record {
      different = k.different;
      exactly = λ x. (
        λ c. (let w = (k.exactly x).0 c in let o = h x w.0 in (w.0, together_three x (not_in_set Fits law item numbers known place within set u x o.0 o.1) w.1)),
        λ w. (k.exactly x).1 (w.0, together_here Fits law (x ∷ set) w.1),
      );
      few = k.few;
    }

    module _ (candidates : List ℕ) (after : AreFitting Fits set (drop (place + 1) numbers) candidates) where
      -- where none behind fits with both, no set is found
      pub none_below : candidates ≡ [] → (found : List ℕ) → ¬ IsClosedFrom (LiesInThree Fits) (get_or numbers place 0 ∷ item ∷ []) (take place numbers) found
      none_below e found f =
          let here = closed_here Fits law found f.closed in
          let w = third found item partner (different_set found (law.sets found here.0.fits)) here.1 in
          let item_in : Contains found item = in_whole (partner ∷ item ∷ []) found item f.has (in_rest partner (item ∷ []) item (in_front item [])) in
          let there : Contains numbers w.0 = known.complete w.0 (λ d. w.2 (only_one item w.0 d)) (fits_beside (LiesInThree Fits) w.0 (item ∷ []) found f.closed.fits w.1 (among_cons item [] found item_in (among_none found))) in
          elim (taken_or_dropped (place + 1) numbers w.0 there) [
            | inl c ↦ before w.0 c w.1 w.3
            | inr c ↦ in_none w.0 (subst (λ (xs : List ℕ). Contains xs w.0) e ((after.exactly w.0).1 (c, fits_beside Fits w.0 set found here.0.fits w.1 (set_in item_in))))
          ]
        where
          set_in : Contains found item → AreAmong set found
          set_in i = among set found (λ x c. elim ((u.exactly x).0 c) [
            | inl d ↦ subst (Contains found) (only_one item x d) i
            | inr d ↦ subst (Contains found) (only_one partner x d) (in_whole (partner ∷ item ∷ []) found partner f.has (in_front partner (item ∷ [])))
          ])

          before : (x : ℕ) → Contains (take (place + 1) numbers) x → Contains found x → (¬ (get_or numbers place 0 ≡ x)) → ⊥
          before x c d differ = elim (Contains-push_cases (take place numbers) partner x (subst (λ (xs : List ℕ). Contains xs x) (take_more numbers place 0 within) c)) [
            | inl k ↦ f.free x k d
            | inr same ↦ differ same
          ]

      pub branch_at_it : (excluded more : List ℕ) (x : ℕ) → Contains candidates x → AreFitting Fits set (take place numbers) excluded → more ≡ excluded ++ candidates → IsBranch (LiesInThree Fits) (item ∷ []) (take place numbers) (get_or numbers place 0) set more (length excluded)
      branch_at_it excluded more x c first is =
          let all = fitting_there (drop (place + 1) numbers) candidates (behind_it Fits law item numbers known place within) after in
          branch (LiesInThree Fits) (three_law Fits law) (item ∷ []) numbers known place within set excluded candidates more
          (fewer (LiesInThree Fits) (x ∷ set) (partner ∷ item ∷ []) ((all.exactly x).0 c).1 (among_cons partner (item ∷ []) (x ∷ set) (in_rest x set partner partner_there) (among_cons item [] (x ∷ set) (in_rest x set item item_there) (among_none (x ∷ set)))))
          u (fitting_there (take place numbers) excluded (before_it Fits law item numbers known place within) first) all is

  -- ---- one number after the other, the last one first
  module _ (numbers : List ℕ) (known : AreBeside (LiesInThree Fits) (item ∷ []) numbers) (place : ℕ) (within : place < length numbers) (later : ℕ) (next : later ≡ place + 1) where
    pub gains_at : (old middle new : List (List ℕ)) → Gains (IsClosedFrom (LiesInThree Fits) (item ∷ []) (take later numbers)) old middle → Gains (IsClosedFrom (LiesInThree Fits) (get_or numbers place 0 ∷ item ∷ []) (take place numbers)) middle new → Gains (IsClosedFrom (LiesInThree Fits) (item ∷ []) (take place numbers)) old new
    gains_at old middle new one two = gains_more (LiesInThree Fits) (three_law Fits law) (item ∷ []) numbers known place within old middle new (subst (λ (n : ℕ). Gains (IsClosedFrom (LiesInThree Fits) (item ∷ []) (take n numbers)) old middle) next one) two

    pub paid_with : (most end begins middle stop : ℕ) → later ≤ end → IsPaid (IsFittingWith Fits item (take later numbers)) most (most + 1 + (end - later) * most) begins middle → IsPaid (λ (found : List ℕ). IsFittingWith Fits item (take place numbers) found × Contains found (get_or numbers place 0)) most most middle stop → IsPaid (IsFittingWith Fits item (take place numbers)) most (most + 1 + (end - place) * most) begins stop
    paid_with most end begins middle stop h one two = paid_more Fits law item numbers known place within most (most + 1 + (end - later) * most) most (most + 1 + (end - place) * most) begins middle stop
        (spent_more (end - later) (end - place) most (omega arith))
        (subst (λ (n : ℕ). IsPaid (IsFittingWith Fits item (take n numbers)) most (most + 1 + (end - later) * most) begins middle) next one) two
      where
        spent_more : (n m most : ℕ) → m ≡ n + 1 → most + 1 + n * most + most ≤ most + 1 + m * most
        spent_more n m most e =
            let product : (n + 1) * most ≡ n * most + most = grind arith in
            rw e (omega arith)

  -- nothing is found at one of the numbers
  pub gains_none : (Kind : List ℕ → Type 0) (sets : List (List ℕ)) → ((found : List ℕ) → ¬ Kind found) → Gains Kind sets sets
  gains_none Kind sets none = λ found. (λ c. inl c, λ c. elim c [ inl d ↦ d | inr k ↦ absurd (none found k) ])
