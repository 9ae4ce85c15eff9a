-- Where the search around an item begins.
use Rattle.std.proofs.Common.{◌≡◌, ℕ, ◌+◌, ◌-◌, ◌<◌, ◌≤◌, Bool, false, List, [], ◌∷◌, ◌⊎◌, inl, inr, length, take, drop, get_or, refl, sym, ◌∙◌, ap, subst, ◌↔◌, length-append, arith}
use Rattle.std.specs.List.{Contains, filter}
use Rattle.std.proofs.lemmas.Bool.{false≢true}
use Rattle.std.proofs.lemmas.List.{length-drop, length-take-le, take-append-drop}
use Rattle.std.proofs.lemmas.List.Elements.{All-contains, Contains-append_cases, Contains-append_right, Contains-get_or}
use Rattle.sky_units.specs.Tracks.{AreAmong}
use Rattle.closed_sets.specs.Families.{IsClosed, IsHereditary}
use Rattle.closed_sets.specs.Around.{AreFittingPairs, FitTogether, HasBothOfEach, IsFittingWith, IsFree}
use Rattle.closed_sets.specs.Counting.{AreDifferent, IsPaid, Rises}
use Rattle.closed_sets.specs.Search.{AreBeside, AreFitting, ArePartners, Gains, IsBranch, IsClosedFrom, IsGrown, IsLargest, IsNarrowed, IsNode, IsPaired, IsRoot, IsSettled, IsStart, LiesInThree, is_one}
use Rattle.closed_sets.proofs.Branches.{branch, gains_more}
use Rattle.closed_sets.proofs.Fitting.{beside, fewer, fits_beside, others_beside, set_of_them}
use Rattle.closed_sets.proofs.InThree.{beside_there, closed_here, closed_there, itself, largest_there, three_law, together_here, together_there}
use Rattle.closed_sets.proofs.Lists.{among, among_cons, among_none, common_or_none, different_apart, different_filter, different_set, empty, few_filter, from_filter, front_or_rest, in_filter, in_front, in_longer, in_none, in_rest, in_taken, in_whole, no_longer, one_is_set, one_of, only_one, outside_or_in}
use Rattle.closed_sets.proofs.Nodes.{largest_free, one_left, settled_gains, settled_narrowed}
use Rattle.closed_sets.proofs.Rooted.{before_it, behind_it, gains_below, has_item, has_partner, node_below, paid_below, paid_more, partner_new, set_is}
use Rattle.closed_sets.proofs.Pairs.{are_paired, paired_differ, paired_fit, paired_other, paired_second, third, three}
use Rattle.closed_sets.proofs.Paying.{paid_as, paid_once, unpaid}

-- the members before a place and behind it are less than all
pub few_around : (xs : List ℕ) (place : ℕ) → place < length xs → length (take place xs) + length (drop (place + 1) xs) < length xs
few_around xs place h =
    let taken : length (take place xs) ≡ place = length-take-le place xs (omega arith) in
    let left : length (drop (place + 1) xs) ≡ length xs - (place + 1) = length-drop (place + 1) xs in
    omega arith

-- where nothing is found, and nothing is there
pub none_there : (Kind : List ℕ → Type 0) (found : List (List ℕ)) → found ≡ [] → ((set : List ℕ) → ¬ Kind set) → (set : List ℕ) → Contains found set ↔ Kind set
none_there Kind found e none set = (
  λ c. absurd (in_none set (subst (λ (sets : List (List ℕ)). Contains sets set) e c)),
  λ k. absurd (none set k),
)

-- what a look-up tells
pub not_done : (done : List ℕ) (item : ℕ) (is_done : Bool) → is_done ≡ is_one done item → is_done ≡ false → ¬ Contains done item
not_done done item is_done e f d = false≢true (sym f ∙ (e ∙ (one_of done item).1 d))

-- where what is gained is told in other words
pub all_there : (Kind Other : List ℕ → Type 0) (found : List (List ℕ)) → ((set : List ℕ) → Kind set ↔ Other set) → Gains Kind [] found → (set : List ℕ) → Contains found set ↔ Other set
all_there Kind Other found same g set = (
  λ c. elim ((g set).0 c) [ inl d ↦ absurd (in_none set d) | inr k ↦ (same set).0 k ],
  λ k. (g set).1 (inr ((same set).1 k)),
)

module _ (Fits : List ℕ → Type 0) (law : IsHereditary Fits) (item : ℕ) (pairs : List (ℕ × ℕ)) (exactly : AreFittingPairs Fits item pairs) where
  -- the set of the item and two numbers that are paired
  trio : (x y : ℕ) → IsPaired pairs x y → (set : List ℕ) × Fits set × ((z : ℕ) → Contains set z ↔ Contains (item ∷ x ∷ y ∷ []) z)
  trio x y p = set_of_them Fits law (item ∷ x ∷ y ∷ []) (paired_fit Fits law item pairs exactly x y p)

  in_first : (x y : ℕ) → Contains (item ∷ x ∷ y ∷ []) item
  in_first x y = in_front item (x ∷ y ∷ [])

  in_second : (x y : ℕ) → Contains (item ∷ x ∷ y ∷ []) x
  in_second x y = in_rest item (x ∷ y ∷ []) x (in_front x (y ∷ []))

  in_third : (x y : ℕ) → Contains (item ∷ x ∷ y ∷ []) y
  in_third x y = in_rest item (x ∷ y ∷ []) y (in_rest x (y ∷ []) y (in_front y []))

  three_with : (x y : ℕ) (set : List ℕ) → IsPaired pairs x y → Contains set item → Contains set x → Contains set y → 3 ≤ length set
  three_with x y set p i c d = three item x y set (λ e. paired_other Fits law item pairs exactly x y p (sym e)) (λ e. paired_second Fits law item pairs exactly x y p (sym e)) (paired_differ Fits law item pairs exactly x y p) i c d

  -- paired numbers lie in three together with the item
  paired_there : (x y : ℕ) → IsPaired pairs x y → FitTogether (LiesInThree Fits) (item ∷ x ∷ y ∷ [])
  paired_there x y p = together_there Fits law (item ∷ x ∷ y ∷ []) item x y (λ e. paired_other Fits law item pairs exactly x y p (sym e)) (λ e. paired_second Fits law item pairs exactly x y p (sym e)) (paired_differ Fits law item pairs exactly x y p) (in_first x y) (in_second x y) (in_third x y) (paired_fit Fits law item pairs exactly x y p)

  -- a number of a fitting set of three or more around the item is paired with another one of it
  partner_in : (set : List ℕ) (x : ℕ) → Fits set → Contains set item → 3 ≤ length set → Contains set x → (¬ (x ≡ item)) → (y : ℕ) × Contains set y × IsPaired pairs x y
  partner_in set x f i large c new =
      let w = third set item x (different_set set (law.sets set f)) large in
      (w.0, w.1, are_paired Fits law item pairs exactly set x w.0 f i c w.1 new (λ e. w.2 (sym e)) w.3)

  -- ---- from where the search starts
  module _ (others : List ℕ) (first : ℕ) (start : IsStart Fits item pairs (item ∷ []) others first) where
    abbrev candidates : List ℕ
    candidates = drop first others

    abbrev excluded : List ℕ
    excluded = take first others

    in_candidates : (x : ℕ) → Contains candidates x → Contains others x
    in_candidates x c = subst (λ (xs : List ℕ). Contains xs x) (take-append-drop first others) (Contains-append_right excluded candidates x c)

    apart : (x : ℕ) → Contains excluded x → ¬ Contains candidates x
    apart x c = different_apart excluded candidates (subst AreDifferent (sym (take-append-drop first others)) start.node.listed.different) x c

    fits_with : (x : ℕ) → Contains others x → FitTogether Fits (x ∷ item ∷ [])
    fits_with x c = together_here Fits law (x ∷ item ∷ []) ((start.node.listed.exactly x).0 c).1

    not_item : (x : ℕ) → Contains others x → ¬ (x ≡ item)
    not_item x c e = ((start.node.listed.exactly x).0 c).0 (subst (Contains (item ∷ [])) (sym e) (in_front item []))

    -- a failed start is paid by a candidate and its partner
    pub start_paid : (most begin stop : ℕ) → length others ≤ most → Rises (length others) begin stop → IsPaid (IsFittingWith Fits item excluded) most 0 begin stop
    start_paid most begin stop h r =
        let x = one_left first others start.some in
        let w = start.paired x.0 x.1 in
        let own = trio x.0 w.0 w.2 in
        paid_once (IsFittingWith Fits item excluded) own.0 most (length others) begin stop h (record {
          fits = own.1;
          has = (own.2 item).1 (in_first x.0 w.0);
          large = three_with x.0 w.0 own.0 w.2 ((own.2 item).1 (in_first x.0 w.0)) ((own.2 x.0).1 (in_second x.0 w.0)) ((own.2 w.0).1 (in_third x.0 w.0));
          free = λ z c d. elim (front_or_rest item (x.0 ∷ w.0 ∷ []) z ((own.2 z).0 d)) [
            | inl e ↦ not_item z (in_taken first others z c) (sym e)
            | inr k ↦ elim (front_or_rest x.0 (w.0 ∷ []) z k) [
              | inl e ↦ apart x.0 (subst (Contains excluded) (sym e) c) x.1
              | inr m ↦ apart w.0 (subst (Contains excluded) (sym (only_one w.0 z m)) c) w.1
            ]
          ];
        }) r

    -- a largest set has three or more
    largest_large : (largest : List ℕ) → IsLargest Fits (item ∷ []) candidates largest → 3 ≤ length largest
    largest_large largest l = elim (common_or_none candidates largest) [
      | inr none ↦ (
          let c = one_left first others start.some in
          let inside : AreAmong largest (item ∷ []) = among largest (item ∷ []) (λ x k. elim (l.only x k) [ inl d ↦ d | inr d ↦ absurd (none x d k) ]) in
          absurd (none c.0 c.1 (l.full c.0 c.1 (beside Fits c.0 (item ∷ []) largest (fits_with c.0 (in_candidates c.0 c.1)) inside))))
      | inl c ↦ (
          let w = start.paired c.0 c.1 in
          let has_item : Contains largest item = in_whole (item ∷ []) largest item l.has (in_front item []) in
          elim (outside_or_in largest (item ∷ c.0 ∷ [])) [
            | inl z ↦ three z.0 item c.0 largest (λ e. z.2 (subst (Contains (item ∷ c.0 ∷ [])) (sym e) (in_front item (c.0 ∷ [])))) (λ e. z.2 (subst (Contains (item ∷ c.0 ∷ [])) (sym e) (in_rest item (c.0 ∷ []) c.0 (in_front c.0 []))))
                (λ e. not_item c.0 (in_candidates c.0 c.1) (sym e)) z.1 has_item c.2
            | inr h ↦ (
                let few : AreAmong (w.0 ∷ largest) (item ∷ c.0 ∷ w.0 ∷ []) = among_cons w.0 largest (item ∷ c.0 ∷ w.0 ∷ []) (in_third c.0 w.0) (among largest (item ∷ c.0 ∷ w.0 ∷ []) (λ x k. elim (front_or_rest item (c.0 ∷ []) x (h x k)) [
                  | inl e ↦ subst (Contains (item ∷ c.0 ∷ w.0 ∷ [])) e (in_first c.0 w.0)
                  | inr m ↦ subst (Contains (item ∷ c.0 ∷ w.0 ∷ [])) (only_one c.0 x m) (in_second c.0 w.0)
                ])) in
                three_with c.0 w.0 largest w.2 has_item c.2 (l.full w.0 w.1 (fewer Fits (item ∷ c.0 ∷ w.0 ∷ []) (w.0 ∷ largest) (paired_fit Fits law item pairs exactly c.0 w.0 w.2) few)))
          ])
    ]

    module _ (numbers : List ℕ) (end : ℕ) (old new : List (List ℕ)) (s : IsSettled Fits (item ∷ []) others first numbers end old new) where
      large : 3 ≤ length s.largest
      large = largest_large s.largest s.is_largest

      there : IsLargest (LiesInThree Fits) (item ∷ []) candidates s.largest
      there = largest_there Fits law (item ∷ []) candidates s.largest large s.is_largest

      -- the same of the sets that lie in three
      settled_there : IsSettled (LiesInThree Fits) (item ∷ []) others first numbers end old new
      settled_there = record {
        largest = s.largest;
        is_largest = there;
        parted = s.parted;
        closed = s.closed;
        alone = (
          λ t x c k. s.alone.0 t x c (together_here Fits law (x ∷ s.largest) k),
          λ h. s.alone.1 (λ x c k. h x c (beside_there Fits law x s.largest s.is_largest.fits large k)),
        );
        added = s.added;
      }

      pub start_narrowed : IsNarrowed (LiesInThree Fits) (item ∷ []) others first numbers end
      start_narrowed = settled_narrowed (LiesInThree Fits) (three_law Fits law) (item ∷ []) others first start.node numbers end old new settled_there

      pub start_gains : Gains (IsClosedFrom (LiesInThree Fits) (item ∷ []) (take end numbers)) old new
      start_gains = settled_gains (LiesInThree Fits) (three_law Fits law) (item ∷ []) others first start.node numbers end old new settled_there

      pub settled_paid : (most begin stop : ℕ) → length others ≤ most → Rises (length others) begin stop → IsPaid (IsFittingWith Fits item (take end numbers)) most 0 begin stop
      settled_paid most begin stop h r = paid_once (IsFittingWith Fits item (take end numbers)) s.largest most (length others) begin stop h (record {
        fits = s.is_largest.fits;
        has = in_whole (item ∷ []) s.largest item s.is_largest.has (in_front item []);
        free = largest_free (LiesInThree Fits) (three_law Fits law) (item ∷ []) others first (others_beside (LiesInThree Fits) (item ∷ []) others start.node.listed) start.node.within numbers s.largest end s.parted there;
        large = large;
      }) r

      -- ---- one partner after the other, the last one first
      few_numbers : length numbers ≤ length others
      few_numbers = start_narrowed.few

      module _ (place : ℕ) (low : first < place) (high : place ≤ end) where
        within : place - 1 < length numbers
        within = (let bound : end ≤ length numbers = start_narrowed.node.within in omega arith)

        next : place ≡ (place - 1) + 1
        next = omega arith

        known : AreBeside (LiesInThree Fits) (item ∷ []) numbers
        known = others_beside (LiesInThree Fits) (item ∷ []) numbers start_narrowed.node.listed

        abbrev partner : ℕ
        partner = get_or numbers (place - 1) 0

        module _ (set more : List ℕ) (begin : ℕ) (r : IsRoot item pairs numbers (place - 1) set more begin) where
          item_there : Contains set item
          item_there = has_item Fits law item numbers known (place - 1) within set r.union

          partner_there : Contains set (get_or numbers (place - 1) 0)
          partner_there = has_partner Fits law item numbers known (place - 1) within set r.union

          -- what is paired with the partner fits together with both
          paired_beside : (x : ℕ) → Contains numbers x → (¬ (get_or numbers (place - 1) 0 ≡ x)) → IsPaired pairs (get_or numbers (place - 1) 0) x ↔ FitTogether (LiesInThree Fits) (x ∷ set)
          paired_beside x c differ = (
            λ p. fewer (LiesInThree Fits) (item ∷ partner ∷ x ∷ []) (x ∷ set) (paired_there partner x p) (among_cons x set (item ∷ partner ∷ x ∷ []) (in_third partner x) (among set (item ∷ partner ∷ x ∷ []) (λ y d. elim (set_is Fits law item numbers known (place - 1) within set r.union y d) [
              | inl e ↦ subst (Contains (item ∷ partner ∷ x ∷ [])) e (in_first partner x)
              | inr e ↦ subst (Contains (item ∷ partner ∷ x ∷ [])) e (in_second partner x)
            ]))),
            λ t. are_paired Fits law item pairs exactly t.whole partner x t.fits.fits (in_whole (x ∷ set) t.whole item t.has (in_rest x set item item_there)) (in_whole (x ∷ set) t.whole partner t.has (in_rest x set partner partner_there)) (in_whole (x ∷ set) t.whole x t.has (in_front x set)) (λ e. partner_new Fits law item numbers known (place - 1) within (sym e)) (λ e. known.new x c (subst (Contains (item ∷ [])) (sym e) (in_front item []))) differ,
          )

          kept : (some : List ℕ) → ((x : ℕ) → Contains some x → Contains numbers x × (¬ (get_or numbers (place - 1) 0 ≡ x))) → AreFitting (LiesInThree Fits) set some (filter (is_one r.partners) some)
          kept some h = record {
            different = λ d. different_filter (is_one r.partners) some d;
            exactly = λ x. (
              λ c. (
                  let w = from_filter (is_one r.partners) some x c in
                  let k = h x w.0 in
                  (w.0, (paired_beside x k.0 k.1).0 ((r.exactly x).0 ((one_of r.partners x).0 w.1)))),
              λ w. (
                  let k = h x w.0 in
                  in_filter (is_one r.partners) some x w.0 ((one_of r.partners x).1 ((r.exactly x).1 ((paired_beside x k.0 k.1).1 w.1)))),
            );
            few = few_filter (is_one r.partners) some;
          }

          kept_before : AreFitting (LiesInThree Fits) set (take (place - 1) numbers) (filter (is_one r.partners) (take (place - 1) numbers))
          kept_before = kept (take (place - 1) numbers) (before_it Fits law item numbers known (place - 1) within)

          kept_after : AreFitting (LiesInThree Fits) set (drop ((place - 1) + 1) numbers) (filter (is_one r.partners) (drop ((place - 1) + 1) numbers))
          kept_after = kept (drop ((place - 1) + 1) numbers) (behind_it Fits law item numbers known (place - 1) within)

          root_branch : IsBranch (LiesInThree Fits) (item ∷ []) (take (place - 1) numbers) (get_or numbers (place - 1) 0) set more begin
          root_branch = subst (IsBranch (LiesInThree Fits) (item ∷ []) (take (place - 1) numbers) partner set more) (sym r.at)
              (branch (LiesInThree Fits) (three_law Fits law) (item ∷ []) numbers known (place - 1) within set (filter (is_one r.partners) (take (place - 1) numbers)) (filter (is_one r.partners) (drop ((place - 1) + 1) numbers)) more
              ((start_narrowed.node.listed.exactly partner).0 (Contains-get_or numbers (place - 1) 0 within)).1 r.union kept_before kept_after r.is)

          pub root_node : IsNode Fits set more begin
          root_node = node_below Fits law item numbers known (place - 1) within set r.union more begin root_branch

          few_more : length more ≤ length others
          few_more =
              let front : length (filter (is_one r.partners) (take (place - 1) numbers)) ≤ length (take (place - 1) numbers) = kept_before.few in
              let rest : length (filter (is_one r.partners) (drop ((place - 1) + 1) numbers)) ≤ length (drop ((place - 1) + 1) numbers) = kept_after.few in
              let all : length more ≡ length (filter (is_one r.partners) (take (place - 1) numbers)) + length (filter (is_one r.partners) (drop ((place - 1) + 1) numbers)) = ap length r.is ∙ length-append (filter (is_one r.partners) (take (place - 1) numbers)) (filter (is_one r.partners) (drop ((place - 1) + 1) numbers)) in
              let few = few_numbers in
              let parts = few_around numbers (place - 1) within in
              omega arith

          pub root_gains : (before middle after : List (List ℕ)) → Gains (IsClosedFrom (LiesInThree Fits) (item ∷ []) (take place numbers)) before middle → Gains (IsClosedFrom Fits set (take begin more)) middle after → Gains (IsClosedFrom (LiesInThree Fits) (item ∷ []) (take (place - 1) numbers)) before after
          root_gains before middle after one two = gains_more (LiesInThree Fits) (three_law Fits law) (item ∷ []) numbers known (place - 1) within before middle after
              (subst (λ (n : ℕ). Gains (IsClosedFrom (LiesInThree Fits) (item ∷ []) (take n numbers)) before middle) next one)
              (gains_below Fits law item numbers known (place - 1) within set r.union more begin root_branch middle after two)

          pub root_paid : (most begins middle stop : ℕ) → length others ≤ most → IsPaid (IsFittingWith Fits item (take place numbers)) most 0 begins middle → ((size : ℕ) → length more ≤ size → IsPaid (IsGrown Fits set (take begin more)) size 0 middle stop) → IsPaid (IsFittingWith Fits item (take (place - 1) numbers)) most 0 begins stop
          root_paid most begins middle stop h one two =
              let few = few_more in
              paid_more Fits law item numbers known (place - 1) within most 0 0 0 begins middle stop (omega arith)
              (subst (λ (n : ℕ). IsPaid (IsFittingWith Fits item (take n numbers)) most 0 begins middle) next one)
              (paid_below Fits law item numbers known (place - 1) within set r.union more begin root_branch most 0 middle stop (two most (omega arith)))

      -- at the end
      pub paid_at : (most begins stop place : ℕ) → first ≤ place → IsPaid (IsFittingWith Fits item (take place numbers)) most 0 begins stop → IsPaid (IsFittingWith Fits item (take first others)) most 0 begins stop
      paid_at most begins stop place h p = paid_as (IsFittingWith Fits item (take place numbers)) (IsFittingWith Fits item (take first others)) most 0 0 begins stop
          (λ found w. record { fits = w.fits; has = w.has; large = w.large; free = λ x c d. w.free x (in_longer first place numbers x h (subst (λ (xs : List ℕ). Contains xs x) (sym start_narrowed.same) c)) d }) (omega arith) p

  -- ---- partners, and done numbers
  module _ (done others : List ℕ) (first : ℕ) (partners : ArePartners pairs done others first) (new : ¬ Contains done item) where
    front_in : (x : ℕ) → Contains (take first others) x → Contains others x
    front_in x c = in_taken first others x c

    rest_in : (x : ℕ) → Contains (drop first others) x → Contains others x
    rest_in x c = subst (λ (xs : List ℕ). Contains xs x) (take-append-drop first others) (Contains-append_right (take first others) (drop first others) x c)

    either : (x : ℕ) → Contains others x → Contains (take first others) x ⊎ Contains (drop first others) x
    either x c = Contains-append_cases (take first others) (drop first others) x (subst (λ (xs : List ℕ). Contains xs x) (sym (take-append-drop first others)) c)

    parts_apart : (x : ℕ) → Contains (take first others) x → ¬ Contains (drop first others) x
    parts_apart x c = different_apart (take first others) (drop first others) (subst AreDifferent (sym (take-append-drop first others)) partners.different) x c

    -- those of a fitting set of three or more without done numbers are candidates
    candidate_in : (set : List ℕ) → IsFittingWith Fits item done set → (x : ℕ) → Contains set x → (¬ (x ≡ item)) → Contains (drop first others) x
    candidate_in set w x c differ =
        let y = partner_in set x w.fits w.has w.large c differ in
        (partners.candidates x).1 (λ d. w.free x d c, (y.0, λ d. w.free y.0 d y.1, y.2))

    -- nothing is there without a candidate
    pub none_without : length others ≤ first → (set : List ℕ) → ¬ IsFittingWith Fits item done set
    none_without h set w =
        let x = third set item item (different_set set (law.sets set w.fits)) w.large in
        no_more first others h x.0 (candidate_in set w x.0 x.1 (λ e. x.2 (sym e)))
      where
        no_more : (n : ℕ) (xs : List ℕ) → length xs ≤ n → (x : ℕ) → ¬ Contains (drop n xs) x
        no_more n xs l x c = in_none x (subst (λ (ys : List ℕ). Contains ys x) (empty (drop n xs) (let size : length (drop n xs) ≡ length xs - n = length-drop n xs in omega arith)) c)

    pub starts : first < length others → IsStart Fits item pairs (item ∷ []) others first
    starts some =
        let c = one_left first others some in
        let k = (partners.candidates c.0).0 c.1 in
        let w = paired_there c.0 k.1.0 k.1.2 in
        record {
          alone = refl;
          node = record {
            fits = (three_law Fits law).parts w.whole (item ∷ []) w.fits (one_is_set item) (among_cons item [] w.whole (in_whole (item ∷ c.0 ∷ k.1.0 ∷ []) w.whole item w.has (in_first c.0 k.1.0)) (among_none w.whole));
            listed = record {
              different = partners.different;
              exactly = λ x. (
                λ d. (
                    let p = (partners.exactly x).0 d in (
                      λ m. paired_other Fits law item pairs exactly x p.0 p.1 (sym (only_one item x m)),
                      fewer (LiesInThree Fits) (item ∷ x ∷ p.0 ∷ []) (x ∷ item ∷ []) (paired_there x p.0 p.1) (among_cons x (item ∷ []) (item ∷ x ∷ p.0 ∷ []) (in_second x p.0) (among_cons item [] (item ∷ x ∷ p.0 ∷ []) (in_first x p.0) (among_none (item ∷ x ∷ p.0 ∷ [])))),
                    )),
                λ m. (
                    let f = m.1.fits in
                    let at : (z : ℕ) → Contains (x ∷ item ∷ []) z → Contains f.whole z = λ z d. in_whole m.1.whole f.whole z f.has (in_whole (x ∷ item ∷ []) m.1.whole z m.1.has d) in
                    let y = partner_in f.whole x f.whole_fits (at item (in_rest x (item ∷ []) item (in_front item []))) f.large (at x (in_front x (item ∷ []))) (λ e. m.0 (subst (Contains (item ∷ [])) (sym e) (in_front item []))) in
                    (partners.exactly x).1 (y.0, y.2)),
              );
            };
            within = partners.within;
          };
          some = some;
          paired = λ x d. (
              let m = (partners.candidates x).0 d in
              (m.1.0, (partners.candidates m.1.0).1 (m.1.1, (x, m.0, turned x m.1.0 m.1.2)), m.1.2));
        }
      where
        turned : (x y : ℕ) → IsPaired pairs x y → IsPaired pairs y x
        turned x y p = elim p [ inl c ↦ inr c | inr c ↦ inl c ]

    module _ (some : first < length others) where
      free_of_done : (found : List ℕ) → LiesInThree Fits found → Contains found item → IsFree (take first others) found → IsFree done found
      free_of_done found f i free x c d = elim (either x (((starts some).node.listed.exactly x).1 ((λ m. new (subst (Contains done) (sym (only_one item x m)) c)), fits_beside (LiesInThree Fits) x (item ∷ []) found f d (among_cons item [] found i (among_none found))))) [
        | inl k ↦ free x k d
        | inr k ↦ ((partners.candidates x).0 k).0 c
      ]

      free_of_front : (found : List ℕ) → IsFittingWith Fits item done found → IsFree (take first others) found
      free_of_front found w x c d = parts_apart x c (candidate_in found w x d (λ e. ((((starts some).node.listed.exactly x).0 (front_in x c)).0) (subst (Contains (item ∷ [])) (sym e) (in_front item []))))

      pub closed_from : (found : List ℕ) → IsClosedFrom (LiesInThree Fits) (item ∷ []) (take first others) found ↔ (IsClosed Fits found × Contains found item × IsFree done found × 3 ≤ length found)
      closed_from found = (
        λ f. (
            let here = closed_here Fits law found f.closed in
            let i : Contains found item = in_whole (item ∷ []) found item f.has (in_front item []) in
            (here.0, i, free_of_done found f.closed.fits i f.free, here.1)),
        λ w. record {
          closed = closed_there Fits law found w.0 w.3;
          has = among_cons item [] found w.1 (among_none found);
          free = free_of_front found (record { fits = w.0.fits; has = w.1; free = w.2; large = w.3 });
        },
      )

      pub paid_done : (most begins stop : ℕ) → IsPaid (IsFittingWith Fits item (take first others)) most 0 begins stop → IsPaid (IsFittingWith Fits item done) most 0 begins stop
      paid_done most begins stop p = paid_as (IsFittingWith Fits item (take first others)) (IsFittingWith Fits item done) most 0 0 begins stop
          (λ found w. record { fits = w.fits; has = w.has; free = free_of_done found (itself Fits law found w.fits w.large) w.has w.free; large = w.large }) (omega arith) p

    -- each of the others stands in a pair
    pub few_others : (known : List ℕ) → HasBothOfEach pairs known → length others ≤ length known
    few_others known h = no_longer others known partners.different (λ x c. (
        let p = (partners.exactly x).0 c in
        elim p.1 [
          | inl d ↦ (All-contains (λ (pair : ℕ × ℕ). Contains known pair.0 × Contains known pair.1) pairs (x, p.0) h d).0
          | inr d ↦ (All-contains (λ (pair : ℕ × ℕ). Contains known pair.0 × Contains known pair.1) pairs (p.0, x) h d).1
        ]))

  -- ---- without pairs no fitting set of three or more holds the item
  pub none_without_pairs : pairs ≡ [] → (done set : List ℕ) → ¬ IsFittingWith Fits item done set
  none_without_pairs e done set w =
      let x = third set item item (different_set set (law.sets set w.fits)) w.large in
      let p = partner_in set x.0 w.fits w.has w.large x.1 (λ f. x.2 (sym f)) in
      elim p.2 [
        | inl c ↦ in_none (x.0, p.0) (subst (λ (ps : List (ℕ × ℕ)). Contains ps (x.0, p.0)) e c)
        | inr c ↦ in_none (p.0, x.0) (subst (λ (ps : List (ℕ × ℕ)). Contains ps (p.0, x.0)) e c)
      ]

  pub no_tests : (done : List ℕ) (before after : ℕ) → ((known : List ℕ) → HasBothOfEach pairs known → IsPaid (IsFittingWith Fits item done) (length known) 0 before after) → pairs ≡ [] → after ≡ before
  no_tests done before after paid e = unpaid (IsFittingWith Fits item done) (length {A = ℕ} []) before after (paid [] (subst (λ (ps : List (ℕ × ℕ)). HasBothOfEach ps []) (sym e) (λ k d l. absurd (omega arith)))) (none_without_pairs e done)
