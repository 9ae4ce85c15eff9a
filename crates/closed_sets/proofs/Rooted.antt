-- The search below an item and one of the numbers beside it.
use Rattle.std.proofs.Common.{◌≡◌, ℕ, ◌+◌, ◌<◌, ◌≤◌, List, [], ◌∷◌, ◌++◌, ◌⊎◌, inl, inr, length, take, drop, get_or, sym, subst, arith}
use Rattle.std.specs.List.{Contains}
use Rattle.std.proofs.lemmas.List.{take_more}
use Rattle.std.proofs.lemmas.List.Elements.{Contains-append_right, Contains-get_or, Contains-push}
use Rattle.closed_sets.specs.Families.{IsHereditary}
use Rattle.closed_sets.specs.Around.{IsFittingWith}
use Rattle.closed_sets.specs.Counting.{AreDifferent, IsPaid}
use Rattle.closed_sets.specs.Search.{AreBeside, Gains, IsBranch, IsClosedFrom, IsGrown, IsNode, IsUnion, LiesInThree}
use Rattle.closed_sets.proofs.Branches.{branch_closed}
use Rattle.closed_sets.proofs.Fitting.{fits_beside}
use Rattle.closed_sets.proofs.InThree.{gains_there, itself, node_here, three_law}
use Rattle.closed_sets.proofs.Lists.{different_apart, different_right, in_front, in_longer, in_rest, in_taken, in_whole, only_one, split_at_place}
use Rattle.closed_sets.proofs.Pairs.{three}
use Rattle.closed_sets.proofs.Paying.{paid_as, paid_then}

module _ (Fits : List ℕ → Type 0) (law : IsHereditary Fits) (item : ℕ) (numbers : List ℕ) (known : AreBeside (LiesInThree Fits) (item ∷ []) numbers) (place : ℕ) (within : place < length numbers) where
  abbrev partner : ℕ
  partner = get_or numbers place 0

  partner_in_numbers : Contains numbers (get_or numbers place 0)
  partner_in_numbers = Contains-get_or numbers place 0 within

  pub not_item : (x : ℕ) → Contains numbers x → ¬ (item ≡ x)
  not_item x c e = known.new x c (subst (Contains (item ∷ [])) e (in_front item []))

  pub partner_new : ¬ (item ≡ get_or numbers place 0)
  partner_new = not_item partner partner_in_numbers

  split : AreDifferent (take place numbers ++ get_or numbers place 0 ∷ drop (place + 1) numbers)
  split = subst AreDifferent (split_at_place numbers place 0 within) known.different

  -- those before the partner and behind it are others
  pub before_it : (x : ℕ) → Contains (take place numbers) x → Contains numbers x × (¬ (get_or numbers place 0 ≡ x))
  before_it x c = (in_taken place numbers x c, λ e. different_apart (take place numbers) (partner ∷ drop (place + 1) numbers) split x c (subst (Contains (partner ∷ drop (place + 1) numbers)) e (in_front partner (drop (place + 1) numbers))))

  pub behind_it : (x : ℕ) → Contains (drop (place + 1) numbers) x → Contains numbers x × (¬ (get_or numbers place 0 ≡ x))
  behind_it x c = (
    subst (λ (xs : List ℕ). Contains xs x) (sym (split_at_place numbers place 0 within)) (Contains-append_right (take place numbers) (partner ∷ drop (place + 1) numbers) x (in_rest partner (drop (place + 1) numbers) x c)),
    λ e. (different_right (take place numbers) (partner ∷ drop (place + 1) numbers) split).0 (subst (Contains (drop (place + 1) numbers)) (sym e) c),
  )

  -- sets with the partner and without those before it are others than the later ones
  pub paid_more : (cost free more most start middle stop : ℕ) → free + more ≤ most → IsPaid (IsFittingWith Fits item (take (place + 1) numbers)) cost free start middle → IsPaid (λ found. IsFittingWith Fits item (take place numbers) found × Contains found (get_or numbers place 0)) cost more middle stop → IsPaid (IsFittingWith Fits item (take place numbers)) cost most start stop
  paid_more cost free more most start middle stop e one two = paid_then (IsFittingWith Fits item (take (place + 1) numbers)) (λ found. IsFittingWith Fits item (take place numbers) found × Contains found partner) (IsFittingWith Fits item (take place numbers)) cost free more most start middle stop
      (λ found w. record { fits = w.fits; has = w.has; large = w.large; free = λ x c d. w.free x (in_longer place (place + 1) numbers x (omega arith) c) d })
      (λ found w. w.0)
      (λ found w k. w.free partner (subst (λ (xs : List ℕ). Contains xs partner) (sym (take_more numbers place 0 within)) (Contains-push (take place numbers) partner)) k.1)
      e one two

  module _ (set : List ℕ) (u : IsUnion (item ∷ []) (get_or numbers place 0 ∷ []) set) where
    pub has_item : Contains set item
    has_item = (u.exactly item).1 (inl (in_front item []))

    pub has_partner : Contains set (get_or numbers place 0)
    has_partner = (u.exactly partner).1 (inr (in_front partner []))

    pub set_is : (x : ℕ) → Contains set x → (item ≡ x) ⊎ (get_or numbers place 0 ≡ x)
    set_is x c = elim ((u.exactly x).0 c) [ inl d ↦ inl (only_one item x d) | inr d ↦ inr (only_one partner x d) ]

    pub not_in_set : (x : ℕ) → Contains numbers x → (¬ (get_or numbers place 0 ≡ x)) → ¬ Contains set x
    not_in_set x c differ d = elim (set_is x d) [ inl e ↦ not_item x c e | inr e ↦ differ e ]

    module _ (more : List ℕ) (begin : ℕ) (b : IsBranch (LiesInThree Fits) (item ∷ []) (take place numbers) (get_or numbers place 0) set more begin) where
      pub node_below : IsNode Fits set more begin
      node_below = node_here Fits law set item partner partner_new has_item has_partner more begin b.node

      pub gains_below : (old new : List (List ℕ)) → Gains (IsClosedFrom Fits set (take begin more)) old new → Gains (IsClosedFrom (LiesInThree Fits) (get_or numbers place 0 ∷ item ∷ []) (take place numbers)) old new
      gains_below old new g =
          let two = gains_there Fits law set item partner partner_new has_item has_partner (take begin more) old new b.node.fits g in
          λ found. (
            λ c. elim ((two found).0 c) [ inl d ↦ inl d | inr f ↦ inr ((branch_closed (LiesInThree Fits) (three_law Fits law) (item ∷ []) numbers known place within set more begin b found).0 f) ],
            λ c. (two found).1 (elim c [ inl d ↦ inl d | inr f ↦ inr ((branch_closed (LiesInThree Fits) (three_law Fits law) (item ∷ []) numbers known place within set more begin b found).1 f) ]),
          )

      -- what the search below finds is paid by sets with the partner
      grown_there : (found : List ℕ) → IsGrown Fits set (take begin more) found → IsFittingWith Fits item (take place numbers) found × Contains found (get_or numbers place 0)
      grown_there found g =
          let item_in : Contains found item = in_whole set found item g.reached.has has_item in
          let partner_in : Contains found partner = in_whole set found partner g.reached.has has_partner in
          let large : 3 ≤ length found = three g.more item partner found (λ e. g.new (subst (Contains set) (sym e) has_item)) (λ e. g.new (subst (Contains set) (sym e) has_partner)) partner_new g.there item_in partner_in in (
            record {
              fits = g.reached.fits;
              has = item_in;
              free = λ x c d. g.reached.free x ((b.excluded x).1 (c, fits_beside (LiesInThree Fits) x set found (itself Fits law found g.reached.fits large) d g.reached.has)) d;
              large = large;
            },
            partner_in,
          )

      pub paid_below : (cost free start stop : ℕ) → IsPaid (IsGrown Fits set (take begin more)) cost 0 start stop → IsPaid (λ found. IsFittingWith Fits item (take place numbers) found × Contains found (get_or numbers place 0)) cost free start stop
      paid_below cost free start stop p = paid_as (IsGrown Fits set (take begin more)) (λ found. IsFittingWith Fits item (take place numbers) found × Contains found partner) cost 0 free start stop grown_there (omega arith) p
