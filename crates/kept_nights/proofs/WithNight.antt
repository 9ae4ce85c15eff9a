-- A night among nights of rising numbers: where it is put, and which nights there are then.
use Rattle.std.proofs.Common.{◌≡◌, ℕ, ◌+◌, ◌<◌, ◌≤◌, ℤ, ◌≤ℤ◌, ◌<ℤ◌, Bool, true, false, Ok, Err, List, ◌∷◌, ◌⊎◌, ◌↔◌, length, get_or, set, suc, refl, sym, subst, ◌∙◌, inl, inr, arith}
use Rattle.std.specs.Int.Signed.{lt_z}
use Rattle.std.specs.List.{Contains, filter, insert}
use Rattle.std.specs.List.Sorted.{IsNonDecreasingBy, IsBinarySearchResult, IsSearchInRange, IsPartitionPoint}
use Rattle.std.specs.Ordering.{int_cmp, ordering_index, is_lt, MatchOrdering}
use Rattle.std.specs.Result.{IfOk, IfErr}
use Rattle.std.specs.declared.cmp.Ordering.{Ordering}
use Rattle.std.specs.declared.cmp.Ordering.TheVariants.{Less, Equal, Greater}
use Rattle.std.specs.declared.result.Result.{Result}
use Rattle.std.proofs.lemmas.Bool.{cases_lt}
use Rattle.std.proofs.lemmas.Cmp.{int_cmp_total, int_ranked}
use Rattle.std.proofs.lemmas.Int.{by_lt_z, ints}
use Rattle.std.proofs.lemmas.List.{set_split}
use Rattle.std.proofs.lemmas.List.Elements.{All-cons, Contains-append_cases, Contains-append_left, Contains-append_right, filter_passes}
use Rattle.std.proofs.lemmas.List.Kept.{AllPairs-filter}
use Rattle.std.proofs.lemmas.List.Sorted.{searchable_from_sorted}
use Rattle.exposure_log.proofs.Searching.{filter_drop, filter_take}
use Rattle.night_tree.specs.Nights.{NightData}
use Rattle.night_tree.proofs.EachTwoOf.{each_two_append, each_two_cons}
use Rattle.plain_tracks.proofs.Entries.{front_or_rest, in_front, in_rest}
use Rattle.plain_tracks.proofs.Tracks.{filter_exact}
use Rattle.kept_nights.specs.KeptNights.{RiseByNumber, with_night}

abbrev Above : ℤ → NightData → Type 0
Above n night = n <ℤ night.number

abbrev Below : ℤ → NightData → Type 0
Below n night = night.number <ℤ n

abbrev pub IsBefore : NightData → NightData → Type 0
IsBefore one later = one.number <ℤ later.number

is_less : (m n : ℤ) → m <ℤ n → lt_z m n ≡ true
is_less m n h = grind (arith, ints)

not_less : (m n : ℤ) → n ≤ℤ m → lt_z m n ≡ false
not_less m n h = grind (arith, ints)

cases_lt_or : (m n : ℕ) → m ≤ n → (m < n) ⊎ (m ≡ n)
cases_lt_or m n h = elim (cases_lt m n) [ inl lt ↦ inl lt | inr ge ↦ inr (omega arith) ]

module _ (night : NightData) (xs : List NightData) where
  abbrev before : NightData → Bool
  before kept = lt_z kept.number night.number

  abbrev behind : NightData → Bool
  behind kept = lt_z night.number kept.number

  -- ---- where it is put
  pub replaced : (i : ℕ) → RiseByNumber xs → i < length xs → ((d : NightData) → (get_or xs i d).number ≡ night.number) → set xs i night ≡ with_night night xs
  replaced i rise lt same =
      let up : (k : ℕ) (d : NightData) → k < i → (get_or xs k d).number <ℤ night.number = λ k d low. let r = rise k i d low lt in let e = same d in omega (arith, ints, r, e) in
      let down : (k : ℕ) (d : NightData) → i < k → k < length xs → night.number <ℤ (get_or xs k d).number = λ k d high kn. let r = rise i k d high kn in let e = same d in omega (arith, ints, r, e) in
      let from : (k : ℕ) (d : NightData) → i ≤ k → k < length xs → night.number ≤ℤ (get_or xs k d).number = λ k d high kn. elim (cases_lt_or i k high) [ inl past ↦ (let r = down k d past kn in omega (arith, ints, r)) | inr e ↦ rw (← e) (let r = same d in omega (arith, ints, r)) ] in
      let to : (k : ℕ) (d : NightData) → k < suc i → (get_or xs k d).number ≤ℤ night.number = λ k d low. elim (cases_lt_or k i (omega arith)) [ inl early ↦ (let r = up k d early in omega (arith, ints, r)) | inr e ↦ rw e (let r = same d in omega (arith, ints, r)) ] in
      set_split xs i night lt
      ∙ rw (
        filter_take before xs i (λ k d low kn. is_less (get_or xs k d).number night.number (up k d low)) (λ k d high kn. not_less (get_or xs k d).number night.number (from k d high kn)),
        filter_drop behind xs (suc i) (λ k d low kn. not_less night.number (get_or xs k d).number (to k d low)) (λ k d high kn. is_less night.number (get_or xs k d).number (down k d (omega arith) kn)),
      ) refl

  pub inserted : (i : ℕ) → IsPartitionPoint (Below night.number) (Above night.number) xs i → insert xs i night ≡ with_night night xs
  inserted i point = rw (
    filter_take before xs i (λ k d low kn. is_less (get_or xs k d).number night.number (point.0 k d (omega arith) low)) (λ k d high kn. let up = point.1 k d high kn in not_less (get_or xs k d).number night.number (omega (arith, ints, up))),
    filter_drop behind xs i (λ k d low kn. let up = point.0 k d (omega arith) low in not_less night.number (get_or xs k d).number (omega (arith, ints, up))) (λ k d high kn. is_less night.number (get_or xs k d).number (point.1 k d high kn)),
  ) refl

  -- ---- which nights there are then
  passed : (a b : ℤ) → lt_z a b ≡ true → a <ℤ b
  passed a b t = omega (arith, ints, t)

  pub still_rise : RiseByNumber xs → RiseByNumber (with_night night xs)
  still_rise rise =
      let early = filter_passes before xs in
      let late = filter_passes behind xs in
      each_two_append IsBefore (filter before xs) (night ∷ filter behind xs) (AllPairs-filter IsBefore before xs rise)
      (each_two_cons IsBefore night (filter behind xs) (λ k d kn. passed night.number (get_or (filter behind xs) k d).number (late k d kn)) (AllPairs-filter IsBefore behind xs rise))
      (λ k d kn.
      let x : NightData = get_or (filter before xs) k d in
      let first = passed x.number night.number (early k d kn) in
      All-cons (IsBefore x) night (filter behind xs) first (λ j e jn. let then = passed night.number (get_or (filter behind xs) j e).number (late j e jn) in omega (arith, ints, first, then)))

  pub with_members : (x : NightData) → Contains (with_night night xs) x ↔ ((night ≡ x) ⊎ (Contains xs x × (x.number ≡ night.number → ⊥)))
  with_members x = (
    λ c. elim (Contains-append_cases (filter before xs) (night ∷ filter behind xs) x c) [
      | inl d ↦ (let w = (filter_exact before xs x).0 d in let up = passed x.number night.number w.1 in inr (w.0, λ e. omega (arith, ints, up, e)))
      | inr d ↦ elim (front_or_rest night (filter behind xs) x d) [
        | inl e ↦ inl e
        | inr k ↦ (let w = (filter_exact behind xs x).0 k in let up = passed night.number x.number w.1 in inr (w.0, λ e. omega (arith, ints, up, e)))
      ]
    ],
    λ w. elim w [
      | inl e ↦ subst (Contains (with_night night xs)) e (Contains-append_right (filter before xs) (night ∷ filter behind xs) night (in_front night (filter behind xs)))
      | inr v ↦ by_lt_z x.number night.number
          (λ less. Contains-append_left (filter before xs) (night ∷ filter behind xs) x ((filter_exact before xs x).1 (v.0, is_less x.number night.number less)))
          (λ not_before. by_lt_z night.number x.number
          (λ more. Contains-append_right (filter before xs) (night ∷ filter behind xs) x (in_rest night (filter behind xs) x ((filter_exact behind xs x).1 (v.0, is_less night.number x.number more))))
          (λ not_behind. absurd (v.1 (omega (arith, ints, not_before, not_behind)))))
    ],
  )

-- ---- a search for a number

no_less : (a b : ℤ) (o : Ordering) → MatchOrdering o (a <ℤ b) (a ≡ b) (b <ℤ a) → b ≤ℤ a → is_lt o ≡ false
no_less a b Less m h = absurd (omega (arith, ints, m))
no_less a b Equal m h = refl
no_less a b Greater m h = refl

searchable : (xs : List NightData) (n : ℤ) → RiseByNumber xs → IsNonDecreasingBy (λ (night : NightData). ordering_index (int_cmp night.number n)) xs
searchable xs n rise = searchable_from_sorted int_cmp_total (λ (night : NightData). night.number) xs n
    (λ k d low high.
    let up : (get_or xs k d).number <ℤ (get_or xs (k + 1) d).number = rise k (k + 1) d (omega arith) high in
    no_less (get_or xs (k + 1) d).number (get_or xs k d).number (int_cmp (get_or xs (k + 1) d).number (get_or xs k d).number) (int_ranked (get_or xs (k + 1) d).number (get_or xs k d).number (int_cmp (get_or xs (k + 1) d).number (get_or xs k d).number) refl) (omega (arith, ints, up)))

abbrev by_number : ℤ → NightData → Ordering
by_number n night = int_cmp night.number n

pub found_at : (n : ℤ) (xs : List NightData) (r : Result ℕ ℕ) → IsSearchInRange r (length xs) → IsBinarySearchResult (by_number n) xs r
    → IfOk r (λ i. (i < length xs) × ((d : NightData) → (get_or xs i d).number ≡ n))
found_at n xs (Ok i) bound is = (bound, λ d. int_ranked (get_or xs i d).number n Equal (sym (is d)))
found_at n xs (Err i) bound is = tt

pub missing_at : (n : ℤ) (xs : List NightData) (r : Result ℕ ℕ) → RiseByNumber xs → IsSearchInRange r (length xs) → IsBinarySearchResult (by_number n) xs r
    → IfErr r (λ i. (i ≤ length xs) × IsPartitionPoint (Below n) (Above n) xs i)
missing_at n xs (Ok i) rise bound is = tt
missing_at n xs (Err i) rise bound is =
    let point = is (searchable xs n rise) in
    (bound, (λ k d low high. int_ranked (get_or xs k d).number n Less (sym (point.0 k d low high)), λ k d low high. int_ranked (get_or xs k d).number n Greater (sym (point.1 k d low high))))
