-- A pair joins the first group that it may join; pairs do so one after the other.
use Rattle.std.proofs.Common.{◌≡◌, ℕ, ◌+◌, ◌<◌, ◌≤◌, pos, ◌-ℤ◌, ◌<ℤ◌, true, false, ◌&&◌, List, [], ◌∷◌, ◌++◌, set, length, take, get_or, refl, sym, subst, ap, ◌∙◌, arith}
use Rattle.std.specs.List.{All}
use Rattle.std.specs.Prelude.{slice_get, Option, Some, None}
use Rattle.std.proofs.lemmas.Bool.{cases_Bool, cases_lt, cases_order, false≢true}
use Rattle.std.proofs.lemmas.Int.{ints}
use Rattle.std.proofs.lemmas.List.{take_more}
use Rattle.std.proofs.lemmas.List.Elements.{All-cons, All-head, All-nil, All-tail, All-take, All-weaker, filter_passes}
use Rattle.std.proofs.lemmas.Option.{slice_get_past, slice_get-get_or}
use Prim.Native.Nat.{zero, suc}
use mathlib.Core.Logic.{inl, inr}
use Rattle.std.specs.Int.Signed.{le_z, lt_z}
use Rattle.line_fit.proofs.Twos.{both}
use Rattle.sky_math.specs.Circle.{wrapped}
use Rattle.sky_units.proofs.EpochOrder.{lt_of_test}
use Rattle.sky_units.specs.Pairs.{are_pair_at, are_some_pair, are_pair, all_pairs, keeps_rate, pairs_of, EpochsDontFall}
use Rattle.sky_units.specs.SettingsData.{SettingsData}
use Rattle.sky_units.specs.SpotData.{SpotData}
use Rattle.collapse.specs.First.{IsFirstToJoin, JoinsAt, NoneBefore}
use Rattle.collapse.specs.Groups.{may_join, with_pair, join_first, join_all, ArePlaces, IsPairBelow}
use Rattle.collapse.proofs.Together.{places_of_pair, places_with_pair}

-- ---- one pair
pub joins_here : (settings : SettingsData) (spots : List SpotData) (pair : ℕ × ℕ) (group : List ℕ) (rest : List (List ℕ)) → may_join settings spots pair group ≡ true → join_first settings spots pair (group ∷ rest) ≡ with_pair group pair ∷ rest
joins_here settings spots pair group rest h = rw h refl

pub passes_by : (settings : SettingsData) (spots : List SpotData) (pair : ℕ × ℕ) (group : List ℕ) (rest : List (List ℕ)) → may_join settings spots pair group ≡ false → join_first settings spots pair (group ∷ rest) ≡ group ∷ join_first settings spots pair rest
passes_by settings spots pair group rest h = rw h refl

rest_none : (settings : SettingsData) (spots : List SpotData) (pair : ℕ × ℕ) (group : List ℕ) (rest : List (List ℕ)) (n : ℕ) → NoneBefore settings spots pair (group ∷ rest) (suc n) → NoneBefore settings spots pair rest n
rest_none settings spots pair group rest n none = λ i d lt il. none (suc i) d (omega arith) (omega arith)

pub joins_none : (settings : SettingsData) (spots : List SpotData) (pair : ℕ × ℕ) (groups : List (List ℕ)) → NoneBefore settings spots pair groups (length groups) → join_first settings spots pair groups ≡ groups ++ (pair.0 ∷ pair.1 ∷ []) ∷ []
joins_none settings spots pair [] none = refl
joins_none settings spots pair (group ∷ rest) none =
    let no = none zero group (omega arith) (omega arith) in
    passes_by settings spots pair group rest no ∙ ap (λ (gs : List (List ℕ)). group ∷ gs) (joins_none settings spots pair rest (rest_none settings spots pair group rest (length rest) none))

pub joins_at : (settings : SettingsData) (spots : List SpotData) (pair : ℕ × ℕ) (groups : List (List ℕ)) (at : ℕ) (d : List ℕ) → JoinsAt settings spots pair groups at → NoneBefore settings spots pair groups at → join_first settings spots pair groups ≡ set groups at (with_pair (get_or groups at d) pair)
joins_at settings spots pair [] at d joins none = let l = joins.within in absurd (omega arith)
joins_at settings spots pair (group ∷ rest) zero d joins none = joins_here settings spots pair group rest (joins.joins group)
joins_at settings spots pair (group ∷ rest) (suc at) d joins none =
    let no = none zero group (omega arith) (omega arith) in
    let l = joins.within in
    passes_by settings spots pair group rest no ∙ ap (λ (gs : List (List ℕ)). group ∷ gs) (joins_at settings spots pair rest at d record { within = omega arith; joins = joins.joins } (rest_none settings spots pair group rest at none))

-- ---- what the search for the first group told
pub joined_at : (settings : SettingsData) (spots : List SpotData) (pair : ℕ × ℕ) (groups slice : List (List ℕ)) (first : ℕ) (group union : List ℕ) → slice ≡ groups → IsFirstToJoin settings spots pair slice first → first < length groups →
    group ≡ get_or groups first group → union ≡ with_pair group pair → set groups first union ≡ join_first settings spots pair groups
joined_at settings spots pair groups slice first group union e told l eg eu =
    let f : IsFirstToJoin settings spots pair groups first = subst (λ (gs : List (List ℕ)). IsFirstToJoin settings spots pair gs first) e told in
    let u : union ≡ with_pair (get_or groups first group) pair = rw (← eg) eu in
    sym (joins_at settings spots pair groups first group (f.joins l) f.before ∙ ap (λ (g : List ℕ). set groups first g) (sym u))

pub joined_new : (settings : SettingsData) (spots : List SpotData) (pair : ℕ × ℕ) (groups slice new : List (List ℕ)) (first : ℕ) (places : List ℕ) → slice ≡ groups → IsFirstToJoin settings spots pair slice first → length groups ≤ first →
    places ≡ pair.0 ∷ pair.1 ∷ [] → new ≡ groups ++ places ∷ [] → new ≡ join_first settings spots pair groups
joined_new settings spots pair groups slice new first places e told past ep en =
    let f : IsFirstToJoin settings spots pair groups first = subst (λ (gs : List (List ℕ)). IsFirstToJoin settings spots pair gs first) e told in
    let none : NoneBefore settings spots pair groups (length groups) = λ i d lt il. f.before i d (omega arith) il in
    en ∙ ap (λ (p : List ℕ). groups ++ p ∷ []) ep ∙ sym (joins_none settings spots pair groups none)

-- ---- pairs one after the other
all_joined : (settings : SettingsData) (spots : List SpotData) (pairs : List (ℕ × ℕ)) (pair : ℕ × ℕ) (groups : List (List ℕ)) → join_all settings spots (pairs ++ pair ∷ []) groups ≡ join_first settings spots pair (join_all settings spots pairs groups)
all_joined settings spots [] pair groups = refl
all_joined settings spots (p ∷ rest) pair groups = all_joined settings spots rest pair (join_first settings spots p groups)

pub one_more_pair : (settings : SettingsData) (spots : List SpotData) (pairs : List (ℕ × ℕ)) (i : ℕ) (pair : ℕ × ℕ) (old new : List (List ℕ)) → i < length pairs → pair ≡ get_or pairs i (0, 0) →
    old ≡ join_all settings spots (take i pairs) [] → new ≡ join_first settings spots pair old → new ≡ join_all settings spots (take (i + 1) pairs) []
one_more_pair settings spots pairs i pair old new h e before step =
    let more : take (i + 1) pairs ≡ take i pairs ++ pair ∷ [] = take_more pairs i (0, 0) h ∙ ap (λ (p : ℕ × ℕ). take i pairs ++ p ∷ []) (sym e) in
    rw (more, all_joined settings spots (take i pairs) pair [], ← before) step

-- ---- groups are rising places
pub places_joined : (settings : SettingsData) (spots : List SpotData) (n : ℕ) (pair : ℕ × ℕ) (groups : List (List ℕ)) → IsPairBelow n pair → All (ArePlaces n) groups → All (ArePlaces n) (join_first settings spots pair groups)
places_joined settings spots n pair [] p a = All-cons (ArePlaces n) (pair.0 ∷ pair.1 ∷ []) [] (places_of_pair n pair p) (All-nil (ArePlaces n))
places_joined settings spots n pair (group ∷ rest) p a = elim (cases_Bool (may_join settings spots pair group)) as (λ _. All (ArePlaces n) (join_first settings spots pair (group ∷ rest))) [
  | inl t ↦ rw (joins_here settings spots pair group rest t) (All-cons (ArePlaces n) (with_pair group pair) rest (places_with_pair n group pair p (All-head (ArePlaces n) group rest a)) (All-tail (ArePlaces n) group rest a))
  | inr f ↦ rw (passes_by settings spots pair group rest f) (All-cons (ArePlaces n) group (join_first settings spots pair rest) (All-head (ArePlaces n) group rest a) (places_joined settings spots n pair rest p (All-tail (ArePlaces n) group rest a)))
]

pub places_all : (settings : SettingsData) (spots : List SpotData) (n : ℕ) (pairs : List (ℕ × ℕ)) (groups : List (List ℕ)) → All (IsPairBelow n) pairs → All (ArePlaces n) groups → All (ArePlaces n) (join_all settings spots pairs groups)
places_all settings spots n [] groups p a = a
places_all settings spots n (pair ∷ rest) groups p a = places_all settings spots n rest (join_first settings spots pair groups) (All-tail (IsPairBelow n) pair rest p) (places_joined settings spots n pair groups (All-head (IsPairBelow n) pair rest p) a)

-- ---- what the pairs of a night are
no_some_first : (settings : SettingsData) (o : Option SpotData) → are_some_pair settings None o ≡ false
no_some_first settings o = refl

no_some_second : (settings : SettingsData) (o : Option SpotData) → are_some_pair settings o None ≡ false
no_some_second settings None = refl
no_some_second settings (Some a) = refl

pub later_of_pair : (settings : SettingsData) (a b : SpotData) → are_pair settings a b ≡ true → a.epoch <ℤ b.epoch
later_of_pair settings a b h =
    let u = both (lt_z a.epoch b.epoch && le_z (b.epoch -ℤ a.epoch) settings.pair_gap && keeps_rate settings.rate_ra (b.epoch -ℤ a.epoch) (wrapped (b.ra -ℤ a.ra))) (keeps_rate settings.rate_dec (b.epoch -ℤ a.epoch) (b.dec -ℤ a.dec)) h in
    let v = both (lt_z a.epoch b.epoch && le_z (b.epoch -ℤ a.epoch) settings.pair_gap) (keeps_rate settings.rate_ra (b.epoch -ℤ a.epoch) (wrapped (b.ra -ℤ a.ra))) u.0 in
    let w = both (lt_z a.epoch b.epoch) (le_z (b.epoch -ℤ a.epoch) settings.pair_gap) v.0 in
    lt_of_test a.epoch b.epoch w.0

pub second_within : (settings : SettingsData) (spots : List SpotData) (pair : ℕ × ℕ) → are_pair_at settings spots pair ≡ true → pair.1 < length spots
second_within settings spots pair h = elim (cases_lt pair.1 (length spots)) as (λ _. pair.1 < length spots) [
  | inl l ↦ l
  | inr past ↦
      let none : are_some_pair settings (slice_get spots pair.0) (slice_get spots pair.1) ≡ false = rw (slice_get_past spots pair.1 past) (no_some_second settings (slice_get spots pair.0)) in
      absurd (false≢true (sym none ∙ h))
]

pub first_within : (settings : SettingsData) (spots : List SpotData) (pair : ℕ × ℕ) → are_pair_at settings spots pair ≡ true → pair.0 < length spots
first_within settings spots pair h = elim (cases_lt pair.0 (length spots)) as (λ _. pair.0 < length spots) [
  | inl l ↦ l
  | inr past ↦
      let none : are_some_pair settings (slice_get spots pair.0) (slice_get spots pair.1) ≡ false = rw (slice_get_past spots pair.0 past) (no_some_first settings (slice_get spots pair.1)) in
      absurd (false≢true (sym none ∙ h))
]

-- the spots of a pair
pub pair_at : (settings : SettingsData) (spots : List SpotData) (pair : ℕ × ℕ) (d : SpotData) → are_pair_at settings spots pair ≡ true → are_pair settings (get_or spots pair.0 d) (get_or spots pair.1 d) ≡ true
pair_at settings spots pair d h =
    let f : slice_get spots pair.0 ≡ Some (get_or spots pair.0 d) = slice_get-get_or spots pair.0 d (first_within settings spots pair h) in
    let s : slice_get spots pair.1 ≡ Some (get_or spots pair.1 d) = slice_get-get_or spots pair.1 d (second_within settings spots pair h) in
    let whole : are_some_pair settings (slice_get spots pair.0) (slice_get spots pair.1) ≡ true = h in
    rw (f, s) at whole

pub pair_below : (settings : SettingsData) (spots : List SpotData) (pair : ℕ × ℕ) → EpochsDontFall spots → are_pair_at settings spots pair ≡ true → IsPairBelow (length spots) pair
pair_below settings spots pair order h =
    let m : pair.1 < length spots = second_within settings spots pair h in
    let f : pair.0 < length spots = first_within settings spots pair h in
    let d : SpotData = record { num = 0; epoch = pos 0; ra = pos 0; dec = pos 0 } in
    let later = later_of_pair settings (get_or spots pair.0 d) (get_or spots pair.1 d) (pair_at settings spots pair d h) in (
      elim (cases_order pair.0 pair.1) as (λ _. pair.0 < pair.1) [
        | inl e ↦ let same : (get_or spots pair.0 d).epoch ≡ (get_or spots pair.1 d).epoch = ap (λ (k : ℕ). (get_or spots k d).epoch) e in absurd (omega (arith, ints, later, same))
        | inr (inl l) ↦ l
        | inr (inr g) ↦ let back = order pair.1 pair.0 d g f in absurd (omega (arith, ints, later, back))
      ],
      m,
    )

pub pairs_below : (settings : SettingsData) (spots : List SpotData) → EpochsDontFall spots → All (IsPairBelow (length spots)) (pairs_of settings spots)
pairs_below settings spots order = All-weaker (λ p. are_pair_at settings spots p ≡ true) (IsPairBelow (length spots)) (λ p h. pair_below settings spots p order h) (pairs_of settings spots) (filter_passes (are_pair_at settings spots) (all_pairs (length spots) (length spots)))

-- groups of some pairs of a night
pub places_so_far : (settings : SettingsData) (spots : List SpotData) (pairs : List (ℕ × ℕ)) (i : ℕ) → EpochsDontFall spots → pairs ≡ pairs_of settings spots → All (ArePlaces (length spots)) (join_all settings spots (take i pairs) [])
places_so_far settings spots pairs i order e =
    places_all settings spots (length spots) (take i pairs) [] (All-take (IsPairBelow (length spots)) i pairs (subst (All (IsPairBelow (length spots))) (sym e) (pairs_below settings spots order))) (All-nil (ArePlaces (length spots)))
