-- The search for the first group that a pair may join: entry by entry, and strip by strip.
use Rattle.std.proofs.Common.{◌≡◌, ℕ, ◌+◌, ◌-◌, ◌/◌, ◌<◌, ◌≤◌, ℤ, ◌≤ℤ◌, true, false, List, [], ◌∷◌, ◌++◌, length, map, take, get_or, sym, subst, ap, ◌∙◌, arith}
use Rattle.std.specs.Int.Signed.{le_z}
use Rattle.std.specs.List.{All, Contains}
use Rattle.std.specs.List.Sorted.{IsPartitionPoint}
use Rattle.std.specs.Prelude.{min}
use Rattle.std.proofs.Math.Nat.{div-mul-le_self}
use Rattle.std.proofs.lemmas.Bool.{cases_Bool, cases_lt, false≢true}
use Rattle.std.proofs.lemmas.Int.{ints}
use Rattle.std.proofs.lemmas.List.{get_or-map, get_or-take, get_or_default, get_or_past, get_or_read, length-map, length-take, take_more}
use Rattle.std.proofs.lemmas.List.Elements.{All-append, All-cons, All-contains, All-nil, All-weaker}
use Rattle.std.proofs.lemmas.Nat.{le-div}
use mathlib.Core.Logic.{inl, inr}
use Rattle.sky_units.specs.Pairs.{EpochsDontFall}
use Rattle.sky_units.specs.SettingsData.{SettingsData}
use Rattle.sky_units.specs.SpotData.{SpotData}
use Rattle.collapse.specs.First.{IsFirstToJoin}
use Rattle.collapse.specs.Groups.{IsPairBelow, may_join}
use Rattle.collapse.specs.Strips.{AreFiled, AreGroups, IsEntry, IsFirstOf, IsReach, PlacesDontFall, height}
use Rattle.collapse.specs.declared.strips.Entry.{Entry}
use Rattle.collapse.proofs.Distances.{late_no_join, near_of_join, rises}
use Rattle.collapse.proofs.Together.{no_spot}

-- ---- one entry
abbrev pub FailsBelow : SettingsData → List SpotData → ℕ × ℕ → List (List ℕ) → ℕ → Entry → Type 0
FailsBelow settings spots pair groups first e = e.group < first → may_join settings spots pair (get_or groups e.group []) ≡ false

pub first_not : (settings : SettingsData) (spots : List SpotData) (pair : ℕ × ℕ) (groups : List (List ℕ)) (entry : Entry) (below : ℕ) → may_join settings spots pair (get_or groups entry.group []) ≡ false → IsFirstOf settings spots pair groups (entry ∷ []) below below
first_not settings spots pair groups entry below h = record {
  most = omega arith;
  joins = λ l. absurd (omega arith);
  before = All-cons (FailsBelow settings spots pair groups below) entry [] (λ l. h) (All-nil (FailsBelow settings spots pair groups below));
}

pub first_is : (settings : SettingsData) (spots : List SpotData) (pair : ℕ × ℕ) (groups : List (List ℕ)) (entry : Entry) (below : ℕ) → entry.group < below → may_join settings spots pair (get_or groups entry.group []) ≡ true → IsFirstOf settings spots pair groups (entry ∷ []) below entry.group
first_is settings spots pair groups entry below l h = record {
  most = omega arith;
  joins = λ m. h;
  before = All-cons (FailsBelow settings spots pair groups entry.group) entry [] (λ m. absurd (omega arith)) (All-nil (FailsBelow settings spots pair groups entry.group));
}

-- ---- entries one after the other
less : (settings : SettingsData) (spots : List SpotData) (pair : ℕ × ℕ) (groups : List (List ℕ)) (first later : ℕ) (entries : List Entry) → later ≤ first → All (FailsBelow settings spots pair groups first) entries → All (FailsBelow settings spots pair groups later) entries
less settings spots pair groups first later entries h all = All-weaker (FailsBelow settings spots pair groups first) (FailsBelow settings spots pair groups later) (λ e f l. f (omega arith)) entries all

first_both : (settings : SettingsData) (spots : List SpotData) (pair : ℕ × ℕ) (groups : List (List ℕ)) (xs ys : List Entry) (below first later : ℕ) → IsFirstOf settings spots pair groups xs below first → IsFirstOf settings spots pair groups ys first later → IsFirstOf settings spots pair groups (xs ++ ys) below later
first_both settings spots pair groups xs ys below first later a b =
    let am = a.most in
    let bm = b.most in
    record {
      most = omega arith;
      joins = λ l. elim (cases_lt later first) as (λ _. may_join settings spots pair (get_or groups later []) ≡ true) [
        | inl m ↦ b.joins m
        | inr m ↦ let e : first ≡ later = omega arith in subst (λ (k : ℕ). may_join settings spots pair (get_or groups k []) ≡ true) e (a.joins (omega arith))
      ];
      before = All-append (FailsBelow settings spots pair groups later) xs ys (less settings spots pair groups first later xs b.most a.before) b.before;
    }

pub first_more : (settings : SettingsData) (spots : List SpotData) (pair : ℕ × ℕ) (groups : List (List ℕ)) (entries : List Entry) (at below first later : ℕ) (d : Entry) → at < length entries → IsFirstOf settings spots pair groups (take at entries) below first →
    IsFirstOf settings spots pair groups (get_or entries at d ∷ []) first later → IsFirstOf settings spots pair groups (take (at + 1) entries) below later
first_more settings spots pair groups entries at below first later d h a b = rw (take_more entries at d h) (first_both settings spots pair groups (take at entries) (get_or entries at d ∷ []) below first later a b)

-- ---- entries that a pair passes by
pub first_passes : (settings : SettingsData) (spots : List SpotData) (pair : ℕ × ℕ) (groups : List (List ℕ)) (entries : List Entry) (at next below first : ℕ) (d : Entry) → EpochsDontFall spots → IsPairBelow (length spots) pair → AreGroups settings spots groups → All (IsEntry groups) entries →
    PlacesDontFall entries → at < length entries → next ≤ length entries → (get_or entries at d).place < pair.0 → le_z (get_or spots pair.0 no_spot).epoch (get_or spots (get_or entries at d).place no_spot).epoch ≡ true →
    IsPartitionPoint (λ (e : Entry). e.place < pair.0) (λ (e : Entry). pair.0 ≤ e.place) entries next → IsFirstOf settings spots pair groups (take at entries) below first → IsFirstOf settings spots pair groups (take next entries) below first
first_passes settings spots pair groups entries at next below first d order pair_below are is_entry dont_fall h within before late parts told = record {
  most = told.most;
  joins = told.joins;
  before = λ k f kn.
      let k' : k < next = omega (arith, kn, length-take next entries) in
      let l : k < length entries = omega (arith, k', within) in
      subst (FailsBelow settings spots pair groups first) (sym (get_or-take next entries k f k'))
      (elim (cases_lt k at) as (λ _. FailsBelow settings spots pair groups first (get_or entries k f)) [
        | inl m ↦ subst (FailsBelow settings spots pair groups first) (get_or-take at entries k f m) (told.before k f (omega (arith, m, h, length-take at entries)))
        | inr m ↦ λ _. none k f m l k'
      ]);
}
  where
    le_of_test : (a b : ℤ) → le_z a b ≡ true → a ≤ℤ b
    le_of_test a b e = grind (arith, ints)

    none : (k : ℕ) (f : Entry) → at ≤ k → k < length entries → k < next → may_join settings spots pair (get_or groups (get_or entries k f).group []) ≡ false
    none k f m l k' =
        let entry : Entry = get_or entries k f in
        let is = is_entry k f l in
        let same : get_or entries at d ≡ get_or entries at f = get_or_default entries at d f h in
        let from : (get_or entries at d).place ≤ entry.place = rw same (dont_fall at k f m l) in
        let other : entry.place < pair.0 = parts.0 k f (omega arith) k' in
        let n = pair_below.0 in
        let n' = pair_below.1 in
        let rise = rises spots (get_or entries at d).place entry.place no_spot order from (omega (arith, other, n, n')) in
        let first_late : (get_or spots pair.0 no_spot).epoch ≤ℤ (get_or spots (get_or entries at d).place no_spot).epoch = le_of_test _ _ late in
        late_no_join settings spots (get_or groups entry.group []) pair entry.place pair_below (are.places entry.group [] is.within) is.among other (omega (arith, ints, rise, first_late))

-- ---- strips one after the other
pub record AreSearched (settings : SettingsData) (spots : List SpotData) (pair : ℕ × ℕ) (groups : List (List ℕ)) (lists : List (List Entry)) (low high first : ℕ) : Type 0 where
  pub most : first ≤ length groups
  pub joins : first < length groups → may_join settings spots pair (get_or groups first []) ≡ true
  pub before : (j : ℕ) → low ≤ j → j < high → All (FailsBelow settings spots pair groups first) (get_or lists j [])

pub searched_one : (settings : SettingsData) (spots : List SpotData) (pair : ℕ × ℕ) (groups : List (List ℕ)) (lists : List (List Entry)) (low high first later : ℕ) (entries : List Entry) → low ≤ high → entries ≡ get_or lists high [] → AreSearched settings spots pair groups lists low high first →
    IsFirstOf settings spots pair groups entries first later → AreSearched settings spots pair groups lists low (high + 1) later
searched_one settings spots pair groups lists low high first later entries lh e a b =
    let am = a.most in
    let bm = b.most in
    record {
      most = omega arith;
      joins = λ l. elim (cases_lt later first) as (λ _. may_join settings spots pair (get_or groups later []) ≡ true) [
        | inl m ↦ b.joins m
        | inr m ↦ let same : first ≡ later = omega arith in subst (λ (k : ℕ). may_join settings spots pair (get_or groups k []) ≡ true) same (a.joins (omega arith))
      ];
      before = λ j lj jh. elim (cases_lt j high) as (λ _. All (FailsBelow settings spots pair groups later) (get_or lists j [])) [
        | inl m ↦ less settings spots pair groups first later (get_or lists j []) b.most (a.before j lj m)
        | inr m ↦
            let same : high ≡ j = omega arith in
            subst (λ (k : ℕ). All (FailsBelow settings spots pair groups later) (get_or lists k [])) same (subst (All (FailsBelow settings spots pair groups later)) e b.before)
      ];
    }

-- a quotient rises with what is divided
pub quotient_rises : (a b k : ℕ) → 0 < k → a ≤ b → a / k ≤ b / k
quotient_rises a b k h l = le-div (a / k) b k h (let m = div-mul-le_self a k in omega (arith, m, l))

-- what is listed nowhere
listed_within : (lists : List (List Entry)) (k : ℕ) (e : Entry) → Contains (get_or lists k []) e → k < length lists
listed_within lists k e c = elim (cases_lt k (length lists)) as (λ _. k < length lists) [
  | inl l ↦ l
  | inr past ↦ let none : get_or lists k [] ≡ [] = get_or_past lists k [] past in let l = c.1 in absurd (omega (arith, ap length none, l))
]

pub searched_all : {last : ℕ} (settings : SettingsData) (spots : List SpotData) (pair : ℕ × ℕ) (groups : List (List ℕ)) (lists : List (List Entry)) (width reach low high first : ℕ) → IsPairBelow (length spots) pair → AreGroups settings spots groups → 0 < width → IsReach settings spots reach → AreFiled spots width last lists groups →
    ((d : SpotData) → low ≤ (height (get_or spots pair.0 d) - reach) / width) → ((d : SpotData) → (k : ℕ) → k ≤ (height (get_or spots pair.0 d) + reach) / width → k < length lists → k < high) → AreSearched settings spots pair groups lists low high first → IsFirstToJoin settings spots pair groups first
searched_all settings spots pair groups lists width reach low high first below are positive covers filed from to s = record {
  most = s.most;
  joins = λ l. record { within = l; joins = λ d. subst (λ (g : List ℕ). may_join settings spots pair g ≡ true) (get_or_default groups first [] d l) (s.joins l) };
  before = λ i d before il. subst (λ (g : List ℕ). may_join settings spots pair g ≡ false) (get_or_default groups i [] d il) (none i before il);
}
  where
    none : (i : ℕ) → i < first → i < length groups → may_join settings spots pair (get_or groups i []) ≡ false
    none i before il = elim (cases_Bool (may_join settings spots pair (get_or groups i []))) as (λ _. may_join settings spots pair (get_or groups i []) ≡ false) [
      | inr f ↦ f
      | inl t ↦
          let f = filed.each i il in
          let entry : Entry = record { place = f.place; group = i } in
          let k : ℕ = height (get_or spots f.place no_spot) / width in
          let listed : Contains (get_or lists k []) entry = f.listed no_spot in
          let kl : k < length lists = listed_within lists k entry listed in
          let is : IsEntry groups entry = All-contains (IsEntry groups) (get_or lists k []) entry (filed.entries k [] kl) listed in
          let near = near_of_join settings spots (get_or groups i []) pair f.place reach no_spot below (are.places i [] il) covers is.among t in
          let near0 = near.0 in
          let near1 = near.1 in
          let from0 = from no_spot in
          let low_k : low ≤ k = (let r = quotient_rises (height (get_or spots pair.0 no_spot) - reach) (height (get_or spots f.place no_spot)) width positive (omega arith) in omega (arith, r, from0)) in
          let high_k : k < high = to no_spot k (quotient_rises (height (get_or spots f.place no_spot)) (height (get_or spots pair.0 no_spot) + reach) width positive near0) kl in
          let fails : FailsBelow settings spots pair groups first entry = All-contains (FailsBelow settings spots pair groups first) (get_or lists k []) entry (s.before k low_k high_k) listed in
          absurd (false≢true (sym (fails before) ∙ t))
    ]

-- a list as it is read
pub list_read : {K : Type 0} (f : K → List Entry) (xs : List K) (i : ℕ) (x : K) → i < length xs → x ≡ get_or xs i x → f x ≡ get_or (map f xs) i []
list_read f xs i x h e = ap f e ∙ sym (get_or-map f xs i x [] h)

pub strip_within : (strip end n m : ℕ) → strip < end → end ≡ min n m → strip < n
strip_within strip end n m h e = let h' = rw e at h in omega arith

pub found_in_strips : {K : Type 0} {last : ℕ} (f : K → List Entry) (settings : SettingsData) (spots : List SpotData) (pair : ℕ × ℕ) (groups : List (List ℕ)) (strips : List K) (width reach low end at first : ℕ) (spot : SpotData) → IsPairBelow (length spots) pair → AreGroups settings spots groups → 0 < width → IsReach settings spots reach →
    AreFiled spots width last (map f strips) groups → spot ≡ get_or spots pair.0 spot → low ≡ height spot - reach → end ≡ min (length strips) ((height spot + reach) / width + 1) → end ≤ at → AreSearched settings spots pair groups (map f strips) (low / width) at first → IsFirstToJoin settings spots pair groups first
found_in_strips f settings spots pair groups strips width reach low end at first spot below are positive covers filed es el ee past s =
    let m = below.0 in
    let n = below.1 in
    let here : (d : SpotData) → spot ≡ get_or spots pair.0 d = λ d. get_or_read spots pair.0 spot (omega arith) es d in
    searched_all settings spots pair groups (map f strips) width reach (low / width) at first below are positive covers filed
    (λ d. subst (λ (x : SpotData). (low / width) ≤ ((height x - reach) / width)) (here d) (quotient_rises low (height spot - reach) width positive (omega (arith, el))))
    (λ d k kq kl.
    let kq' : k ≤ (height spot + reach) / width = subst (λ (x : SpotData). k ≤ (height x + reach) / width) (sym (here d)) kq in
    inside k (length strips) ((height spot + reach) / width) end at kq' (omega (arith, kl, length-map strips f)) ee past)
    s
  where
    inside : (k n m end at : ℕ) → k ≤ m → k < n → end ≡ min n (m + 1) → end ≤ at → k < at
    inside k n m end at a b e h = let h' = rw e at h in omega arith
