-- Groups filed in strips stay filed where a pair joins one, and where one is added.
use Rattle.std.proofs.Common.{◌≡◌, ℕ, ◌+◌, ◌-◌, ◌/◌, ◌<◌, ◌≤◌, ℤ, pos, ◌+ℤ◌, ◌-ℤ◌, ◌*ℤ◌, ◌≤ℤ◌, to_z, of_z, w64, FitsSigned, true, List, [], ◌∷◌, ◌++◌, length, map, set, take, get_or, refl, sym, subst, ap, ◌∙◌, length-append, arith}
use Rattle.std.specs.List.{All, Contains}
use Rattle.std.proofs.Math.Seq.{get_or-append_seam}
use Rattle.std.proofs.lemmas.Bool.{cases_lt, cases_order}
use Rattle.std.proofs.lemmas.List.{get_or_append_left, get_or_default, get_or_read, get_or-set_other, get_or-set_same, length-map, length-set, map-set}
use Rattle.std.proofs.lemmas.Int.{ints, to_z-of_z}
use Rattle.std.proofs.lemmas.List.Elements.{All-map, All-nil, All-push, All-set, All-take, All-weaker, Contains-append_left, Contains-push}
use Rattle.std.proofs.lemmas.List.Sorted.{IsNonDecreasingBy-push}
use mathlib.Core.Logic.{inl, inr}
use Rattle.line_fit.specs.Slopes.{AreOfOneDay}
use Rattle.sky_math.proofs.Order.{mul_le}
use Rattle.sky_units.specs.Pairs.{EpochsDontFall, pairs_of}
use Rattle.sky_units.specs.Ranges.{IsBetween, IsEpoch}
use Rattle.sky_units.specs.SettingsData.{AreSettings, SettingsData}
use Rattle.sky_units.specs.SpotData.{SpotData}
use Rattle.collapse.specs.Groups.{IsPairBelow, join_all, with_pair}
use Rattle.collapse.specs.Strips.{AreEmpty, AreFiled, AreGroups, AreInOrder, IsEntry, IsFiled, height, with_entry}
use Rattle.collapse.specs.declared.strips.Entry.{Entry}
use Rattle.collapse.proofs.FirstPlaces.{FirstsDontFall, firsts_dont_fall}
use Rattle.collapse.proofs.Firsts.{pair_below, places_so_far}
use Rattle.collapse.proofs.OnLines.{groups_lie, lies_at, pairs_lie}
use Rattle.collapse.proofs.Searching.{list_read}
use Rattle.collapse.proofs.Together.{among_still}

-- ---- entries in the order of their places
none_in_order : (last : ℕ) → AreInOrder last []
none_in_order last = record {
  places = λ i j d ij jn. absurd (omega arith);
  most = All-nil (λ (entry : Entry). entry.place ≤ last);
}

one_more_in_order : (last : ℕ) (entries : List Entry) (entry : Entry) → entry.place ≡ last → AreInOrder last entries → AreInOrder last (entries ++ entry ∷ [])
one_more_in_order last entries entry e order = record {
  places = IsNonDecreasingBy-push (λ (entry : Entry). entry.place) entries entry order.places (λ d some. let m = order.most (length entries - 1) d (omega arith) in omega (arith, e, m));
  most = All-push (λ (entry : Entry). entry.place ≤ last) entries entry order.most (omega (arith, e));
}

filed_later : (spots : List SpotData) (width last later : ℕ) (lists : List (List Entry)) (groups : List (List ℕ)) → last ≤ later → AreFiled spots width last lists groups → AreFiled spots width later lists groups
filed_later spots width last later lists groups h filed = record {
  count = filed.count;
  entries = filed.entries;
  each = filed.each;
  in_order = All-weaker (AreInOrder last) (AreInOrder later)
      (λ entries order. record {
        places = order.places;
        most = All-weaker (λ (entry : Entry). entry.place ≤ last) (λ (entry : Entry). entry.place ≤ later) (λ entry l. omega arith) entries order.most;
      })
      lists filed.in_order;
}

-- ---- no groups
pub filed_none : (spots : List SpotData) (width last : ℕ) (lists : List (List Entry)) (groups : List (List ℕ)) → AreEmpty width lists → groups ≡ [] → AreFiled spots width last lists groups
filed_none spots width last lists groups empty e = rw e (record {
  count = empty.count;
  entries = λ k d kl. subst (All (IsEntry [])) (sym (empty.none k d kl)) (All-nil (IsEntry []));
  each = λ i l. absurd (omega arith);
  in_order = λ k d kl. subst (AreInOrder last) (sym (empty.none k d kl)) (none_in_order last);
})

-- a group of which places stay
entry_joined : (groups : List (List ℕ)) (at : ℕ) (union : List ℕ) (entry : Entry) → at < length groups → ((p : ℕ) → Contains (get_or groups at []) p → Contains union p) → IsEntry groups entry → IsEntry (set groups at union) entry
entry_joined groups at union entry h still is =
    let w = is.within in
    let n = length-set groups at union in
    record {
      within = omega (arith, n, w);
      among = elim (cases_order entry.group at) as (λ _. Contains (get_or (set groups at union) entry.group []) entry.place) [
        | inl e ↦
            let there : get_or (set groups at union) entry.group [] ≡ union = ap (λ (k : ℕ). get_or (set groups at union) k []) e ∙ get_or-set_same groups at union [] h in
            let old : Contains (get_or groups at []) entry.place = subst (λ (k : ℕ). Contains (get_or groups k []) entry.place) e is.among in
            subst (λ (xs : List ℕ). Contains xs entry.place) (sym there) (still entry.place old)
        | inr (inl l) ↦ other (λ e. omega arith)
        | inr (inr g) ↦ other (λ e. omega arith)
      ];
    }
  where
    other : (entry.group ≡ at → ⊥) → Contains (get_or (set groups at union) entry.group []) entry.place
    other differs = subst (λ (xs : List ℕ). Contains xs entry.place) (sym (get_or-set_other groups at entry.group union [] differs)) is.among

pub filed_joined : (spots : List SpotData) (width last : ℕ) (lists : List (List Entry)) (groups : List (List ℕ)) (at : ℕ) (pair : ℕ × ℕ) (group union : List ℕ) → at < length groups → group ≡ get_or groups at group → union ≡ with_pair group pair → AreFiled spots width last lists groups → AreFiled spots width last lists (set groups at union)
filed_joined spots width last lists groups at pair group union h eg eu filed =
    let group' : group ≡ get_or groups at [] = eg ∙ get_or_default groups at group [] h in
    let still : (p : ℕ) → Contains (get_or groups at []) p → Contains union p = λ p c. subst (λ (xs : List ℕ). Contains xs p) (sym eu) (among_still group pair p (subst (λ (xs : List ℕ). Contains xs p) (sym group') c)) in
    let n = length-set groups at union in
    record {
      count = filed.count;
      entries = λ k d kl. All-weaker (IsEntry groups) (IsEntry (set groups at union)) (λ e is. entry_joined groups at union e h still is) (get_or lists k d) (filed.entries k d kl);
      each = λ i l. filed.each i (omega (arith, n, l));
      in_order = filed.in_order;
    }

-- ---- a new group
entry_more : (groups : List (List ℕ)) (new : List ℕ) (entry : Entry) → IsEntry groups entry → IsEntry (groups ++ new ∷ []) entry
entry_more groups new entry is =
    let w = is.within in
    record {
      within = omega (arith, w, length-append groups (new ∷ []));
      among = subst (λ (xs : List ℕ). Contains xs entry.place) (sym (get_or_append_left groups (new ∷ []) [] entry.group is.within)) is.among;
    }

listed_still : (lists : List (List Entry)) (strip k : ℕ) (entry old : Entry) → strip < length lists → Contains (get_or lists k []) old → Contains (get_or (with_entry lists strip entry) k []) old
listed_still lists strip k entry old h c = elim (cases_order k strip) as (λ _. Contains (get_or (with_entry lists strip entry) k []) old) [
  | inl e ↦
      let there : get_or (with_entry lists strip entry) k [] ≡ get_or lists strip [] ++ entry ∷ [] = ap (λ (j : ℕ). get_or (with_entry lists strip entry) j []) e ∙ get_or-set_same lists strip (get_or lists strip [] ++ entry ∷ []) [] h in
      let c' : Contains (get_or lists strip []) old = subst (λ (j : ℕ). Contains (get_or lists j []) old) e c in
      subst (λ (xs : List Entry). Contains xs old) (sym there) (Contains-append_left (get_or lists strip []) (entry ∷ []) old c')
  | inr (inl l) ↦ other (λ e. omega arith)
  | inr (inr g) ↦ other (λ e. omega arith)
]
  where
    other : (k ≡ strip → ⊥) → Contains (get_or (with_entry lists strip entry) k []) old
    other differs = subst (λ (xs : List Entry). Contains xs old) (sym (get_or-set_other lists strip k (get_or lists strip [] ++ entry ∷ []) [] differs)) c

pub filed_new : (spots : List SpotData) (width : ℕ) (lists : List (List Entry)) (groups : List (List ℕ)) (strip : ℕ) (new : List ℕ) (place : ℕ) (spot : SpotData) → place < length spots → spot ≡ get_or spots place spot → strip ≡ height spot / width → strip < length lists → Contains new place →
    AreFiled spots width place lists groups → AreFiled spots width place (with_entry lists strip (record { place = place; group = length groups })) (groups ++ new ∷ [])
filed_new spots width lists groups strip new place spot within es ek sl among filed =
    let entry : Entry = record { place = place; group = length groups } in
    let here : get_or (groups ++ new ∷ []) (length groups) [] ≡ new = get_or-append_seam groups new [] [] in
    let is : IsEntry (groups ++ new ∷ []) entry = record { within = omega (arith, length-append groups (new ∷ [])); among = subst (λ (xs : List ℕ). Contains xs place) (sym here) among } in
    record {
      count = length-set lists strip (get_or lists strip [] ++ entry ∷ []) ∙ filed.count;
      entries = All-set (All (IsEntry (groups ++ new ∷ []))) lists strip (get_or lists strip [] ++ entry ∷ [])
          (All-push (IsEntry (groups ++ new ∷ [])) (get_or lists strip []) entry (All-weaker (IsEntry groups) (IsEntry (groups ++ new ∷ [])) (λ e i. entry_more groups new e i) (get_or lists strip []) (filed.entries strip [] sl)) is)
          (λ k d kl. All-weaker (IsEntry groups) (IsEntry (groups ++ new ∷ [])) (λ e i. entry_more groups new e i) (get_or lists k d) (filed.entries k d kl));
      each = λ i l. elim (cases_lt i (length groups)) as (λ _. IsFiled spots width (with_entry lists strip entry) i) [
        | inl m ↦ let f = filed.each i m in record { place = f.place; within = f.within; listed = λ d. listed_still lists strip (height (get_or spots f.place d) / width) entry record { place = f.place; group = i } sl (f.listed d) }
        | inr m ↦
            let same : length groups ≡ i = omega (arith, l, length-append groups (new ∷ [])) in
            subst (IsFiled spots width (with_entry lists strip entry)) same (record {
              place = place;
              within = within;
              listed = λ d.
                  let spot' : spot ≡ get_or spots place d = es ∙ get_or_default spots place spot d within in
                  let strip' : strip ≡ height (get_or spots place d) / width = ek ∙ ap (λ (s : SpotData). height s / width) spot' in
                  let there : get_or (with_entry lists strip entry) strip [] ≡ get_or lists strip [] ++ entry ∷ [] = get_or-set_same lists strip (get_or lists strip [] ++ entry ∷ []) [] sl in
                  subst (λ (k : ℕ). Contains (get_or (with_entry lists strip entry) k []) entry) strip' (subst (λ (xs : List Entry). Contains xs entry) (sym there) (Contains-push (get_or lists strip []) entry));
            })
      ];
      in_order = All-set (AreInOrder place) lists strip (get_or lists strip [] ++ entry ∷ []) (one_more_in_order place (get_or lists strip []) entry refl (filed.in_order strip [] sl)) filed.in_order;
    }

pub filed_pushed : (spots : List SpotData) (width : ℕ) (lists more : List (List Entry)) (groups all : List (List ℕ)) (strip at : ℕ) (new : List ℕ) (pair : ℕ × ℕ) (spot : SpotData) → IsPairBelow (length spots) pair → spot ≡ get_or spots pair.0 spot → strip ≡ height spot / width → strip ≤ 180000000 / width →
    new ≡ pair.0 ∷ pair.1 ∷ [] → AreFiled spots width pair.0 lists groups → more ≡ with_entry lists strip (record { place = pair.0; group = at }) → at ≡ length groups → all ≡ groups ++ new ∷ [] → AreFiled spots width pair.0 more all
filed_pushed spots width lists more groups all strip at new pair spot below es ek size en filed em ea eg =
    let m = below.0 in
    let n = below.1 in
    let c = filed.count in
    let sl : strip < length lists = omega (arith, c, size) in
    let among : Contains new pair.0 = subst (λ (xs : List ℕ). Contains xs pair.0) (sym en) (0, omega arith, refl) in
    let f = filed_new spots width lists groups strip new pair.0 spot (omega arith) es ek sl among filed in
    let lists' : more ≡ with_entry lists strip (record { place = pair.0; group = length groups }) = em ∙ ap (λ (k : ℕ). with_entry lists strip (record { place = pair.0; group = k })) ea in
    subst (λ (gs : List (List ℕ)). AreFiled spots width pair.0 more gs) (sym eg) (subst (λ (ls : List (List Entry)). AreFiled spots width pair.0 ls (groups ++ new ∷ [])) (sym lists') f)

-- a strip with one entry more, as code pushes it
pub pushed : {K : Type 0} (f : K → List Entry) (xs : List K) (strip : ℕ) (old new : K) (entry : Entry) → strip < length xs → old ≡ get_or xs strip old → f new ≡ f old ++ entry ∷ [] → map f (set xs strip new) ≡ with_entry (map f xs) strip entry
pushed f xs strip old new entry h e n = map-set f xs strip new ∙ ap (set (map f xs) strip) (n ∙ ap (λ (es : List Entry). es ++ entry ∷ []) (list_read f xs strip old h e))

-- strips with no entry
pub none_filed : {K : Type 0} (f : K → List Entry) (xs : List K) (width : ℕ) → length xs ≡ 180000000 / width + 1 → All (λ x. f x ≡ []) xs → AreEmpty width (map f xs)
none_filed f xs width e h = record { count = length-map xs f ∙ e; none = All-map (λ list. list ≡ []) f xs h }

-- ---- pairs one after the other
-- the first pairs have joined groups, and these are filed up to the first place of the next one
pub record AreJoined (settings : SettingsData) (spots : List SpotData) (pairs : List (ℕ × ℕ)) (at : ℕ) (groups : List (List ℕ)) (width : ℕ) (lists : List (List Entry)) : Type 0 where
  pub joined : groups ≡ join_all settings spots (take at pairs) []
  pub filed : at < length pairs → AreFiled spots width (get_or pairs at (0, 0)).0 lists groups

pub filed_next : (settings : SettingsData) (spots : List SpotData) (pairs : List (ℕ × ℕ)) (at width : ℕ) (lists : List (List Entry)) (groups : List (List ℕ)) → pairs ≡ pairs_of settings spots → AreFiled spots width (get_or pairs at (0, 0)).0 lists groups →
    at + 1 < length pairs → AreFiled spots width (get_or pairs (at + 1) (0, 0)).0 lists groups
filed_next settings spots pairs at width lists groups e filed more =
    let order : FirstsDontFall pairs = subst FirstsDontFall (sym e) (firsts_dont_fall settings spots) in
    filed_later spots width (get_or pairs at (0, 0)).0 (get_or pairs (at + 1) (0, 0)).0 lists groups (order at (at + 1) (0, 0) (omega arith) more) filed

pub groups_so_far : (settings : SettingsData) (spots : List SpotData) (pairs : List (ℕ × ℕ)) (at : ℕ) (groups : List (List ℕ)) → AreSettings settings → EpochsDontFall spots → AreOfOneDay spots → pairs ≡ pairs_of settings spots → groups ≡ join_all settings spots (take at pairs) [] → AreGroups settings spots groups
groups_so_far settings spots pairs at groups ranges order day e joined =
    let lie = pairs_lie settings spots ranges day (λ pair h. (pair_below settings spots pair order h).0) in
    let taken = All-take (λ pair. lies_at settings spots (pair.0 ∷ pair.1 ∷ []) ≡ true) at pairs (subst (All (λ pair. lies_at settings spots (pair.0 ∷ pair.1 ∷ []) ≡ true)) (sym e) lie) in
    subst (AreGroups settings spots) (sym joined) (record {
      places = places_so_far settings spots pairs at order e;
      lines = groups_lie settings spots (take at pairs) taken;
    })

-- ---- how far apart spots of a night may be
pub day_between : (spots : List SpotData) (x y : SpotData) → EpochsDontFall spots → AreOfOneDay spots → 0 < length spots → x ≡ get_or spots 0 x → y ≡ get_or spots (length spots - 1) y → IsBetween (pos 0) (pos 1000000) (y.epoch -ℤ x.epoch)
day_between spots x y order day some ex ey = elim (cases_lt 0 (length spots - 1)) as (λ _. IsBetween (pos 0) (pos 1000000) (y.epoch -ℤ x.epoch)) [
  | inl l ↦
      let y' : y ≡ get_or spots (length spots - 1) x = get_or_read spots (length spots - 1) y (omega arith) ey x in
      let o = order 0 (length spots - 1) x l (omega arith) in
      let n = day 0 (length spots - 1) x l (omega arith) in
      between (get_or spots 0 x).epoch (get_or spots (length spots - 1) x).epoch x.epoch y.epoch (ap (λ (s : SpotData). s.epoch) ex) (ap (λ (s : SpotData). s.epoch) y') o n
  | inr one ↦
      let z : length spots - 1 ≡ 0 = omega arith in
      let y' : y ≡ get_or spots 0 y = ey ∙ ap (λ (k : ℕ). get_or spots k y) z in
      let y'' : y ≡ get_or spots 0 x = get_or_read spots 0 y some y' x in
      let same : x.epoch ≡ y.epoch = ap (λ (s : SpotData). s.epoch) (ex ∙ sym y'') in
      record { from = omega (arith, ints, same); to = omega (arith, ints, same) }
]
  where
    between : (a b x y : ℤ) → x ≡ a → y ≡ b → a ≤ℤ b → (b -ℤ a) ≤ℤ pos 1000000 → IsBetween (pos 0) (pos 1000000) (y -ℤ x)
    between a b x y ea eb o n = record { from = omega (arith, ints); to = omega (arith, ints) }

pub held_difference : (x y : ℤ) → IsEpoch x → IsEpoch y → to_z w64 (of_z w64 (to_z w64 (of_z w64 y) -ℤ to_z w64 (of_z w64 x))) ≡ y -ℤ x
held_difference x y p q =
    let a = p.from in
    let b = p.to in
    let c = q.from in
    let d = q.to in
    let f : FitsSigned w64 x = omega (arith, ints) in
    let g : FitsSigned w64 y = omega (arith, ints) in
    let h : FitsSigned w64 (y -ℤ x) = omega (arith, ints) in
    simp to_z-of_z refl

pub covers_all : (rate t z : ℤ) (spots : List SpotData) (x y : SpotData) → pos 0 ≤ℤ rate → EpochsDontFall spots → x ≡ get_or spots 0 x → y ≡ get_or spots (length spots - 1) y → ((rate *ℤ (y.epoch -ℤ x.epoch)) +ℤ t) ≤ℤ z →
    (i j : ℕ) (d : SpotData) → i < j → j < length spots → ((rate *ℤ ((get_or spots j d).epoch -ℤ (get_or spots i d).epoch)) +ℤ t) ≤ℤ z
covers_all rate t z spots x y positive order ex ey h i j d ij jn =
    let x' : x.epoch ≡ (get_or spots 0 d).epoch = ap (λ (s : SpotData). s.epoch) (get_or_read spots 0 x (omega arith) ex d) in
    let y' : y.epoch ≡ (get_or spots (length spots - 1) d).epoch = ap (λ (s : SpotData). s.epoch) (get_or_read spots (length spots - 1) y (omega arith) ey d) in
    let low : (get_or spots 0 d).epoch ≤ℤ (get_or spots i d).epoch = elim (cases_order 0 i) as (λ _. (get_or spots 0 d).epoch ≤ℤ (get_or spots i d).epoch) [
      | inl e ↦ let s : (get_or spots 0 d).epoch ≡ (get_or spots i d).epoch = ap (λ (k : ℕ). (get_or spots k d).epoch) e in omega (arith, ints, s)
      | inr (inl l) ↦ order 0 i d l (omega arith)
      | inr (inr g) ↦ absurd (omega arith)
    ] in
    let high : (get_or spots j d).epoch ≤ℤ (get_or spots (length spots - 1) d).epoch = elim (cases_order j (length spots - 1)) as (λ _. (get_or spots j d).epoch ≤ℤ (get_or spots (length spots - 1) d).epoch) [
      | inl e ↦ let s : (get_or spots j d).epoch ≡ (get_or spots (length spots - 1) d).epoch = ap (λ (k : ℕ). (get_or spots k d).epoch) e in omega (arith, ints, s)
      | inr (inl l) ↦ order j (length spots - 1) d l (omega arith)
      | inr (inr g) ↦ absurd (omega arith)
    ] in
    let m = mul_le rate ((get_or spots j d).epoch -ℤ (get_or spots i d).epoch) (y.epoch -ℤ x.epoch) positive (omega (arith, ints, x', y', low, high)) in
    sum _ _ t z m h
  where
    sum : (a b t z : ℤ) → a ≤ℤ b → (b +ℤ t) ≤ℤ z → (a +ℤ t) ≤ℤ z
    sum a b t z h k = omega (arith, ints)
