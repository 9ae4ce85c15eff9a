-- What a change of one night's list does to the list of all exposures.
use Rattle.std.proofs.Common.{◌≡◌, ℕ, ◌+◌, ◌-◌, ◌<◌, ◌≤◌, ℤ, ◌<ℤ◌, ◌≤ℤ◌, true, false, not, cond, Option, Some, None, Vec, Global, List, [], ◌∷◌, ◌++◌, length, get_or, take, drop, refl, sym, ap, ◌∙◌, arith, length-append, inl, inr, suc}
use Rattle.std.specs.BTreeMap.{is_at, insert_entry}
use Rattle.std.specs.Int.Signed.{lt_z}
use Rattle.std.specs.List.{All, filter, insert, remove, slice_get, sum_by}
use Rattle.std.specs.List.Sorted.{IsPartitionPoint}
use Rattle.std.specs.Map.{set_value, values_of}
use Rattle.std.specs.Option.{is_some}
use Rattle.std.specs.Ordering.{int_cmp, is_eq, match_ordering}
use Rattle.std.specs.declared.cmp.Ordering.TheVariants.{Less, Equal, Greater}
use Rattle.std.proofs.lemmas.Bool.{cases_Bool, cases_lt}
use Rattle.std.proofs.lemmas.Int.{ints}
use Rattle.std.proofs.lemmas.List.{get_or_append_left, get_or-append_right, append-nil}
use Rattle.std.proofs.lemmas.List.Edits.{insert-append_left, insert-append_right}
use Rattle.std.proofs.lemmas.List.Elements.{All-append, All-cons, All-drop, All-head, All-nil, All-tail, All-take, All-weaker, filter-append}
use Rattle.std.proofs.lemmas.List.Kept.{AllPairs-filter}
use Rattle.std.proofs.lemmas.List.Sums.{sum_by-cons}
use Rattle.std.proofs.lemmas.Map.{keys-set_value}
use Rattle.sky_math.specs.Night.{night_at}
use Rattle.exposure_log.specs.declared.numbered.NumberedExposure.{NumberedExposure}
use Rattle.exposure_log.specs.Numbered.{numbered_cmp, RiseStrictly}
use Rattle.exposure_log.specs.Nights.{all_listed, list_of, is_of_night, AreByNight, IsFree, PutsIn}
use Rattle.exposure_log.proofs.NightOrder.{stands_before, stands_behind}
use Rattle.exposure_log.proofs.Searching.{filter_all, filter_none}
use Rattle.exposure_log.proofs.ByNight.{StandsAmong, UnderNight, stands_among, night_is_list, none_some, same_list, equal_is, all_later, rising_head, other_night, its_night, keeps_middle}
use Rattle.exposure_log.proofs.AtPlace.{at_place, one_at_place, without_place}
use Rattle.exposure_log.proofs.Searching.{filter_none_out}

abbrev Nights : Type 0
Nights = List (ℤ × Vec NumberedExposure Global)

-- ---- one exposure more, and one less

point_among : (P Q : NumberedExposure → Type 0) (xs ys zs : List NumberedExposure) (i : ℕ) → All P xs → All Q zs → i ≤ length ys → IsPartitionPoint P Q ys i → IsPartitionPoint P Q (xs ++ (ys ++ zs)) (length xs + i)
point_among P Q xs ys zs i before after within point =
    let len = length-append xs (ys ++ zs) in
    let len' = length-append ys zs in (
      (λ k d low high. elim (cases_lt k (length xs)) [
        | inl lt ↦ rw (get_or_append_left xs (ys ++ zs) d k lt) (before k d lt)
        | inr ge ↦ rw (get_or-append_right xs (ys ++ zs) (length xs) k d refl ge, get_or_append_left ys zs d (k - length xs) (omega arith)) (point.0 (k - length xs) d (omega arith) (omega arith))
      ]),
      (λ k d low high. rw (get_or-append_right xs (ys ++ zs) (length xs) k d refl (omega arith)) (elim (cases_lt (k - length xs) (length ys)) [
        | inl lt ↦ rw (get_or_append_left ys zs d (k - length xs) lt) (point.1 (k - length xs) d (omega arith) lt)
        | inr ge ↦ rw (get_or-append_right ys zs (length ys) (k - length xs) d refl ge) (after ((k - length xs) - length ys) d (omega arith))
      ])),
    )

insert_among : (xs ys zs : List NumberedExposure) (i : ℕ) (g : NumberedExposure) → i ≤ length ys → insert (xs ++ (ys ++ zs)) (length xs + i) g ≡ xs ++ (insert ys i g ++ zs)
insert_among xs ys zs i g within =
    let place : (length xs + i) - length xs ≡ i = omega arith in
    insert-append_right xs (ys ++ zs) (length xs) (length xs + i) g refl (omega arith)
    ∙ ap (λ (l : List NumberedExposure). xs ++ l) (ap (λ (n : ℕ). insert (ys ++ zs) n g) place ∙ insert-append_left ys zs i g within)

module _ (shift : ℤ) (ns : Nights) (here : Vec NumberedExposure Global) where
  pub puts_in : (g : NumberedExposure) (i : ℕ) (v : Vec NumberedExposure Global) → StandsAmong shift (night_at shift g.epoch) ns here → IsFree g.epoch g.site here.items i → v.items ≡ insert here.items i g
      → PutsIn (all_listed ns) g (all_listed (set_value (is_at (int_cmp (night_at shift g.epoch))) ns v))
  puts_in g i v among free new =
      let within : length among.before + i ≤ length (among.before ++ (here.items ++ among.after)) = omega (arith, free.0, length-append among.before (here.items ++ among.after), length-append here.items among.after) in
      let point = point_among (λ x. numbered_cmp g.epoch g.site x ≡ Less) (λ x. numbered_cmp g.epoch g.site x ≡ Greater) among.before here.items among.after i
      (All-weaker (λ (x : NumberedExposure). night_at shift x.epoch <ℤ night_at shift g.epoch) (λ (x : NumberedExposure). numbered_cmp g.epoch g.site x ≡ Less) (stands_before shift g.epoch g.site) among.before among.earlier)
      (All-weaker (λ (x : NumberedExposure). night_at shift g.epoch <ℤ night_at shift x.epoch) (λ (x : NumberedExposure). numbered_cmp g.epoch g.site x ≡ Greater) (stands_behind shift g.epoch g.site) among.after among.later)
      free.0 free.1 in
      rw (among.changed v, among.is, new) (length among.before + i, (within, point), sym (insert_among among.before here.items among.after i g free.0))

  module _ (epoch : ℤ) (site : List ℕ) (among : StandsAmong shift (night_at shift epoch) ns here) where
    none_earlier : filter (at_place epoch site) among.before ≡ []
    none_earlier = filter_none (at_place epoch site) among.before (λ k d h. ap is_eq (stands_before shift epoch site (get_or among.before k d) (among.earlier k d h)))

    none_later : filter (at_place epoch site) among.after ≡ []
    none_later = filter_none (at_place epoch site) among.after (λ k d h. ap is_eq (stands_behind shift epoch site (get_or among.after k d) (among.later k d h)))

    -- what stands at a place is what its night's list has there
    pub place_in_list : filter (at_place epoch site) (all_listed ns) ≡ filter (at_place epoch site) here.items
    place_in_list = rw among.is (keeps_middle (at_place epoch site) among.before here.items among.after none_earlier none_later)

    -- the others are those of the other nights, and the others of the list
    pub others_left : (v : Vec NumberedExposure Global) → v.items ≡ filter (λ g. not (at_place epoch site g)) here.items
        → all_listed (set_value (is_at (int_cmp (night_at shift epoch))) ns v) ≡ filter (λ g. not (at_place epoch site g)) (all_listed ns)
    others_left v new =
        rw (
          among.changed v,
          among.is,
          new,
          filter-append (λ (g : NumberedExposure). not (at_place epoch site g)) among.before (here.items ++ among.after),
          filter-append (λ (g : NumberedExposure). not (at_place epoch site g)) here.items among.after,
          filter_none_out (at_place epoch site) among.before none_earlier,
          filter_none_out (at_place epoch site) among.after none_later,
        ) refl

-- ---- what stays night by night

under_set : (shift night : ℤ) (ns : Nights) (v : Vec NumberedExposure Global) → All (UnderNight shift) ns → All (λ g. night_at shift g.epoch ≡ night) v.items → All (UnderNight shift) (set_value (is_at (int_cmp night)) ns v)
under_set shift night [] v under at_night = under
under_set shift night (n ∷ ns) v under at_night =
    elim (int_cmp night n.0) as (λ r. int_cmp night n.0 ≡ r → All (UnderNight shift) (cond (is_eq r) ((n.0, v) ∷ ns) (n ∷ set_value (is_at (int_cmp night)) ns v))) [
      | Less ↦ λ r. All-cons (UnderNight shift) n (set_value (is_at (int_cmp night)) ns v) (All-head (UnderNight shift) n ns under) (under_set shift night ns v (All-tail (UnderNight shift) n ns under) at_night)
      | Equal ↦ λ r. All-cons (UnderNight shift) (n.0, v) ns (rw (← equal_is night n.0 r) at_night) (All-tail (UnderNight shift) n ns under)
      | Greater ↦ λ r. All-cons (UnderNight shift) n (set_value (is_at (int_cmp night)) ns v) (All-head (UnderNight shift) n ns under) (under_set shift night ns v (All-tail (UnderNight shift) n ns under) at_night)
    ] refl

pub set_by_night : (shift night : ℤ) (ns : Nights) (v : Vec NumberedExposure Global) → AreByNight shift ns → All (λ g. night_at shift g.epoch ≡ night) v.items → AreByNight shift (set_value (is_at (int_cmp night)) ns v)
set_by_night shift night ns v by at_night = record {
  nights_rise = rw (keys-set_value (is_at (int_cmp night)) ns v) by.nights_rise;
  under_their_night = under_set shift night ns v by.under_their_night at_night;
}

at_night_insert : (shift night : ℤ) (listed : List NumberedExposure) (i : ℕ) (g : NumberedExposure) → All (λ x. night_at shift x.epoch ≡ night) listed → night_at shift g.epoch ≡ night → All (λ x. night_at shift x.epoch ≡ night) (insert listed i g)
at_night_insert shift night listed i g all one =
    All-append (λ (x : NumberedExposure). night_at shift x.epoch ≡ night) (take i listed) (g ∷ drop i listed) (All-take (λ (x : NumberedExposure). night_at shift x.epoch ≡ night) i listed all)
    (All-cons (λ (x : NumberedExposure). night_at shift x.epoch ≡ night) g (drop i listed) one (All-drop (λ (x : NumberedExposure). night_at shift x.epoch ≡ night) i listed all))

pub free_in_list : (shift night : ℤ) (ns : Nights) (here : Vec NumberedExposure Global) (by : AreByNight shift ns) (found : list_of ns night ≡ Some here) (epoch : ℤ) (site : List ℕ) (i : ℕ)
    → IsFree epoch site (filter (is_of_night shift night) (all_listed ns)) i → IsFree epoch site here.items i
free_in_list shift night ns here by found epoch site i free = rw (night_is_list shift night ns here (stands_among shift night ns here by found)) at free

-- an exposure put at its place in its night's list
module _ (shift night : ℤ) (ns : Nights) (here : Vec NumberedExposure Global) (by : AreByNight shift ns) (found : list_of ns night ≡ Some here) (g : NumberedExposure) (i : ℕ) (v : Vec NumberedExposure Global)
    (same : night ≡ night_at shift g.epoch) (new : v.items ≡ insert here.items i g) where
  pub insert_by_night : AreByNight shift (set_value (is_at (int_cmp night)) ns v)
  insert_by_night = set_by_night shift night ns v by (rw new (at_night_insert shift night here.items i g (stands_among shift night ns here by found).at_night (sym same)))

  pub put_in_night : IsFree g.epoch g.site (filter (is_of_night shift night) (all_listed ns)) i → PutsIn (all_listed ns) g (all_listed (set_value (is_at (int_cmp night)) ns v))
  put_in_night free = rw same (puts_in shift ns here g i v (rw same at (stands_among shift night ns here by found)) (free_in_list shift night ns here by found g.epoch g.site i free) new)

at_night_remove : (shift night : ℤ) (listed : List NumberedExposure) (i : ℕ) → All (λ x. night_at shift x.epoch ≡ night) listed → All (λ x. night_at shift x.epoch ≡ night) (remove listed i)
at_night_remove shift night listed i all =
    All-append (λ (x : NumberedExposure). night_at shift x.epoch ≡ night) (take i listed) (drop (suc i) listed)
    (All-take (λ (x : NumberedExposure). night_at shift x.epoch ≡ night) i listed all) (All-drop (λ (x : NumberedExposure). night_at shift x.epoch ≡ night) (suc i) listed all)

-- the exposure of a place taken out of its night's list
module _ (shift epoch : ℤ) (site : List ℕ) (ns : Nights) (here : Vec NumberedExposure Global) (by : AreByNight shift ns) (list : list_of ns (night_at shift epoch) ≡ Some here) (rise : RiseStrictly (all_listed ns))
    (i : ℕ) (at : (i < length (filter (is_of_night shift (night_at shift epoch)) (all_listed ns))) × ((d : NumberedExposure) → numbered_cmp epoch site (get_or (filter (is_of_night shift (night_at shift epoch)) (all_listed ns)) i d) ≡ Equal)) where
  among : StandsAmong shift (night_at shift epoch) ns here
  among = stands_among shift (night_at shift epoch) ns here by list

  list_rises : RiseStrictly here.items
  list_rises = rw (night_is_list shift (night_at shift epoch) ns here among) at (AllPairs-filter (λ (g h : NumberedExposure). numbered_cmp h.epoch h.site g ≡ Less) (is_of_night shift (night_at shift epoch)) (all_listed ns) rise)

  pub at_in_list : (i < length here.items) × ((d : NumberedExposure) → numbered_cmp epoch site (get_or here.items i d) ≡ Equal)
  at_in_list = rw (night_is_list shift (night_at shift epoch) ns here among) at at

  module _ (g : NumberedExposure) (v : Vec NumberedExposure Global) (is : g ≡ get_or here.items i g) (new : v.items ≡ remove here.items i) where
    pub take_by_night : AreByNight shift (set_value (is_at (int_cmp (night_at shift epoch))) ns v)
    take_by_night = set_by_night shift (night_at shift epoch) ns v by (rw new (at_night_remove shift (night_at shift epoch) here.items i among.at_night))

    pub taken_out : filter (at_place epoch site) (all_listed ns) ≡ g ∷ []
    taken_out = place_in_list shift ns here epoch site among ∙ one_at_place here.items epoch site i g list_rises at_in_list.0 at_in_list.1 is

    pub taken_rest : all_listed (set_value (is_at (int_cmp (night_at shift epoch))) ns v) ≡ filter (λ x. not (at_place epoch site x)) (all_listed ns)
    taken_rest = others_left shift ns here epoch site among v (new ∙ sym (without_place here.items epoch site i g list_rises at_in_list.0 at_in_list.1 is))

-- a list that changes its room alone
pub same_set : (night : ℤ) (ns : Nights) (v w : Vec NumberedExposure Global) → list_of ns night ≡ Some v → w.items ≡ v.items → all_listed (set_value (is_at (int_cmp night)) ns w) ≡ all_listed ns
same_set night [] v w found same = refl
same_set night (n ∷ ns) v w found same = elim (cases_Bool (is_at (int_cmp night) n.0)) [
  | inl y ↦
      let list : n.1 ≡ v = same_list n.1 v (rw y at found) in
      rw (y, same, list) refl
  | inr f ↦ rw (f, same_set night ns v w (rw f at found) same) refl
]

pub room_by_night : (shift night : ℤ) (ns : Nights) (v w : Vec NumberedExposure Global) → AreByNight shift ns → list_of ns night ≡ Some v → w.items ≡ v.items → AreByNight shift (set_value (is_at (int_cmp night)) ns w)
room_by_night shift night ns v w by found same = set_by_night shift night ns w by (rw same (stands_among shift night ns v by found).at_night)

empty_under : (shift night : ℤ) (v : Vec NumberedExposure Global) → v.items ≡ [] → UnderNight shift (night, v)
empty_under shift night v e = rw e (All-nil (λ (g : NumberedExposure). night_at shift g.epoch ≡ night))

-- a night with no exposures more
pub same_insert : (night : ℤ) (ns : Nights) (v : Vec NumberedExposure Global) → v.items ≡ [] → list_of ns night ≡ None → all_listed (insert_entry int_cmp ns night v) ≡ all_listed ns
same_insert night [] v empty missing = rw empty refl
same_insert night (n ∷ ns) v empty missing =
    elim (int_cmp night n.0) as (λ r. int_cmp night n.0 ≡ r → all_listed (match_ordering r ((night, v) ∷ n ∷ ns) ((n.0, v) ∷ ns) (n ∷ insert_entry int_cmp ns night v)) ≡ all_listed (n ∷ ns)) [
      | Less ↦ λ r. rw empty refl
      | Equal ↦ λ r. let test : is_at (int_cmp night) n.0 ≡ true = ap is_eq r in absurd (none_some (list_of (n ∷ ns) night) n.1 missing (rw test refl))
      | Greater ↦ λ r.
          let test : is_at (int_cmp night) n.0 ≡ false = ap is_eq r in
          ap (λ (l : List NumberedExposure). n.1.items ++ l) (same_insert night ns v empty (rw test at missing))
    ] refl

pub under_insert : (shift night : ℤ) (ns : Nights) (v : Vec NumberedExposure Global) → All (UnderNight shift) ns → v.items ≡ [] → All (UnderNight shift) (insert_entry int_cmp ns night v)
under_insert shift night [] v under empty = All-cons (UnderNight shift) (night, v) [] (empty_under shift night v empty) under
under_insert shift night (n ∷ ns) v under empty =
    elim (int_cmp night n.0) as (λ r. All (UnderNight shift) (match_ordering r ((night, v) ∷ n ∷ ns) ((n.0, v) ∷ ns) (n ∷ insert_entry int_cmp ns night v))) [
      | Less ↦ All-cons (UnderNight shift) (night, v) (n ∷ ns) (empty_under shift night v empty) under
      | Equal ↦ All-cons (UnderNight shift) (n.0, v) ns (empty_under shift n.0 v empty) (All-tail (UnderNight shift) n ns under)
      | Greater ↦ All-cons (UnderNight shift) n (insert_entry int_cmp ns night v) (All-head (UnderNight shift) n ns under) (under_insert shift night ns v (All-tail (UnderNight shift) n ns under) empty)
    ]

-- ---- the first night

not_under : (a b : ℤ) → b ≤ℤ a → lt_z a b ≡ false
not_under a b h = grind (arith, ints)

module _ (shift : ℤ) (n : ℤ × Vec NumberedExposure Global) (ns : Nights) (by : AreByNight shift (n ∷ ns)) where
  later_nights : All (λ g. n.0 <ℤ night_at shift g.epoch) (all_listed ns)
  later_nights = all_later shift n.0 ns (rising_head n ns by.nights_rise) (All-tail (UnderNight shift) n ns by.under_their_night)

  not_first : (k : ℕ) (d : NumberedExposure) → k < length (all_listed ns) → is_of_night shift n.0 (get_or (all_listed ns) k d) ≡ false
  not_first k d h = let less = later_nights k d h in other_night shift n.0 (get_or (all_listed ns) k d) (λ e. omega (arith, ints, less, e))

  first_night : (k : ℕ) (d : NumberedExposure) → k < length n.1.items → is_of_night shift n.0 (get_or n.1.items k d) ≡ true
  first_night k d h = its_night shift n.0 (get_or n.1.items k d) (All-head (UnderNight shift) n ns by.under_their_night k d h)

  pub first_is : n.1.items ≡ filter (is_of_night shift n.0) (all_listed (n ∷ ns))
  first_is = rw (filter-append (is_of_night shift n.0) n.1.items (all_listed ns), filter_all (is_of_night shift n.0) n.1.items first_night, filter_none (is_of_night shift n.0) (all_listed ns) not_first) (sym (append-nil n.1.items))

  pub rest_is : all_listed ns ≡ filter (λ g. not (is_of_night shift n.0 g)) (all_listed (n ∷ ns))
  rest_is =
      rw (
        filter-append (λ (g : NumberedExposure). not (is_of_night shift n.0 g)) n.1.items (all_listed ns),
        filter_none (λ (g : NumberedExposure). not (is_of_night shift n.0 g)) n.1.items (λ k d h. ap not (first_night k d h)),
        filter_all (λ (g : NumberedExposure). not (is_of_night shift n.0 g)) (all_listed ns) (λ k d h. ap not (not_first k d h)),
      ) refl

  -- where the first night doesn't lie before a night, no exposure does
  pub none_before : (night : ℤ) → night ≤ℤ n.0 → All (λ g. lt_z (night_at shift g.epoch) night ≡ false) (all_listed (n ∷ ns))
  none_before night from = All-append (λ (g : NumberedExposure). lt_z (night_at shift g.epoch) night ≡ false) n.1.items (all_listed ns)
      (All-weaker (λ (g : NumberedExposure). night_at shift g.epoch ≡ n.0) (λ (g : NumberedExposure). lt_z (night_at shift g.epoch) night ≡ false) (λ g e. not_under (night_at shift g.epoch) night (omega (arith, ints, e, from))) n.1.items (All-head (UnderNight shift) n ns by.under_their_night))
      (All-weaker (λ (g : NumberedExposure). n.0 <ℤ night_at shift g.epoch) (λ (g : NumberedExposure). lt_z (night_at shift g.epoch) night ≡ false) (λ g less. not_under (night_at shift g.epoch) night (omega (arith, ints, less, from))) (all_listed ns) later_nights)

same_entry : (n p : ℤ × Vec NumberedExposure Global) → Some n ≡ Some p → n ≡ p
same_entry n p e = cc

pub none_before_first : (shift night : ℤ) (ns : Nights) (p : ℤ × Vec NumberedExposure Global) → AreByNight shift ns → slice_get ns 0 ≡ Some p → night ≤ℤ p.0 → All (λ g. lt_z (night_at shift g.epoch) night ≡ false) (all_listed ns)
none_before_first shift night [] p by first from = All-nil (λ (g : NumberedExposure). lt_z (night_at shift g.epoch) night ≡ false)
none_before_first shift night (n ∷ ns) p by first from =
    let same : n.0 ≡ p.0 = ap (λ (e : ℤ × Vec NumberedExposure Global). e.0) (same_entry n p first) in
    none_before shift n ns by night (rw same from)

pub first_before : (night : ℤ) (n p : ℤ × Vec NumberedExposure Global) (ns rest : Nights) → slice_get ns 0 ≡ Some p → ns ≡ n ∷ rest → p.0 <ℤ night → n.0 <ℤ night
first_before night n p [] rest first is less = cc
first_before night n p (m ∷ ns) rest first is less =
    let same : m ≡ p = same_entry m p first in
    let same' : m ≡ n = cc in
    let e : n.0 ≡ p.0 = ap (λ (e : ℤ × Vec NumberedExposure Global). e.0) (sym same' ∙ same) in
    rw e less

pub no_list : (o : Option (Vec NumberedExposure Global)) → false ≡ is_some o → o ≡ None
no_list None h = refl
no_list (Some v) h = cc

pub length_all : (ns : Nights) → sum_by (λ listed. length listed.items) (values_of ns) ≡ length (all_listed ns)
length_all [] = refl
length_all (n ∷ ns) = omega (arith, length_all ns, sum_by-cons (λ (v : Vec NumberedExposure Global). length v.items) n.1 (values_of ns), length-append n.1.items (all_listed ns))
