-- Sets kept under the numbers of their spots, in the order of those lists.
use Rattle.std.proofs.Common.{◌≡◌, ℕ, ◌<◌, Vec, Global, List, [], ◌∷◌, ◌++◌, length, map, get_or, refl, sym, subst, ap, ◌∙◌, ◌↔◌, arith}
use Rattle.std.proofs.lemmas.List.{get_or-map, length-map}
use Rattle.std.proofs.lemmas.List.Elements.{All-nil, All-cons, All-head, All-tail, All-weaker, Contains-get_or, Contains-append_left, Contains-append_right, Contains-append_cases, Contains-push, Contains-push_cases}
use Rattle.std.proofs.lemmas.Cmp.{nat_list_cmp_total}
use Rattle.std.proofs.lemmas.Map.Keys.{Less-from_sorted}
use Rattle.std.proofs.lemmas.Map.Lookups.{exact_bytes}
use Rattle.std.specs.BTreeMap.{insert_entry}
use Rattle.std.specs.Cmp.Lexicographic.{slice_cmp}
use Rattle.std.specs.List.{All, AllByRecursion, Contains}
use Rattle.std.specs.List.Sorted.{IsStrictlySortedBy}
use Rattle.std.specs.Map.{keys_of, values_of}
use Rattle.std.specs.Ordering.{match_ordering, nat_cmp, ordering_reverse}
use Rattle.std.specs.declared.cmp.Ordering.{Ordering}
use Rattle.std.specs.declared.cmp.Ordering.TheVariants.{Less, Equal, Greater}
use mathlib.Core.Logic.{◌⊎◌, inl, inr}
use Rattle.sky_math.specs.Lists.{EachTwo}
use Rattle.sky_units.specs.TrackletData.{TrackSetData}
use Rattle.sky_units.specs.Tracks.{numbers_of}
use Rattle.plain_tracks.specs.Numbers.{AreKnownByNumbers, IsMaximalAmong}
use Rattle.plain_tracks.proofs.Steps.{in_none}
pub use Rattle.sky_units.proofs.Members.{front_or_rest, in_front, in_rest}

-- how keys are compared
abbrev pub key_cmp : Vec ℕ Global → Vec ℕ Global → Ordering
key_cmp one other = slice_cmp nat_cmp one.items other.items

-- an entry: the numbers, and the set
abbrev pub Entry : Type 0
Entry = Vec ℕ Global × TrackSetData

abbrev pub IsEntry : Entry → Type 0
IsEntry e = e.0.items ≡ numbers_of e.1

-- the numbers of the sets of some entries
abbrev pub listed_numbers : List Entry → List (List ℕ)
listed_numbers es = map numbers_of (values_of es)

insert_all : (P : Entry → Type 0) (es : List Entry) (k : Vec ℕ Global) (v : TrackSetData) → All P es → P (k, v) → ((e : Entry) → P e → key_cmp k e.0 ≡ Equal → P (e.0, v)) → All P (insert_entry key_cmp es k v)
insert_all P [] k v all one tie = All-cons P (k, v) [] one (All-nil P)
insert_all P (e ∷ es) k v all one tie =
    elim (key_cmp k e.0) as (λ r. key_cmp k e.0 ≡ r → All P (match_ordering r ((k, v) ∷ e ∷ es) ((e.0, v) ∷ es) (e ∷ insert_entry key_cmp es k v))) [
      | Less ↦ λ p. All-cons P (k, v) (e ∷ es) one all
      | Equal ↦ λ p. All-cons P (e.0, v) es (tie e (All-head P e es all) p) (All-tail P e es all)
      | Greater ↦ λ p. All-cons P e (insert_entry key_cmp es k v) (All-head P e es all) (insert_all P es k v (All-tail P e es all) one tie)
    ] refl

insert_new : (es : List Entry) (k : Vec ℕ Global) (v : TrackSetData) → Contains (listed_numbers (insert_entry key_cmp es k v)) (numbers_of v)
insert_new [] k v = in_front (numbers_of v) []
insert_new (e ∷ es) k v =
    elim (key_cmp k e.0) as (λ r. Contains (listed_numbers (match_ordering r ((k, v) ∷ e ∷ es) ((e.0, v) ∷ es) (e ∷ insert_entry key_cmp es k v))) (numbers_of v)) [
      | Less ↦ in_front (numbers_of v) (listed_numbers (e ∷ es))
      | Equal ↦ in_front (numbers_of v) (listed_numbers es)
      | Greater ↦ in_rest (numbers_of e.1) (listed_numbers (insert_entry key_cmp es k v)) (numbers_of v) (insert_new es k v)
    ]

insert_old : (es : List Entry) (k : Vec ℕ Global) (v : TrackSetData) (n : List ℕ) → All IsEntry es → k.items ≡ numbers_of v → Contains (listed_numbers es) n → Contains (listed_numbers (insert_entry key_cmp es k v)) n
insert_old [] k v n all one c = absurd (in_none n c)
insert_old (e ∷ es) k v n all one c =
    elim (key_cmp k e.0) as (λ r. key_cmp k e.0 ≡ r → Contains (listed_numbers (match_ordering r ((k, v) ∷ e ∷ es) ((e.0, v) ∷ es) (e ∷ insert_entry key_cmp es k v))) n) [
      | Less ↦ λ p. in_rest (numbers_of v) (listed_numbers (e ∷ es)) n c
      | Equal ↦ λ p.
          let same : numbers_of e.1 ≡ numbers_of v = sym (All-head IsEntry e es all) ∙ (sym (exact_bytes k.items e.0.items p) ∙ one) in
          subst (λ m. Contains (m ∷ listed_numbers es) n) same c
      | Greater ↦ λ p. elim (front_or_rest (numbers_of e.1) (listed_numbers es) n c) [
        | inl f ↦ subst (Contains (listed_numbers (e ∷ insert_entry key_cmp es k v))) f (in_front (numbers_of e.1) (listed_numbers (insert_entry key_cmp es k v)))
        | inr d ↦ in_rest (numbers_of e.1) (listed_numbers (insert_entry key_cmp es k v)) n (insert_old es k v n (All-tail IsEntry e es all) one d)
      ]
    ] refl

-- ---- the maximal ones of some sets
pub record AreListed (lists : List (List ℕ)) (seen : List TrackSetData) (es : List Entry) : Type 0 where
  pub entries : All IsEntry es
  pub within : All (λ e. Contains seen e.1 × IsMaximalAmong lists (numbers_of e.1)) es
  pub all : (set : TrackSetData) → Contains seen set → IsMaximalAmong lists (numbers_of set) → Contains (listed_numbers es) (numbers_of set)
  pub ordered : IsStrictlySortedBy key_cmp (keys_of es)

pub listed_none : (lists : List (List ℕ)) (es : List Entry) → es ≡ [] → IsStrictlySortedBy key_cmp (keys_of es) → AreListed lists [] es
listed_none lists es e o = subst (AreListed lists []) (sym e) record {
  entries = All-nil IsEntry;
  within = All-nil (λ e. Contains [] e.1 × IsMaximalAmong lists (numbers_of e.1));
  all = λ set c m. absurd (in_none set c);
  ordered = subst (λ l. IsStrictlySortedBy key_cmp (keys_of l)) e o;
}

wider : (lists : List (List ℕ)) (seen : List TrackSetData) (set : TrackSetData) (es : List Entry) → All (λ e. Contains seen e.1 × IsMaximalAmong lists (numbers_of e.1)) es → All (λ e. Contains (seen ++ set ∷ []) e.1 × IsMaximalAmong lists (numbers_of e.1)) es
wider lists seen set es all = All-weaker (λ e. Contains seen e.1 × IsMaximalAmong lists (numbers_of e.1)) (λ e. Contains (seen ++ set ∷ []) e.1 × IsMaximalAmong lists (numbers_of e.1)) (λ e p. (Contains-append_left seen (set ∷ []) e.1 p.0, p.1)) es all

pub listed_one : (lists : List (List ℕ)) (seen : List TrackSetData) (set : TrackSetData) (es fs : List Entry) (k : Vec ℕ Global) → k.items ≡ numbers_of set → IsMaximalAmong lists (numbers_of set) → fs ≡ insert_entry key_cmp es k set → IsStrictlySortedBy key_cmp (keys_of fs) → AreListed lists seen es → AreListed lists (seen ++ set ∷ []) fs
listed_one lists seen set es fs k one m is o h = subst (AreListed lists (seen ++ set ∷ [])) (sym is) record {
  entries = insert_all IsEntry es k set h.entries one (λ e p t. sym (exact_bytes k.items e.0.items t) ∙ one);
  within = insert_all (λ e. Contains (seen ++ set ∷ []) e.1 × IsMaximalAmong lists (numbers_of e.1)) es k set (wider lists seen set es h.within) (Contains-push seen set, m) (λ e p t. (Contains-push seen set, m));
  all = λ other c n. elim (Contains-push_cases seen set other c) [
    | inl d ↦ insert_old es k set (numbers_of other) h.entries one (h.all other d n)
    | inr e ↦ subst (λ s. Contains (listed_numbers (insert_entry key_cmp es k set)) (numbers_of s)) e (insert_new es k set)
  ];
  ordered = subst (λ l. IsStrictlySortedBy key_cmp (keys_of l)) is o;
}

pub listed_not : (lists : List (List ℕ)) (seen : List TrackSetData) (set : TrackSetData) (es : List Entry) → (IsMaximalAmong lists (numbers_of set) → ⊥) → AreListed lists seen es → AreListed lists (seen ++ set ∷ []) es
listed_not lists seen set es never h = record {
  entries = h.entries;
  within = wider lists seen set es h.within;
  all = λ other c n. elim (Contains-push_cases seen set other c) [
    | inl d ↦ h.all other d n
    | inr e ↦ absurd (never (subst (λ s. IsMaximalAmong lists (numbers_of s)) (sym e) n))
  ];
  ordered = h.ordered;
}

-- ---- what is listed at the end
below_all : (k : Vec ℕ Global) (n : List ℕ) (es : List Entry) → k.items ≡ n → All IsEntry es → AllByRecursion (λ y. key_cmp k y ≡ Less) (keys_of es) → AllByRecursion (λ y. slice_cmp nat_cmp n y ≡ Less) (listed_numbers es)
below_all k n [] e all b = b
below_all k n (f ∷ es) e all b =
    let same : f.0.items ≡ numbers_of f.1 = All-head IsEntry f es all in
    let one : slice_cmp nat_cmp n (numbers_of f.1) ≡ Less = rw (← e, ← same) b.0 in
    (one, below_all k n es e (All-tail IsEntry f es all) b.1)

pub rising_numbers : (es : List Entry) → All IsEntry es → IsStrictlySortedBy key_cmp (keys_of es) → IsStrictlySortedBy (slice_cmp nat_cmp) (listed_numbers es)
unfolding IsStrictlySortedBy
rising_numbers [] all o = o
rising_numbers (e ∷ es) all o = (below_all e.0 (numbers_of e.1) es (All-head IsEntry e es all) (All-tail IsEntry e es all) o.0, rising_numbers es (All-tail IsEntry e es all) o.1)

-- ---- what rises has nothing twice
never_below_itself : (n : List ℕ) → slice_cmp nat_cmp n n ≡ Less → ⊥
never_below_itself n p =
    let flipped : slice_cmp nat_cmp n n ≡ ordering_reverse (slice_cmp nat_cmp n n) = nat_list_cmp_total.antisymm n n in
    let greater : slice_cmp nat_cmp n n ≡ Greater = flipped ∙ ap ordering_reverse p in
    let clash : Less ≡ Greater = sym p ∙ greater in
    cc

pub once_each : (sets : List TrackSetData) → IsStrictlySortedBy (slice_cmp nat_cmp) (map numbers_of sets) → EachTwo (λ one other. one ≡ other → ⊥) sets
once_each sets o = λ i j d ij jl e.
    let a = get_or-map numbers_of sets i d (numbers_of d) (omega arith) in
    let b = get_or-map numbers_of sets j d (numbers_of d) jl in
    let below : slice_cmp nat_cmp (numbers_of (get_or sets i d)) (numbers_of (get_or sets j d)) ≡ Less =
    rw (← a, ← b) (Less-from_sorted (slice_cmp nat_cmp) (map numbers_of sets) i j (numbers_of d) o ij (omega (arith, jl, length-map sets numbers_of))) in
    never_below_itself (numbers_of (get_or sets i d)) (subst (λ s. slice_cmp nat_cmp (numbers_of (get_or sets i d)) (numbers_of s) ≡ Less) (sym e) below)

of_value : (P : TrackSetData → Type 0) (es : List Entry) (set : TrackSetData) → All (λ e. P e.1) es → Contains (values_of es) set → P set
of_value P [] set all c = absurd (in_none set c)
of_value P (e ∷ es) set all c = elim (front_or_rest e.1 (values_of es) set c) [
  | inl f ↦ subst P f (All-head (λ e. P e.1) e es all)
  | inr d ↦ of_value P es set (All-tail (λ e. P e.1) e es all) d
]

pub of_numbers : (sets : List TrackSetData) (n : List ℕ) (d : TrackSetData) → Contains (map numbers_of sets) n → (set : TrackSetData) × Contains sets set × (numbers_of set ≡ n)
of_numbers sets n d c =
    let l : c.0 < length sets = simp length-map at c.1 in
    let e : get_or (map numbers_of sets) c.0 n ≡ numbers_of (get_or sets c.0 d) = get_or-map numbers_of sets c.0 d n l in
    (get_or sets c.0 d, Contains-get_or sets c.0 d l, sym e ∙ c.2)

pub listed_end : (lists : List (List ℕ)) (seen : List TrackSetData) (es : List Entry) → AreKnownByNumbers seen → AreListed lists seen es → (set : TrackSetData) → Contains (values_of es) set ↔ (Contains seen set × IsMaximalAmong lists (numbers_of set))
listed_end lists seen es known h set = (
  λ c. of_value (λ s. Contains seen s × IsMaximalAmong lists (numbers_of s)) es set h.within c,
  λ p.
      let w = of_numbers (values_of es) (numbers_of set) set (h.all set p.0 p.1) in
      let other : Contains seen w.0 = (of_value (λ s. Contains seen s × IsMaximalAmong lists (numbers_of s)) es w.0 h.within w.1).0 in
      let same : w.0 ≡ set = known w.0 set other p.0 w.2 in
      subst (Contains (values_of es)) same w.1,
)
