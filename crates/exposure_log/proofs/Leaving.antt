-- Numbered that leave: those of some places go, with the detections of their numbers.
use Rattle.std.proofs.Common.{◌≡◌, ℕ, ◌+◌, ◌<◌, ◌==◌, ℤ, Bool, true, false, not, ◌&&◌, cond, Option, Some, None, List, [], ◌∷◌, length, get_or, map, refl, sym, ap, ◌∙◌, arith, zero, suc, inl, inr, eq-eqb}
use Rattle.std.specs.List.{list_any, slice_index, Contains, All, filter, sum_by}
use Rattle.std.specs.declared.cmp.Ordering.TheVariants.{Less}
use Rattle.std.proofs.lemmas.Bool.{cases_Bool, eqb-true, or_cases, and_parts, and_from, not_from_true, not_from_false, cond-true, cond-false}
use Rattle.std.proofs.lemmas.List.Elements.{All-head, All-tail, All-filter, filter_passes}
use Rattle.std.proofs.lemmas.List.Kept.{AllPairs-filter}
use Rattle.std.proofs.lemmas.List.Sums.{sum_by-cons}
use Rattle.miti_text.specs.Observation.{Observation}
use Rattle.exposure_log.specs.declared.numbered.NumberedExposure.{NumberedExposure}
use Rattle.number_register.specs.Numbering.{slot, count_held}
use Rattle.exposure_log.specs.Numbered.{entries_of, exposure_of, numbered_cmp, IsNumbered, AreListed}
use Rattle.exposure_log.proofs.HeldList.{any_at}

abbrev Slots : Type 0
Slots = List (Option Observation)

abbrev among : ℕ → List ℕ → Bool
among k numbers = list_any (λ n. n == k) numbers

-- an exposure stays by its place
abbrev pub stays : (ℤ → List ℕ → Bool) → NumberedExposure → Bool
stays keep g = keep g.epoch g.site

-- the number is that of an exposure that leaves
abbrev pub gone : (ℤ → List ℕ → Bool) → List NumberedExposure → ℕ → Bool
gone keep listed n = list_any (λ g. not (stays keep g) && among n g.numbers.items) listed

pub any_found : {X : Type 0} (q : X → Bool) (xs : List X) → list_any q xs ≡ true → (k : ℕ) × ((k < length xs) × ((d : X) → q (get_or xs k d) ≡ true))
any_found q [] h = cc
any_found q (x ∷ xs) h = elim (or_cases (q x) (list_any q xs) h) [
  | inl y ↦ (0, (omega arith, λ d. y))
  | inr y ↦ let there = any_found q xs y in (suc there.0, (omega (arith, there.1.0), there.1.1))
]

pub among_index : (ns : List ℕ) (n : ℕ) → among n ns ≡ true → (k : ℕ) × ((k < length ns) × (slice_index ns k ≡ n))
among_index ns n h = let there = any_found (λ k. k == n) ns h in (there.0, (there.1.0, eqb-true (get_or ns there.0 0) n (there.1.1 0)))

-- what an exposure's number has
pub in_numbered : (slots : Slots) (g : NumberedExposure) → IsNumbered slots g → (n : ℕ) → among n g.numbers.items ≡ true → (d : Observation) × ((slot slots n ≡ Some d) × (d.epoch ≡ g.epoch) × (d.site ≡ g.site))
in_numbered slots g is n h =
    let there = among_index g.numbers.items n h in
    let d = is.held there.0 there.1.0 in
    (d.0, (ap (slot slots) (sym there.1.1) ∙ d.1, d.2, d.3))

same_some : (d e : Observation) → Some d ≡ Some e → d ≡ e
same_some d e h = cc

-- two exposures with one number stand at one place
pub one_place : (slots : Slots) (g h : NumberedExposure) → IsNumbered slots g → IsNumbered slots h → (n : ℕ) → among n g.numbers.items ≡ true → among n h.numbers.items ≡ true → (g.epoch ≡ h.epoch) × (g.site ≡ h.site)
one_place slots g h ig ih n x y =
    let d = in_numbered slots g ig n x in
    let e = in_numbered slots h ih n y in
    let same = same_some d.0 e.0 (sym d.1.0 ∙ e.1.0) in
    (sym d.1.1 ∙ (ap (λ (o : Observation). o.epoch) same ∙ e.1.1), sym d.1.2 ∙ (ap (λ (o : Observation). o.site) same ∙ e.1.2))

not_gone : (slots : Slots) (listed : List NumberedExposure) (keep : ℤ → List ℕ → Bool) → All (IsNumbered slots) listed → (g : NumberedExposure) → IsNumbered slots g → stays keep g ≡ true → (n : ℕ) → among n g.numbers.items ≡ true → gone keep listed n ≡ false
not_gone slots listed keep all g is stay n h = elim (cases_Bool (gone keep listed n)) [
  | inl y ↦
      let there = any_found (λ (x : NumberedExposure). not (stays keep x) && among n x.numbers.items) listed y in
      let parts = and_parts (not (stays keep (get_or listed there.0 g))) (among n (get_or listed there.0 g).numbers.items) (there.1.1 g) in
      let places = one_place slots (get_or listed there.0 g) g (all there.0 g there.1.0) is n parts.1 h in
      let same : stays keep (get_or listed there.0 g) ≡ stays keep g = ap (λ (e : ℤ). keep e (get_or listed there.0 g).site) places.0 ∙ ap (keep g.epoch) places.1 in
      let no : not (stays keep (get_or listed there.0 g)) ≡ false = not_from_true (stays keep (get_or listed there.0 g)) (same ∙ stay) in
      cc
  | inr f ↦ f
]

get_same : (ns : List ℕ) (k : ℕ) → k < length ns → get_or ns k (slice_index ns k) ≡ slice_index ns k
get_same [] k h = absurd (omega arith)
get_same (n ∷ ns) zero h = refl
get_same (n ∷ ns) (suc k) h = get_same ns k (omega arith)

pub among_at : (ns : List ℕ) (k : ℕ) → k < length ns → among (slice_index ns k) ns ≡ true
among_at ns k h = any_at (λ n. n == slice_index ns k) ns k (slice_index ns k) h (get_same ns k h) (eq-eqb (slice_index ns k) (slice_index ns k) refl)

-- ---- what stays

pub same_entries : (slots slots' : Slots) (ns : List ℕ) → ((k : ℕ) → k < length ns → slot slots' (slice_index ns k) ≡ slot slots (slice_index ns k)) → entries_of slots' ns ≡ entries_of slots ns
same_entries slots slots' [] h = refl
same_entries slots slots' (n ∷ ns) h = rw (h 0 (omega arith), same_entries slots slots' ns (λ k l. h (suc k) (omega arith))) refl

pub kept_numbered : (slots slots' : Slots) (g : NumberedExposure) → IsNumbered slots g → ((k : ℕ) → k < length g.numbers.items → slot slots' (slice_index g.numbers.items k) ≡ slot slots (slice_index g.numbers.items k)) → IsNumbered slots' g
kept_numbered slots slots' g is same = record {
  some = is.some;
  epoch_in_range = is.epoch_in_range;
  held = λ k h. let d = is.held k h in (d.0, same k h ∙ d.1, d.2, d.3);
  by_id = λ j k d e l h x y. is.by_id j k d e l h (sym (same j (omega (arith, l, h))) ∙ x) (sym (same k h) ∙ y);
}

never : (d : Observation) → None ≡ Some d → ⊥
never d h = cc

pub clash : (held : Option Observation) (d : Observation) → held ≡ Some d → held ≡ None → ⊥
clash held d x y = let no : None ≡ Some d = sym y ∙ x in never d no

module _ (slots slots' : Slots) (listed : List NumberedExposure) (keep : ℤ → List ℕ → Bool) (a : AreListed slots listed)
    (says : (n : ℕ) → slot slots' n ≡ cond (gone keep listed n) None (slot slots n)) where
  same_slot : (g : NumberedExposure) → IsNumbered slots g → stays keep g ≡ true → (k : ℕ) → k < length g.numbers.items → slot slots' (slice_index g.numbers.items k) ≡ slot slots (slice_index g.numbers.items k)
  same_slot g is stay k h =
      let no = not_gone slots listed keep a.each g is stay (slice_index g.numbers.items k) (among_at g.numbers.items k h) in
      says (slice_index g.numbers.items k) ∙ (rw no refl)

  filtered : (gs : List NumberedExposure) → All (IsNumbered slots) gs → map (exposure_of slots') (filter (stays keep) gs) ≡ filter (λ x. keep x.epoch x.site) (map (exposure_of slots) gs)
  filtered [] all = refl
  filtered (g ∷ gs) all = elim (cases_Bool (stays keep g)) [
    | inl y ↦
        let same = same_entries slots slots' g.numbers.items (same_slot g (All-head (IsNumbered slots) g gs all) y) in
        rw (y, same, filtered gs (All-tail (IsNumbered slots) g gs all)) refl
    | inr f ↦ rw f (filtered gs (All-tail (IsNumbered slots) g gs all))
  ]

  pub exposures_left : map (exposure_of slots') (filter (stays keep) listed) ≡ filter (λ x. keep x.epoch x.site) (map (exposure_of slots) listed)
  exposures_left = filtered listed a.each

  in_filter : (gs : List NumberedExposure) (k : ℕ) (g : NumberedExposure) → k < length gs → get_or gs k g ≡ g → stays keep g ≡ true → Contains (filter (stays keep) gs) g
  in_filter [] k g h e t = absurd (omega arith)
  in_filter (x ∷ xs) zero g h e t =
      let here : stays keep x ≡ true = rw e t in
      rw here (0, omega arith, e)
  in_filter (x ∷ xs) (suc k) g h e t =
      let there = in_filter xs k g (omega arith) e t in
      elim (cases_Bool (stays keep x)) [
        | inl y ↦ rw y (suc there.0, omega (arith, there.1), there.2)
        | inr f ↦ rw f there
      ]

  split_sum : (gs : List NumberedExposure) → sum_by (λ g. length g.numbers.items) (filter (stays keep) gs) + sum_by (λ g. length g.numbers.items) (filter (λ g. not (stays keep g)) gs) ≡ sum_by (λ g. length g.numbers.items) gs
  split_sum [] = refl
  split_sum (g ∷ gs) = elim (cases_Bool (stays keep g)) [
    | inl y ↦ rw y (omega (arith, split_sum gs, sum_by-cons (λ (x : NumberedExposure). length x.numbers.items) g gs, sum_by-cons (λ (x : NumberedExposure). length x.numbers.items) g (filter (stays keep) gs)))
    | inr f ↦ rw f (omega (arith, split_sum gs, sum_by-cons (λ (x : NumberedExposure). length x.numbers.items) g gs, sum_by-cons (λ (x : NumberedExposure). length x.numbers.items) g (filter (λ x. not (stays keep x)) gs)))
  ]

  still : (n : ℕ) (g : NumberedExposure) → Contains listed g → Contains g.numbers.items n → gone keep listed n ≡ false → stays keep g ≡ true
  still n g there here e = elim (cases_Bool (stays keep g)) [
    | inl y ↦ y
    | inr f ↦
        let has : among n g.numbers.items ≡ true = any_at (λ k. k == n) g.numbers.items here.0 n here.1 here.2 (eq-eqb n n refl) in
        let both : (not (stays keep g) && among n g.numbers.items) ≡ true = and_from (not (stays keep g)) (among n g.numbers.items) (not_from_false (stays keep g) f) has in
        let yes = any_at (λ (x : NumberedExposure). not (stays keep x) && among n x.numbers.items) listed there.0 g there.1 there.2 both in
        cc
  ]

  left_in : (n : ℕ) (d : Observation) → slot slots' n ≡ Some d → (slot slots n ≡ Some d) × (gone keep listed n ≡ false)
  left_in n d held = elim (cases_Bool (gone keep listed n)) [
    | inl y ↦ absurd (clash (slot slots' n) d held (says n ∙ cond-true (gone keep listed n) None (slot slots n) y))
    | inr f ↦ (sym (says n ∙ cond-false (gone keep listed n) None (slot slots n) f) ∙ held, f)
  ]

  left_numbered : (n : ℕ) (g : NumberedExposure) → Contains listed g → Contains g.numbers.items n → gone keep listed n ≡ false → Contains (filter (stays keep) listed) g
  left_numbered n g there here f = in_filter listed there.0 g there.1 there.2 (still n g there here f)

  pub listed_left : count_held slots' + sum_by (λ g. length g.numbers.items) (filter (λ g. not (stays keep g)) listed) ≡ count_held slots → AreListed slots' (filter (stays keep) listed)
  listed_left count =
      let parts = split_sum listed in
      record {
        in_order = AllPairs-filter (λ g h. numbered_cmp h.epoch h.site g ≡ Less) (stays keep) listed a.in_order;
        each = λ k d h. All-filter (stays keep) (λ g. stays keep g ≡ true → IsNumbered slots' g) listed (λ j e l stay. kept_numbered slots slots' (get_or listed j e) (a.each j e l) (same_slot (get_or listed j e) (a.each j e l) stay)) k d h (filter_passes (stays keep) listed k d h);
        none_else = λ n d held.
            let was = left_in n d held in
            let there = a.none_else n d was.0 in
            (there.0, left_numbered n there.0 there.1 there.2 was.1, there.2);
        count = omega (arith, count, parts, a.count);
        few = omega (arith, count, a.few);
      }
