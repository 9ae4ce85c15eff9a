-- What the own box of an item covers.
use Rattle.std.proofs.Common.{◌≡◌, ℕ, ◌+◌, ◌<◌, ◌≤◌, ℤ, pos, Bool, true, cond, List, [], ◌∷◌, get_or, length, take, sym, ◌∙◌, ap, subst, arith}
use Rattle.std.specs.List.{All}
use Rattle.std.specs.Prelude.{nat_lt}
use Rattle.std.proofs.lemmas.Int.{ints}
use Rattle.std.proofs.lemmas.Bool.Decides.{nat_tests}
use Rattle.std.proofs.lemmas.List.Elements.{All-cons, All-more, All-nil, All-weaker, at_read}
use Rattle.std.proofs.lemmas.List.FromFn.{get_or-map-range_with_len}
use Rattle.box_tree.specs.declared.bounds.Bounds.{Bounds}
use Rattle.box_tree.specs.Boxes.{Covers, end_on, end_or_zero, own_box, own_ends}
use Rattle.box_tree.specs.Nodes.{Lies}

own_end : (axes : ℕ) (ends : ℕ → ℤ) (axis : ℕ) → axes ≤ 8 → axis < axes → end_on (own_ends axes ends) axis ≡ ends axis
unfolding own_ends
own_end axes ends axis few within =
    let here : nat_lt axis axes ≡ true = grind (arith, nat_tests) in
    get_or-map-range_with_len (end_or_zero axes ends) 0 8 axis axis (pos 0) (omega arith) (omega arith) ∙ ap (λ (b : Bool). cond b (ends axis) (pos 0)) here

pub own_covers : (axes : ℕ) (low high : ℕ → ℤ) → axes ≤ 8 → Covers axes low high (own_box axes low high)
own_covers axes low high few = record {
  from = λ axis within. rw (own_end axes low axis few within) (omega (arith, ints));
  to = λ axis within. rw (own_end axes high axis few within) (omega (arith, ints));
}

-- an item that was read lies in a box that covers it
pub lies_read : {X : Type 0} (axes : ℕ) (lows highs : X → ℕ → ℤ) (items : List X) (place : ℕ) (x : X) (box : Bounds) → place < length items → x ≡ get_or items place x → Covers axes (lows x) (highs x) box → Lies axes lows highs items place box
lies_read axes lows highs items place x box within read covers = at_read items (λ y. Covers axes (lows y) (highs y) box) place x within read covers

-- the item of one more place lies in the box that grew by its own one
pub one_more_lies : {X : Type 0} (axes : ℕ) (lows highs : X → ℕ → ℤ) (items : List X) (places : List ℕ) (i : ℕ) (x : X) (before own after : Bounds)
    → axes ≤ 8
    → i < length places
    → get_or places i 0 < length items
    → x ≡ get_or items (get_or places i 0) x
    → own ≡ own_box axes (lows x) (highs x)
    → ((axes : ℕ) (low high : ℕ → ℤ) → axes ≤ 8 → Covers axes low high before → Covers axes low high after)
    → ((axes : ℕ) (low high : ℕ → ℤ) → axes ≤ 8 → Covers axes low high own → Covers axes low high after)
    → All (λ place. Lies axes lows highs items place before) (take i places)
    → All (λ place. Lies axes lows highs items place after) (take (i + 1) places)
one_more_lies {X} axes lows highs items places i x before own after few inside within read is one other lie =
    let covers : Covers axes (lows x) (highs x) own = subst (λ box. Covers axes (lows x) (highs x) box) (sym is) (own_covers axes (lows x) (highs x) few) in
    let here : Lies axes lows highs items (get_or places i 0) after = lies_read axes lows highs items (get_or places i 0) x after within read (other axes (lows x) (highs x) few covers) in
    let still : All (λ place. Lies axes lows highs items place after) (take i places) =
    All-weaker (λ place. Lies axes lows highs items place before) (λ place. Lies axes lows highs items place after) (λ place h d. one axes _ _ few (h d)) (take i places) lie in
    All-more (λ place. Lies axes lows highs items place after) places i 0 inside still here

-- an item alone lies in its own box
pub own_lies : {X : Type 0} (axes : ℕ) (lows highs : X → ℕ → ℤ) (items : List X) (place : ℕ) (x : X) (own : Bounds) → axes ≤ 8 → place < length items → x ≡ get_or items place x → own ≡ own_box axes (lows x) (highs x) → All (λ place. Lies axes lows highs items place own) (place ∷ [])
own_lies {X} axes lows highs items place x own few within read is =
    let covers : Covers axes (lows x) (highs x) own = subst (λ box. Covers axes (lows x) (highs x) box) (sym is) (own_covers axes (lows x) (highs x) few) in
    All-cons (λ place. Lies axes lows highs items place own) place [] (lies_read axes lows highs items place x own within read covers) (All-nil (λ place. Lies axes lows highs items place own))

-- an own box covers its item
pub own_is_cover : {X : Type 0} (axes : ℕ) (lows highs : X → ℕ → ℤ) (x : X) (own : Bounds) → axes ≤ 8 → own ≡ own_box axes (lows x) (highs x) → Covers axes (lows x) (highs x) own
own_is_cover {X} axes lows highs x own few is = subst (λ box. Covers axes (lows x) (highs x) box) (sym is) (own_covers axes (lows x) (highs x) few)
