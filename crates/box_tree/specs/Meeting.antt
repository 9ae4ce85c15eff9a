-- Points that stand at one place lie in boxes that meet (for the tests).
use Rattle.std.specs.Prelude.{◌≡◌, ℤ, ◌≤ℤ◌, Bool, true, false, ◌&&◌, refl}
use Rattle.std.proofs.Common.{lit<, ap, ◌∙◌, arith}
use Rattle.std.specs.Int.Signed.{le_z}
use Rattle.std.proofs.lemmas.Int.{ints}
use Rattle.box_tree.specs.declared.bounds.Bounds.{Bounds}
use Rattle.box_tree.specs.Boxes.{Covers, end_on}

-- two boxes meet on the first axis
abbrev pub boxes_meet : Bounds → Bounds → Bool
boxes_meet one other = le_z (end_on one.low 0) (end_on other.high 0) && le_z (end_on other.low 0) (end_on one.high 0)

-- two points stand at one place
abbrev pub are_at_one_place : ℤ → ℤ → Bool
are_at_one_place a b = le_z a b && le_z b a

both_true : (b c : Bool) → (b && c) ≡ true → (b ≡ true) × (c ≡ true)
both_true true c h = (refl, h)
both_true false c h = absurd (cc)

both : (b c : Bool) → b ≡ true → c ≡ true → (b && c) ≡ true
both b c p q = ap (λ x. x && c) p ∙ q

passed : (a b : ℤ) → le_z a b ≡ true → a ≤ℤ b
passed a b h = grind (arith, ints)

passes : (a b : ℤ) → a ≤ℤ b → le_z a b ≡ true
passes a b h = grind (arith, ints)

record At (point : ℤ) (box : Bounds) : Type 0 where
  from : end_on box.low 0 ≤ℤ point
  to : point ≤ℤ end_on box.high 0

at_of : (point : ℤ) (box : Bounds) → Covers 1 (λ axis. point) (λ axis. point) box → At point box
at_of point box h = record { from = h.from 0 (lit< tt); to = h.to 0 (lit< tt) }

one_side : (a b : ℤ) (one other : Bounds) → a ≤ℤ b → At a one → At b other → le_z (end_on one.low 0) (end_on other.high 0) ≡ true
one_side a b one other h p q = let from = p.from in let to = q.to in passes (end_on one.low 0) (end_on other.high 0) (omega (arith, ints))

pub meeting_loses_nothing : (a b : ℤ) (one other : Bounds) → are_at_one_place a b ≡ true → Covers 1 (λ axis. a) (λ axis. a) one → Covers 1 (λ axis. b) (λ axis. b) other → boxes_meet one other ≡ true
meeting_loses_nothing a b one other w in_one in_other =
    let parts = both_true (le_z a b) (le_z b a) w in
    let p = at_of a one in_one in
    let q = at_of b other in_other in
    both (le_z (end_on one.low 0) (end_on other.high 0)) (le_z (end_on other.low 0) (end_on one.high 0)) (one_side a b one other (passed a b parts.0) p q) (one_side b a other one (passed b a parts.1) q p)

pub three_lose_nothing : (a b c : ℤ) (one other third : Bounds) → (are_at_one_place a b && (are_at_one_place a c && are_at_one_place b c)) ≡ true → Covers 1 (λ axis. a) (λ axis. a) one → Covers 1 (λ axis. b) (λ axis. b) other → Covers 1 (λ axis. c) (λ axis. c) third → (boxes_meet one other && (boxes_meet one third && boxes_meet other third)) ≡ true
three_lose_nothing a b c one other third w in_one in_other in_third =
    let outer = both_true (are_at_one_place a b) (are_at_one_place a c && are_at_one_place b c) w in
    let inner = both_true (are_at_one_place a c) (are_at_one_place b c) outer.1 in
    both (boxes_meet one other) (boxes_meet one third && boxes_meet other third) (meeting_loses_nothing a b one other outer.0 in_one in_other)
    (both (boxes_meet one third) (boxes_meet other third) (meeting_loses_nothing a c one third inner.0 in_one in_third) (meeting_loses_nothing b c other third inner.1 in_other in_third))
