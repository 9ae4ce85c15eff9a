-- Each loop over two spots narrows the slopes by what it has seen.
use Rattle.std.proofs.Common.{◌≡◌, ℕ, ◌+◌, ◌<◌, ℤ, List, length, get_or, sym, subst, arith}
use Rattle.std.specs.Prelude.{Option, Some, None}
use Rattle.std.proofs.lemmas.Bool.{cases_lt}
use Rattle.std.proofs.lemmas.List.{get_or_read}
use mathlib.Core.Logic.{inl, inr}
use Rattle.sky_math.specs.Lists.{EachTwo}
use Rattle.sky_units.specs.SpotData.{SpotData}
use Rattle.sky_units.specs.declared.axis.Axis.{Axis}
use Rattle.line_fit.specs.Lines.{least_slope, greatest_slope}
use Rattle.line_fit.specs.Slopes.{Holds, IsNarrowed, Suits, SuitsEarlier}
use Rattle.line_fit.specs.declared.slopes.Slopes.{Slopes}
use Rattle.line_fit.proofs.Bounds.{narrowed_then, narrowed_same}

-- two spots as read are those at their places
pub read_two : (R : SpotData → SpotData → Type 0) (spots : List SpotData) (i j : ℕ) (x y : SpotData) → i < j → j < length spots → x ≡ get_or spots i x → y ≡ get_or spots j y → EachTwo R spots → R x y
read_two R spots i j x y ij jn ex ey each =
    let r = each i j x ij jn in
    let y' : y ≡ get_or spots j x = get_or_read spots j y jn ey x in
    subst (λ (u : SpotData). R x u) (sym y') (subst (λ (u : SpotData). R u (get_or spots j x)) (sym ex) r)

-- a/b suits the spot at the place k and each before the place m
abbrev pub SuitsUpTo : Axis → ℤ → List SpotData → ℕ → ℕ → ℤ → ℤ → Type 0
SuitsUpTo axis tol spots k m a b = (i : ℕ) (d : SpotData) → i < m → Suits axis tol a b (get_or spots i d) (get_or spots k d)

-- a/b suits each two spots before the place m
abbrev pub SuitsBelow : Axis → ℤ → List SpotData → ℕ → ℤ → ℤ → Type 0
SuitsBelow axis tol spots m a b = (j : ℕ) → j < m → SuitsEarlier axis tol spots j a b

pub up_to_step : (axis : Axis) (tol : ℤ) (spots : List SpotData) (k i : ℕ) (x y : SpotData) (from left two : Slopes) (result : Option Slopes) →
    i < length spots → k < length spots → x ≡ get_or spots i x → y ≡ get_or spots k y → two.low ≡ least_slope axis tol (x, y) → two.high ≡ greatest_slope axis tol (x, y) →
    IsNarrowed from (SuitsUpTo axis tol spots k i) (Some left) → IsNarrowed left (Holds two) result → IsNarrowed from (SuitsUpTo axis tol spots k (i + 1)) result
up_to_step axis tol spots k i x y from left two result il kl ex ey el eh before step =
    narrowed_then from left (SuitsUpTo axis tol spots k i) (Holds two) (SuitsUpTo axis tol spots k (i + 1)) result before step
    (λ a b seen here m d lt. elim (cases_lt m i) as (λ _. Suits axis tol a b (get_or spots m d) (get_or spots k d)) [
      | inl l ↦ seen m d l
      | inr l ↦
          let e : i ≡ m = omega arith in
          let x' : x ≡ get_or spots i d = get_or_read spots i x il ex d in
          let y' : y ≡ get_or spots k d = get_or_read spots k y kl ey d in
          let s : Suits axis tol a b x y = rw (el, eh) at here in
          subst (λ (u : ℕ). Suits axis tol a b (get_or spots u d) (get_or spots k d)) e (subst (λ (u : SpotData). Suits axis tol a b (get_or spots i d) u) y' (subst (λ (u : SpotData). Suits axis tol a b u y) x' s))
    ])
    (λ a b all.
    let x' : x ≡ get_or spots i x = ex in
    let y' : y ≡ get_or spots k x = get_or_read spots k y kl ey x in
    let s = all i x (omega arith) in
    let s' : Suits axis tol a b x y = subst (λ (u : SpotData). Suits axis tol a b x u) (sym y') (subst (λ (u : SpotData). Suits axis tol a b u (get_or spots k x)) (sym x') s) in
    (λ m d lt. all m d (omega arith), rw (el, eh) s'))

-- nothing left before the end is nothing left
pub up_to_stop : (axis : Axis) (tol : ℤ) (spots : List SpotData) (k i : ℕ) (from : Slopes) → i < k → IsNarrowed from (SuitsUpTo axis tol spots k (i + 1)) None → IsNarrowed from (SuitsEarlier axis tol spots k) None
up_to_stop axis tol spots k i from ik n = λ a b p h w. n a b p h (λ m d lt. w m d (omega arith))

pub up_to_all : (axis : Axis) (tol : ℤ) (spots : List SpotData) (k i : ℕ) (from left : Slopes) → i ≡ k → IsNarrowed from (SuitsUpTo axis tol spots k i) (Some left) → IsNarrowed from (SuitsEarlier axis tol spots k) (Some left)
up_to_all axis tol spots k i from left e n = narrowed_same from (SuitsUpTo axis tol spots k i) (SuitsEarlier axis tol spots k) (Some left) n (λ a b h m d lt. h m d (omega arith)) (λ a b h m d lt. h m d (omega arith))

pub below_step : (axis : Axis) (tol : ℤ) (spots : List SpotData) (k : ℕ) (from left : Slopes) (result : Option Slopes) →
    IsNarrowed from (SuitsBelow axis tol spots k) (Some left) → IsNarrowed left (SuitsEarlier axis tol spots k) result → IsNarrowed from (SuitsBelow axis tol spots (k + 1)) result
below_step axis tol spots k from left result before step =
    narrowed_then from left (SuitsBelow axis tol spots k) (SuitsEarlier axis tol spots k) (SuitsBelow axis tol spots (k + 1)) result before step
    (λ a b seen here j lt. elim (cases_lt j k) as (λ _. SuitsEarlier axis tol spots j a b) [
      | inl l ↦ seen j l
      | inr l ↦ let e : k ≡ j = omega arith in subst (λ (u : ℕ). SuitsEarlier axis tol spots u a b) e here
    ])
    (λ a b all. (λ j lt. all j (omega arith), all k (omega arith)))

pub below_stop : (axis : Axis) (tol : ℤ) (spots : List SpotData) (k : ℕ) (from : Slopes) → k < length spots → IsNarrowed from (SuitsBelow axis tol spots (k + 1)) None → IsNarrowed from (λ a b. EachTwo (Suits axis tol a b) spots) None
below_stop axis tol spots k from kn n = λ a b p h w. n a b p h (λ j jk i d ij. w i j d ij (omega arith))

pub below_all : (axis : Axis) (tol : ℤ) (spots : List SpotData) (k : ℕ) (from left : Slopes) → k ≡ length spots → IsNarrowed from (SuitsBelow axis tol spots k) (Some left) → IsNarrowed from (λ a b. EachTwo (Suits axis tol a b) spots) (Some left)
below_all axis tol spots k from left e n =
    narrowed_same from (SuitsBelow axis tol spots k) (λ a b. EachTwo (Suits axis tol a b) spots) (Some left) n (λ a b h i j d ij jn. h j (omega arith) i d ij) (λ a b h j jk i d ij. h i j d ij (omega arith))
