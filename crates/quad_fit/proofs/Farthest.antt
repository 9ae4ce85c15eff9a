-- The search for the point farthest outside a curve.
use Rattle.std.proofs.Common.{◌≡◌, ℕ, ◌+◌, ◌≤◌, ◌<◌, ℤ, pos, ◌*ℤ◌, ◌<ℤ◌, List, length, take, get_or, refl, sym, subst}
use Rattle.std.specs.Prelude.{Option, Some, None, MatchOption}
use Rattle.std.specs.List.{All, Contains}
use Rattle.std.proofs.lemmas.List.{take_all}
use Rattle.std.proofs.lemmas.List.Elements.{All-more}
use mathlib.Core.Logic.{inl, inr}
use Rattle.sky_math.specs.Quadratics.{Point, IsWithin, Passes, residual}
use Rattle.quad_fit.specs.Curves.{CurveData, quadratic_of}
use Rattle.quad_fit.specs.References.{signed, IsFarther, IsOutsideOf}
use Rattle.quad_fit.specs.declared.exchange.Outside.{Outside}

-- what the search has found among the first points
abbrev pub SoFar : ℤ → CurveData → List Point → ℕ → Option Outside → Type 0
SoFar tol c xs i found = MatchOption found (All (Passes tol (quadratic_of c)) (take i xs)) (IsOutsideOf tol c xs)

new_outside : (tol : ℤ) (c : CurveData) (xs : List Point) (i : ℕ) (x : Point) (o : Outside) (n : ℕ) → i < length xs → x ≡ get_or xs i x → pos n ≡ tol *ℤ c.den →
    (o.mark ≡ x) × (pos n <ℤ signed o.above (residual (quadratic_of c) x)) → IsOutsideOf tol c xs o
new_outside tol c xs i x o n h e en k =
    let among : Contains xs x = (i, h, sym e) in
    let far : (tol *ℤ c.den) <ℤ signed o.above (residual (quadratic_of c) x) = rw en at k.1 in
    record { among = subst (Contains xs) (sym k.0) among; beyond = subst (λ (y : Point). (tol *ℤ c.den) <ℤ signed o.above (residual (quadratic_of c) y)) (sym k.0) far }

pub so_far_step : (tol : ℤ) (c : CurveData) (xs : List Point) (i : ℕ) (x : Point) (found new : Option Outside) (n : ℕ) → i < length xs → x ≡ get_or xs i x → pos n ≡ tol *ℤ c.den →
    SoFar tol c xs i found → IsFarther c x n found new → SoFar tol c xs (i + 1) new
so_far_step tol c xs i x None None n h e en before step =
    let here : Passes tol (quadratic_of c) x = subst (λ (m : ℤ). IsWithin m (residual (quadratic_of c) x)) en step.1 in
    All-more (Passes tol (quadratic_of c)) xs i x h before (subst (Passes tol (quadratic_of c)) e here)
so_far_step tol c xs i x (Some o) None n h e en before step = absurd (let bad = step.0 in cc)
so_far_step tol c xs i x None (Some o) n h e en before (inl k) = cc
so_far_step tol c xs i x None (Some o) n h e en before (inr k) = new_outside tol c xs i x o n h e en k
so_far_step tol c xs i x (Some p) (Some o) n h e en before (inl k) = let s : p ≡ o = cc in subst (IsOutsideOf tol c xs) s before
so_far_step tol c xs i x (Some p) (Some o) n h e en before (inr k) = new_outside tol c xs i x o n h e en k

pub so_far_all : (tol : ℤ) (c : CurveData) (xs : List Point) (i : ℕ) (found : Option Outside) → length xs ≤ i → SoFar tol c xs i found → MatchOption found (All (Passes tol (quadratic_of c)) xs) (IsOutsideOf tol c xs)
so_far_all tol c xs i None h all = subst (All (Passes tol (quadratic_of c))) (take_all i xs h) all
so_far_all tol c xs i (Some o) h is = is

-- where something was found the search may stop
pub so_far_found : (tol : ℤ) (c : CurveData) (xs : List Point) (i : ℕ) (found : Option Outside) → (found ≡ None → ⊥) → SoFar tol c xs i found → MatchOption found (All (Passes tol (quadratic_of c)) xs) (IsOutsideOf tol c xs)
so_far_found tol c xs i None h all = absurd (h refl)
so_far_found tol c xs i (Some o) h is = is
