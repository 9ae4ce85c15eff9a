-- Positions on one axis of the sky over some days are met by a quadratic of the time, whose
-- coefficients are whole numbers over one denominator.
use Rattle.std.specs.Prelude.{◌≡◌, ℤ, pos, ◌+ℤ◌, ◌-ℤ◌, ◌*ℤ◌, ◌≤ℤ◌, ◌<ℤ◌, neg_ℤ, List}
use Rattle.std.specs.List.{All}

-- a position, in 10^-6 degree, at a time, in ticks; both are counted from those of a first point
pub record Point : Type 0 where
  pub time : ℤ
  pub position : ℤ

-- at the time s its value is (p + v*s + q*s^2) / d
pub record Quadratic : Type 0 where
  pub p : ℤ
  pub v : ℤ
  pub q : ℤ
  pub d : ℤ

-- x is at most `bound` in absolute value
abbrev pub IsWithin : ℤ → ℤ → Type 0
IsWithin bound x = (neg_ℤ bound ≤ℤ x) × (x ≤ℤ bound)

-- how far the quadratic lies above the point, times its denominator
abbrev pub residual : Quadratic → Point → ℤ
residual f x = ((f.p +ℤ (f.v *ℤ x.time)) +ℤ (f.q *ℤ (x.time *ℤ x.time))) -ℤ (x.position *ℤ f.d)

-- the quadratic is at most `tol` away from the point
abbrev pub Passes : ℤ → Quadratic → Point → Type 0
Passes tol f x = IsWithin (tol *ℤ f.d) (residual f x)

-- its acceleration, twice its leading coefficient, is at most `acc`, in units per day squared; a day has 10^6 ticks
abbrev pub IsAdmitted : ℤ → Quadratic → Type 0
IsAdmitted acc f = (pos 0 <ℤ f.d) × IsWithin (acc *ℤ f.d) (pos 2000000000000 *ℤ f.q)

-- some admitted quadratic passes all the points
abbrev pub Admits : ℤ → ℤ → List Point → Type 0
Admits acc tol xs = (f : Quadratic) × IsAdmitted acc f × All (Passes tol f) xs

-- some quadratic with the leading coefficient a/b passes all the points
abbrev pub PassesWith : ℤ → ℤ → ℤ → List Point → Type 0
PassesWith tol a b xs = (f : Quadratic) × (pos 0 <ℤ f.d) × (f.q *ℤ b ≡ a *ℤ f.d) × All (Passes tol f) xs
