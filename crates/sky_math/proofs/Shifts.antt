-- Points counted from another origin are passed by a quadratic with the same leading coefficient.
use Rattle.std.proofs.Common.{◌≡◌, arith}
use Rattle.std.specs.Prelude.{ℤ, ◌+ℤ◌, ◌-ℤ◌, ◌*ℤ◌}
use Rattle.sky_math.proofs.Order.{linear}
use Rattle.sky_math.proofs.Ring.{ring}
use Rattle.sky_math.specs.Quadratics.{Point, Quadratic, Passes}
use Rattle.sky_math.specs.Triples.{Suits}

-- the quadratic as seen from the time c and the position h
abbrev pub shifted : Quadratic → ℤ → ℤ → Quadratic
shifted f c h = record { p = ((f.p +ℤ (f.v *ℤ c)) +ℤ (f.q *ℤ (c *ℤ c))) -ℤ (h *ℤ f.d); v = f.v +ℤ ((f.q *ℤ c) +ℤ (f.q *ℤ c)); q = f.q; d = f.d }

abbrev pub moved_point : Point → ℤ → ℤ → Point
moved_point x c h = record { time = x.time -ℤ c; position = x.position -ℤ h }

residual_moved : (p v q d s y c h : ℤ) →
    (((((p +ℤ (v *ℤ c)) +ℤ (q *ℤ (c *ℤ c))) -ℤ (h *ℤ d)) +ℤ ((v +ℤ ((q *ℤ c) +ℤ (q *ℤ c))) *ℤ (s -ℤ c))) +ℤ (q *ℤ ((s -ℤ c) *ℤ (s -ℤ c)))) -ℤ ((y -ℤ h) *ℤ d)
    ≡ ((p +ℤ (v *ℤ s)) +ℤ (q *ℤ (s *ℤ s))) -ℤ (y *ℤ d)
residual_moved p v q d s y c h = simp ring (omega (arith, linear))

pub passes_moved : (tol : ℤ) (f : Quadratic) (x : Point) (c h : ℤ) → Passes tol f x → Passes tol (shifted f c h) (moved_point x c h)
passes_moved tol f x c h w = rw (residual_moved f.p f.v f.q f.d x.time x.position c h) w

-- what suits three points suits them wherever they are counted from
pub suits_unmoved : (tol a b : ℤ) (x y z : Point) (c h : ℤ) → Suits tol a b (moved_point x c h) (moved_point y c h) (moved_point z c h) → Suits tol a b x y z
suits_unmoved tol a b x y z c h s =
    let t1 : (y.time -ℤ c) -ℤ (x.time -ℤ c) ≡ y.time -ℤ x.time = omega (arith, linear) in
    let t2 : (z.time -ℤ c) -ℤ (y.time -ℤ c) ≡ z.time -ℤ y.time = omega (arith, linear) in
    let t3 : (z.time -ℤ c) -ℤ (x.time -ℤ c) ≡ z.time -ℤ x.time = omega (arith, linear) in
    let p1 : (y.position -ℤ h) -ℤ (x.position -ℤ h) ≡ y.position -ℤ x.position = omega (arith, linear) in
    let p2 : (z.position -ℤ h) -ℤ (y.position -ℤ h) ≡ z.position -ℤ y.position = omega (arith, linear) in
    rw (t1, t2, t3, p1, p2) at s
