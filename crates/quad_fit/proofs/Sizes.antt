-- The sums and products over marks fit their types, and are read from their bits as they are.
use Rattle.std.proofs.Common.{◌≡◌, ℕ, ◌+◌, ◌*◌, ◌≤◌, ◌^◌, ℤ, pos, neg_ℤ, ◌+ℤ◌, ◌-ℤ◌, ◌*ℤ◌, ◌≤ℤ◌, ◌<ℤ◌, to_z, of_z, w64, FitsSigned, arith, refl}
use mir.Syntax.{w128}
use Rattle.std.specs.Int.RustNames.{unsigned_abs}
use Rattle.std.proofs.lemmas.Int.{ints, to_z-of_z, by_lt_z}
use Rattle.sky_math.proofs.Order.{linear, mul_le, mul_positive, mul_not_negative, product_most}
use Rattle.sky_math.proofs.Ring.{ring}
use Rattle.sky_math.specs.Triples.{bend}
use Rattle.sky_units.specs.FracData.{IsFrac}
use Rattle.sky_units.specs.Ranges.{IsBetween}
use Rattle.quad_fit.specs.Curves.{IsCurve}
use Rattle.quad_fit.specs.MarkRanges.{IsMark}

-- a number as 64 bits hold it, and as 128 bits do
abbrev pub held : ℤ → ℤ
held n = to_z w64 (of_z w64 n)

abbrev pub held_wide : ℤ → ℤ
held_wide n = to_z w128 (of_z w128 n)

pub small : (a : ℤ) (m : ℕ) → unsigned_abs a ≤ m → m ≤ 9000000000000000000 → FitsSigned w64 a
small a m p q = omega (arith, ints)

pub wide : (a : ℤ) (m : ℕ) → unsigned_abs a ≤ m → m ≤ 10 ^ 33 → FitsSigned w128 a
wide a m p q = omega (arith, ints)

pub sum_most : (a b : ℤ) (m n : ℕ) → unsigned_abs a ≤ m → unsigned_abs b ≤ n → unsigned_abs (a +ℤ b) ≤ m + n
sum_most a b m n p q = omega (arith, ints)

pub difference_most : (a b : ℤ) (m n : ℕ) → unsigned_abs a ≤ m → unsigned_abs b ≤ n → unsigned_abs (a -ℤ b) ≤ m + n
difference_most a b m n p q = omega (arith, ints)

pub den_most : (d : ℤ) → IsBetween (pos 1) (pos (10 ^ 22)) d → unsigned_abs d ≤ 10 ^ 22
den_most d h = omega (arith, ints)

-- ---- the residual of a curve at a mark
abbrev Bent : ℤ → ℤ → ℤ → ℤ
Bent q g t = held_wide (held q) *ℤ held_wide (held (held t -ℤ held g))

abbrev Sloped : (v q g t : ℤ) → ℤ
Sloped v q g t = held_wide v +ℤ held_wide (Bent q g t)

abbrev Risen : (v q f g t : ℤ) → ℤ
Risen v q f g t = held_wide (Sloped v q g t) *ℤ held_wide (held (held t -ℤ held f))

-- a residual as code computes it: no step of it overflows, and it is what it should be
pub record ResidualTerms (s v q d f g t y : ℤ) : Type 0 where
  pub bent_fits : FitsSigned w128 (Bent q g t)
  pub sloped_fits : FitsSigned w128 (Sloped v q g t)
  pub risen_fits : FitsSigned w128 (Risen v q f g t)
  pub sum_fits : FitsSigned w128 (held_wide s +ℤ held_wide (Risen v q f g t))
  pub below_fits : FitsSigned w128 (held_wide (held y) *ℤ held_wide d)
  pub result_fits : FitsSigned w128 (held_wide (held_wide s +ℤ held_wide (Risen v q f g t)) -ℤ held_wide (held_wide (held y) *ℤ held_wide d))
  pub is : held_wide (held_wide (held_wide s +ℤ held_wide (Risen v q f g t)) -ℤ held_wide (held_wide (held y) *ℤ held_wide d)) ≡ (s +ℤ ((v +ℤ (q *ℤ (t -ℤ g))) *ℤ (t -ℤ f))) -ℤ (y *ℤ d)
  pub result_size : unsigned_abs ((s +ℤ ((v +ℤ (q *ℤ (t -ℤ g))) *ℤ (t -ℤ f))) -ℤ (y *ℤ d)) ≤ 10 ^ 32

pub residual_terms : (s v q d f g t y : ℤ) → IsCurve s v q d f g → IsMark t y → ResidualTerms s v q d f g t y
residual_terms s v q d f g t y c m =
    let hs : FitsSigned w128 s = wide s (10 ^ 30) c.start_size (omega arith) in
    let hv : FitsSigned w128 v = wide v (2 * 10 ^ 23) c.slope_size (omega arith) in
    let hq : FitsSigned w64 q = small q (6 * 10 ^ 15) c.bend_size (omega arith) in
    let hq' : FitsSigned w128 q = wide q (6 * 10 ^ 15) c.bend_size (omega arith) in
    let dm : unsigned_abs d ≤ 10 ^ 22 = den_most d c.den_range in
    let hd : FitsSigned w128 d = wide d (10 ^ 22) dm (omega arith) in
    let hf : FitsSigned w64 f = small f 30000000 c.first_size (omega arith) in
    let hg : FitsSigned w64 g = small g 30000000 c.second_size (omega arith) in
    let tm : unsigned_abs t ≤ 30000000 = omega (arith, ints) in
    let ym : unsigned_abs y ≤ 90000000 = omega (arith, ints) in
    let ht : FitsSigned w64 t = small t 30000000 tm (omega arith) in
    let hy : FitsSigned w64 y = small y 90000000 ym (omega arith) in
    let hy' : FitsSigned w128 y = wide y 90000000 ym (omega arith) in
    let wm : unsigned_abs (t -ℤ g) ≤ 60000000 = difference_most t g 30000000 30000000 tm c.second_size in
    let um : unsigned_abs (t -ℤ f) ≤ 60000000 = difference_most t f 30000000 30000000 tm c.first_size in
    let hw : FitsSigned w64 (t -ℤ g) = small (t -ℤ g) 60000000 wm (omega arith) in
    let hw' : FitsSigned w128 (t -ℤ g) = wide (t -ℤ g) 60000000 wm (omega arith) in
    let hu : FitsSigned w64 (t -ℤ f) = small (t -ℤ f) 60000000 um (omega arith) in
    let hu' : FitsSigned w128 (t -ℤ f) = wide (t -ℤ f) 60000000 um (omega arith) in
    let bm : unsigned_abs (q *ℤ (t -ℤ g)) ≤ 360000000000000000000000 = product_most q (t -ℤ g) (6 * 10 ^ 15) 60000000 c.bend_size wm in
    let hb : FitsSigned w128 (q *ℤ (t -ℤ g)) = wide (q *ℤ (t -ℤ g)) 360000000000000000000000 bm (omega arith) in
    let im : unsigned_abs (v +ℤ (q *ℤ (t -ℤ g))) ≤ 560000000000000000000000 = sum_most v (q *ℤ (t -ℤ g)) (2 * 10 ^ 23) 360000000000000000000000 c.slope_size bm in
    let hi : FitsSigned w128 (v +ℤ (q *ℤ (t -ℤ g))) = wide (v +ℤ (q *ℤ (t -ℤ g))) 560000000000000000000000 im (omega arith) in
    let rm : unsigned_abs ((v +ℤ (q *ℤ (t -ℤ g))) *ℤ (t -ℤ f)) ≤ 33600000000000000000000000000000 = product_most (v +ℤ (q *ℤ (t -ℤ g))) (t -ℤ f) 560000000000000000000000 60000000 im um in
    let hr : FitsSigned w128 ((v +ℤ (q *ℤ (t -ℤ g))) *ℤ (t -ℤ f)) = wide ((v +ℤ (q *ℤ (t -ℤ g))) *ℤ (t -ℤ f)) 33600000000000000000000000000000 rm (omega arith) in
    let am : unsigned_abs (s +ℤ ((v +ℤ (q *ℤ (t -ℤ g))) *ℤ (t -ℤ f))) ≤ 34600000000000000000000000000000 = sum_most s ((v +ℤ (q *ℤ (t -ℤ g))) *ℤ (t -ℤ f)) (10 ^ 30) 33600000000000000000000000000000 c.start_size rm in
    let ha : FitsSigned w128 (s +ℤ ((v +ℤ (q *ℤ (t -ℤ g))) *ℤ (t -ℤ f))) = wide (s +ℤ ((v +ℤ (q *ℤ (t -ℤ g))) *ℤ (t -ℤ f))) 34600000000000000000000000000000 am (omega arith) in
    let lm : unsigned_abs (y *ℤ d) ≤ 900000000000000000000000000000 = product_most y d 90000000 (10 ^ 22) ym dm in
    let hl : FitsSigned w128 (y *ℤ d) = wide (y *ℤ d) 900000000000000000000000000000 lm (omega arith) in
    let zm : unsigned_abs ((s +ℤ ((v +ℤ (q *ℤ (t -ℤ g))) *ℤ (t -ℤ f))) -ℤ (y *ℤ d)) ≤ 35500000000000000000000000000000 = difference_most (s +ℤ ((v +ℤ (q *ℤ (t -ℤ g))) *ℤ (t -ℤ f))) (y *ℤ d) 34600000000000000000000000000000 900000000000000000000000000000 am lm in
    let hz : FitsSigned w128 ((s +ℤ ((v +ℤ (q *ℤ (t -ℤ g))) *ℤ (t -ℤ f))) -ℤ (y *ℤ d)) = wide ((s +ℤ ((v +ℤ (q *ℤ (t -ℤ g))) *ℤ (t -ℤ f))) -ℤ (y *ℤ d)) 35500000000000000000000000000000 zm (omega arith) in
    record {
      bent_fits = simp to_z-of_z hb;
      sloped_fits = simp to_z-of_z hi;
      risen_fits = simp to_z-of_z hr;
      sum_fits = simp to_z-of_z ha;
      below_fits = simp to_z-of_z hl;
      result_fits = simp to_z-of_z hz;
      is = simp to_z-of_z refl;
      result_size = omega arith;
    }

-- ---- the bend of three points
-- a bend as code computes it: no step of it overflows, and it is what it should be
pub record BendTerms (xt xp yt yp zt zp : ℤ) : Type 0 where
  pub left_fits : FitsSigned w64 (held (held zp -ℤ held yp) *ℤ held (held yt -ℤ held xt))
  pub right_fits : FitsSigned w64 (held (held yp -ℤ held xp) *ℤ held (held zt -ℤ held yt))
  pub bend_fits : FitsSigned w64 (held (held (held zp -ℤ held yp) *ℤ held (held yt -ℤ held xt)) -ℤ held (held (held yp -ℤ held xp) *ℤ held (held zt -ℤ held yt)))
  pub is : held (held (held (held zp -ℤ held yp) *ℤ held (held yt -ℤ held xt)) -ℤ held (held (held yp -ℤ held xp) *ℤ held (held zt -ℤ held yt))) ≡ ((zp -ℤ yp) *ℤ (yt -ℤ xt)) -ℤ ((yp -ℤ xp) *ℤ (zt -ℤ yt))
  pub size : unsigned_abs (((zp -ℤ yp) *ℤ (yt -ℤ xt)) -ℤ ((yp -ℤ xp) *ℤ (zt -ℤ yt))) ≤ 5400000000000000

-- the two stretches of time add up to less than an arc may last
between : (a b : ℤ) (m n : ℕ) → unsigned_abs a ≤ 180000000 * m → unsigned_abs b ≤ 180000000 * n → m + n ≤ 30000000 → unsigned_abs (a -ℤ b) ≤ 5400000000000000
between a b m n p q r = omega (arith, ints)

pub bend_terms : (xt xp yt yp zt zp : ℤ) → IsMark xt xp → IsMark yt yp → IsMark zt zp → xt <ℤ yt → yt <ℤ zt → (zt -ℤ xt) <ℤ pos 30000000 → BendTerms xt xp yt yp zt zp
bend_terms xt xp yt yp zt zp x y z before after brief =
    let a : FitsSigned w64 xt = omega (arith, ints) in
    let b : FitsSigned w64 xp = omega (arith, ints) in
    let c : FitsSigned w64 yt = omega (arith, ints) in
    let d : FitsSigned w64 yp = omega (arith, ints) in
    let e : FitsSigned w64 zt = omega (arith, ints) in
    let f : FitsSigned w64 zp = omega (arith, ints) in
    let late : unsigned_abs (zp -ℤ yp) ≤ 180000000 = omega (arith, ints) in
    let early : unsigned_abs (yp -ℤ xp) ≤ 180000000 = omega (arith, ints) in
    let whole : unsigned_abs (yt -ℤ xt) + unsigned_abs (zt -ℤ yt) ≤ 30000000 = omega (arith, ints) in
    let g : FitsSigned w64 (zp -ℤ yp) = small (zp -ℤ yp) 180000000 late (omega arith) in
    let h : FitsSigned w64 (yt -ℤ xt) = small (yt -ℤ xt) 30000000 (omega arith) (omega arith) in
    let i : FitsSigned w64 (yp -ℤ xp) = small (yp -ℤ xp) 180000000 early (omega arith) in
    let j : FitsSigned w64 (zt -ℤ yt) = small (zt -ℤ yt) 30000000 (omega arith) (omega arith) in
    let left : unsigned_abs ((zp -ℤ yp) *ℤ (yt -ℤ xt)) ≤ 180000000 * unsigned_abs (yt -ℤ xt) = product_most (zp -ℤ yp) (yt -ℤ xt) 180000000 (unsigned_abs (yt -ℤ xt)) late (omega arith) in
    let right : unsigned_abs ((yp -ℤ xp) *ℤ (zt -ℤ yt)) ≤ 180000000 * unsigned_abs (zt -ℤ yt) = product_most (yp -ℤ xp) (zt -ℤ yt) 180000000 (unsigned_abs (zt -ℤ yt)) early (omega arith) in
    let both = between ((zp -ℤ yp) *ℤ (yt -ℤ xt)) ((yp -ℤ xp) *ℤ (zt -ℤ yt)) (unsigned_abs (yt -ℤ xt)) (unsigned_abs (zt -ℤ yt)) left right whole in
    let k : FitsSigned w64 ((zp -ℤ yp) *ℤ (yt -ℤ xt)) = small ((zp -ℤ yp) *ℤ (yt -ℤ xt)) 5400000000000000 (omega arith) (omega arith) in
    let l : FitsSigned w64 ((yp -ℤ xp) *ℤ (zt -ℤ yt)) = small ((yp -ℤ xp) *ℤ (zt -ℤ yt)) 5400000000000000 (omega arith) (omega arith) in
    let m : FitsSigned w64 (((zp -ℤ yp) *ℤ (yt -ℤ xt)) -ℤ ((yp -ℤ xp) *ℤ (zt -ℤ yt))) = small (((zp -ℤ yp) *ℤ (yt -ℤ xt)) -ℤ ((yp -ℤ xp) *ℤ (zt -ℤ yt))) 5400000000000000 both (omega arith) in
    record { left_fits = simp to_z-of_z k; right_fits = simp to_z-of_z l; bend_fits = simp to_z-of_z m; is = simp to_z-of_z refl; size = both }

-- ---- the stretch of three points
square_not_negative : (a : ℤ) → pos 0 ≤ℤ (a *ℤ a)
square_not_negative a = by_lt_z a (pos 0)
    (λ l. let m = mul_not_negative (neg_ℤ a) (neg_ℤ a) (omega (arith, linear)) (omega (arith, linear)) in let s = simp ring at m in omega (arith, linear, s))
    (λ l. mul_not_negative a a l l)

-- of two numbers that add up to at most 2h, the product is at most the square of h
product_of_halves : (a c h : ℤ) → pos 0 ≤ℤ a → (a +ℤ c) ≤ℤ (h +ℤ h) → (a *ℤ c) ≤ℤ (h *ℤ h)
product_of_halves a c h p q =
    let m = mul_le a c ((h +ℤ h) -ℤ a) p (omega (arith, linear)) in
    let m' = simp ring at m in
    let s = square_not_negative (h -ℤ a) in
    let s' = simp ring at s in
    omega (arith, linear, m', s')

within_size : (n : ℤ) → pos 0 ≤ℤ n → n ≤ℤ pos 225000000000000 → unsigned_abs n ≤ 225000000000000
within_size n p q = omega (arith, ints)

-- a stretch as code computes it: no step of it overflows, and it is what it should be
pub record StretchTerms (xt yt zt : ℤ) : Type 0 where
  pub two_fit : FitsSigned w64 (held (held yt -ℤ held xt) *ℤ held (held zt -ℤ held yt))
  pub three_fit : FitsSigned w128 (held_wide (held (held (held yt -ℤ held xt) *ℤ held (held zt -ℤ held yt))) *ℤ held_wide (held (held zt -ℤ held xt)))
  pub is : held_wide (held_wide (held (held (held yt -ℤ held xt) *ℤ held (held zt -ℤ held yt))) *ℤ held_wide (held (held zt -ℤ held xt))) ≡ ((yt -ℤ xt) *ℤ (zt -ℤ yt)) *ℤ (zt -ℤ xt)
  pub size : unsigned_abs (((yt -ℤ xt) *ℤ (zt -ℤ yt)) *ℤ (zt -ℤ xt)) ≤ 6750000000000000000000

pub stretch_terms : (xt xp yt yp zt zp : ℤ) → IsMark xt xp → IsMark yt yp → IsMark zt zp → xt <ℤ yt → yt <ℤ zt → (zt -ℤ xt) <ℤ pos 30000000 → StretchTerms xt yt zt
stretch_terms xt xp yt yp zt zp x y z before after brief =
    let a : FitsSigned w64 xt = omega (arith, ints) in
    let b : FitsSigned w64 yt = omega (arith, ints) in
    let c : FitsSigned w64 zt = omega (arith, ints) in
    let first : unsigned_abs (yt -ℤ xt) ≤ 30000000 = omega (arith, ints) in
    let second : unsigned_abs (zt -ℤ yt) ≤ 30000000 = omega (arith, ints) in
    let whole : unsigned_abs (zt -ℤ xt) ≤ 30000000 = omega (arith, ints) in
    let d : FitsSigned w64 (yt -ℤ xt) = small (yt -ℤ xt) 30000000 first (omega arith) in
    let e : FitsSigned w64 (zt -ℤ yt) = small (zt -ℤ yt) 30000000 second (omega arith) in
    let f : FitsSigned w64 (zt -ℤ xt) = small (zt -ℤ xt) 30000000 whole (omega arith) in
    let most : ((yt -ℤ xt) *ℤ (zt -ℤ yt)) ≤ℤ pos 225000000000000 = product_of_halves (yt -ℤ xt) (zt -ℤ yt) (pos 15000000) (omega (arith, ints)) (omega (arith, ints)) in
    let least : pos 0 ≤ℤ ((yt -ℤ xt) *ℤ (zt -ℤ yt)) = mul_not_negative (yt -ℤ xt) (zt -ℤ yt) (omega (arith, ints)) (omega (arith, ints)) in
    let two : unsigned_abs ((yt -ℤ xt) *ℤ (zt -ℤ yt)) ≤ 225000000000000 = within_size ((yt -ℤ xt) *ℤ (zt -ℤ yt)) least most in
    let three : unsigned_abs (((yt -ℤ xt) *ℤ (zt -ℤ yt)) *ℤ (zt -ℤ xt)) ≤ 6750000000000000000000 = product_most ((yt -ℤ xt) *ℤ (zt -ℤ yt)) (zt -ℤ xt) 225000000000000 30000000 two whole in
    let g : FitsSigned w64 ((yt -ℤ xt) *ℤ (zt -ℤ yt)) = small ((yt -ℤ xt) *ℤ (zt -ℤ yt)) 225000000000000 two (omega arith) in
    let h : FitsSigned w128 ((yt -ℤ xt) *ℤ (zt -ℤ yt)) = wide ((yt -ℤ xt) *ℤ (zt -ℤ yt)) 225000000000000 two (omega arith) in
    let i : FitsSigned w128 (zt -ℤ xt) = wide (zt -ℤ xt) 30000000 whole (omega arith) in
    let j : FitsSigned w128 (((yt -ℤ xt) *ℤ (zt -ℤ yt)) *ℤ (zt -ℤ xt)) = wide (((yt -ℤ xt) *ℤ (zt -ℤ yt)) *ℤ (zt -ℤ xt)) 6750000000000000000000 three (omega arith) in
    record { two_fit = simp to_z-of_z g; three_fit = simp to_z-of_z j; is = simp to_z-of_z refl; size = three }

in_range : (n : ℤ) → unsigned_abs n ≤ 6750000000000000000000 → pos 0 <ℤ n → IsBetween (pos 1) (pos (10 ^ 22)) n
in_range n p q = omega (arith, ints)

pub stretch_between : (xt yt zt : ℤ) → xt <ℤ yt → yt <ℤ zt → unsigned_abs (((yt -ℤ xt) *ℤ (zt -ℤ yt)) *ℤ (zt -ℤ xt)) ≤ 6750000000000000000000 → IsBetween (pos 1) (pos (10 ^ 22)) (((yt -ℤ xt) *ℤ (zt -ℤ yt)) *ℤ (zt -ℤ xt))
stretch_between xt yt zt p q size =
    let two : pos 0 <ℤ ((yt -ℤ xt) *ℤ (zt -ℤ yt)) = mul_positive (yt -ℤ xt) (zt -ℤ yt) (omega (arith, ints)) (omega (arith, ints)) in
    let three : pos 0 <ℤ (((yt -ℤ xt) *ℤ (zt -ℤ yt)) *ℤ (zt -ℤ xt)) = mul_positive ((yt -ℤ xt) *ℤ (zt -ℤ yt)) (zt -ℤ xt) two (omega (arith, ints)) in
    in_range (((yt -ℤ xt) *ℤ (zt -ℤ yt)) *ℤ (zt -ℤ xt)) size three

-- ---- the slack of a lean
pub record SlackTerms (lean xt zt : ℤ) : Type 0 where
  pub slack_fits : FitsSigned w64 (held (held lean +ℤ held lean) *ℤ held (held zt -ℤ held xt))
  pub is : held (held (held lean +ℤ held lean) *ℤ held (held zt -ℤ held xt)) ≡ (lean +ℤ lean) *ℤ (zt -ℤ xt)
  pub size : unsigned_abs ((lean +ℤ lean) *ℤ (zt -ℤ xt)) ≤ 6000000000000

pub slack_terms : (lean xt xp zt zp : ℤ) → unsigned_abs lean ≤ 100000 → IsMark xt xp → IsMark zt zp → xt <ℤ zt → (zt -ℤ xt) <ℤ pos 30000000 → SlackTerms lean xt zt
slack_terms lean xt xp zt zp t x z rising brief =
    let a : FitsSigned w64 lean = small lean 100000 t (omega arith) in
    let b : FitsSigned w64 xt = omega (arith, ints) in
    let c : FitsSigned w64 zt = omega (arith, ints) in
    let both : unsigned_abs (lean +ℤ lean) ≤ 200000 = sum_most lean lean 100000 100000 t t in
    let whole : unsigned_abs (zt -ℤ xt) ≤ 30000000 = omega (arith, ints) in
    let d : FitsSigned w64 (lean +ℤ lean) = small (lean +ℤ lean) 200000 both (omega arith) in
    let e : FitsSigned w64 (zt -ℤ xt) = small (zt -ℤ xt) 30000000 whole (omega arith) in
    let slack : unsigned_abs ((lean +ℤ lean) *ℤ (zt -ℤ xt)) ≤ 6000000000000 = product_most (lean +ℤ lean) (zt -ℤ xt) 200000 30000000 both whole in
    let f : FitsSigned w64 ((lean +ℤ lean) *ℤ (zt -ℤ xt)) = small ((lean +ℤ lean) *ℤ (zt -ℤ xt)) 6000000000000 slack (omega arith) in
    record { slack_fits = simp to_z-of_z f; is = simp to_z-of_z refl; size = slack }

-- ---- the start of a curve
pub record StartTerms (xp lean d : ℤ) : Type 0 where
  pub start_fits : FitsSigned w128 (held_wide (held (held xp +ℤ held lean)) *ℤ held_wide d)
  pub is : held_wide (held_wide (held (held xp +ℤ held lean)) *ℤ held_wide d) ≡ (xp +ℤ lean) *ℤ d
  pub size : unsigned_abs ((xp +ℤ lean) *ℤ d) ≤ 10 ^ 30

pub start_terms : (xt xp lean d : ℤ) → IsMark xt xp → unsigned_abs lean ≤ 100000 → IsBetween (pos 1) (pos (10 ^ 22)) d → StartTerms xp lean d
start_terms xt xp lean d x l r =
    let a : FitsSigned w64 lean = small lean 100000 l (omega arith) in
    let pm : unsigned_abs xp ≤ 90000000 = omega (arith, ints) in
    let b : FitsSigned w64 xp = small xp 90000000 pm (omega arith) in
    let dm : unsigned_abs d ≤ 10 ^ 22 = den_most d r in
    let c : FitsSigned w128 d = wide d (10 ^ 22) dm (omega arith) in
    let sm : unsigned_abs (xp +ℤ lean) ≤ 90100000 = sum_most xp lean 90000000 100000 pm l in
    let e : FitsSigned w64 (xp +ℤ lean) = small (xp +ℤ lean) 90100000 sm (omega arith) in
    let f : FitsSigned w128 (xp +ℤ lean) = wide (xp +ℤ lean) 90100000 sm (omega arith) in
    let most : unsigned_abs ((xp +ℤ lean) *ℤ d) ≤ 901000000000000000000000000000 = product_most (xp +ℤ lean) d 90100000 (10 ^ 22) sm dm in
    let g : FitsSigned w128 ((xp +ℤ lean) *ℤ d) = wide ((xp +ℤ lean) *ℤ d) 901000000000000000000000000000 most (omega arith) in
    record { start_fits = simp to_z-of_z g; is = simp to_z-of_z refl; size = omega arith }

-- ---- the slope of a curve
pub record SlopeTerms (rise xt yt zt : ℤ) : Type 0 where
  pub times_fit : FitsSigned w64 (held (held zt -ℤ held yt) *ℤ held (held zt -ℤ held xt))
  pub slope_fits : FitsSigned w128 (held_wide (held rise) *ℤ held_wide (held (held (held zt -ℤ held yt) *ℤ held (held zt -ℤ held xt))))
  pub is : held_wide (held_wide (held rise) *ℤ held_wide (held (held (held zt -ℤ held yt) *ℤ held (held zt -ℤ held xt)))) ≡ rise *ℤ ((zt -ℤ yt) *ℤ (zt -ℤ xt))
  pub size : unsigned_abs (rise *ℤ ((zt -ℤ yt) *ℤ (zt -ℤ xt))) ≤ 2 * 10 ^ 23

pub slope_terms : (rise xt xp yt yp zt zp : ℤ) → unsigned_abs rise ≤ 180200000 → IsMark xt xp → IsMark yt yp → IsMark zt zp → xt <ℤ yt → yt <ℤ zt → (zt -ℤ xt) <ℤ pos 30000000 → SlopeTerms rise xt yt zt
slope_terms rise xt xp yt yp zt zp r x y z before after brief =
    let a : FitsSigned w64 xt = omega (arith, ints) in
    let b : FitsSigned w64 yt = omega (arith, ints) in
    let c : FitsSigned w64 zt = omega (arith, ints) in
    let d : FitsSigned w64 rise = small rise 180200000 r (omega arith) in
    let d' : FitsSigned w128 rise = wide rise 180200000 r (omega arith) in
    let second : unsigned_abs (zt -ℤ yt) ≤ 30000000 = omega (arith, ints) in
    let whole : unsigned_abs (zt -ℤ xt) ≤ 30000000 = omega (arith, ints) in
    let e : FitsSigned w64 (zt -ℤ yt) = small (zt -ℤ yt) 30000000 second (omega arith) in
    let f : FitsSigned w64 (zt -ℤ xt) = small (zt -ℤ xt) 30000000 whole (omega arith) in
    let two : unsigned_abs ((zt -ℤ yt) *ℤ (zt -ℤ xt)) ≤ 900000000000000 = product_most (zt -ℤ yt) (zt -ℤ xt) 30000000 30000000 second whole in
    let g : FitsSigned w64 ((zt -ℤ yt) *ℤ (zt -ℤ xt)) = small ((zt -ℤ yt) *ℤ (zt -ℤ xt)) 900000000000000 two (omega arith) in
    let h : FitsSigned w128 ((zt -ℤ yt) *ℤ (zt -ℤ xt)) = wide ((zt -ℤ yt) *ℤ (zt -ℤ xt)) 900000000000000 two (omega arith) in
    let most : unsigned_abs (rise *ℤ ((zt -ℤ yt) *ℤ (zt -ℤ xt))) ≤ 162180000000000000000000 = product_most rise ((zt -ℤ yt) *ℤ (zt -ℤ xt)) 180200000 900000000000000 r two in
    let i : FitsSigned w128 (rise *ℤ ((zt -ℤ yt) *ℤ (zt -ℤ xt))) = wide (rise *ℤ ((zt -ℤ yt) *ℤ (zt -ℤ xt))) 162180000000000000000000 most (omega arith) in
    record { times_fit = simp to_z-of_z g; slope_fits = simp to_z-of_z i; is = simp to_z-of_z refl; size = omega arith }

-- ---- whether a curve is admitted
abbrev Most : ℤ → ℤ → ℤ
Most acc d = held_wide (held_wide (held acc) *ℤ held_wide d)

pub record AdmittedTerms (acc b d : ℤ) : Type 0 where
  pub least_fits : FitsSigned w128 (pos 0 -ℤ Most acc d)
  pub least_is : held_wide (pos 0 -ℤ Most acc d) ≡ neg_ℤ (acc *ℤ d)
  pub most_is : Most acc d ≡ acc *ℤ d
  pub twice_is : held_wide (pos 2000000000000 *ℤ held_wide (held b)) ≡ pos 2000000000000 *ℤ b

pub admitted_terms : (acc s v b d f g : ℤ) → IsBetween (pos 0) (pos 1000000) acc → IsCurve s v b d f g → AdmittedTerms acc b d
admitted_terms acc s v b d f g r c =
    let am : unsigned_abs acc ≤ 1000000 = omega (arith, ints) in
    let h1 : FitsSigned w64 acc = small acc 1000000 am (omega arith) in
    let h2 : FitsSigned w128 acc = wide acc 1000000 am (omega arith) in
    let dm : unsigned_abs d ≤ 10 ^ 22 = den_most d c.den_range in
    let h3 : FitsSigned w128 d = wide d (10 ^ 22) dm (omega arith) in
    let h4 : FitsSigned w64 b = small b (6 * 10 ^ 15) c.bend_size (omega arith) in
    let h5 : FitsSigned w128 b = wide b (6 * 10 ^ 15) c.bend_size (omega arith) in
    let mm : unsigned_abs (acc *ℤ d) ≤ 10000000000000000000000000000 = product_most acc d 1000000 (10 ^ 22) am dm in
    let h6 : FitsSigned w128 (acc *ℤ d) = wide (acc *ℤ d) 10000000000000000000000000000 mm (omega arith) in
    let nm : unsigned_abs (pos 0 -ℤ (acc *ℤ d)) ≤ 10000000000000000000000000000 = difference_most (pos 0) (acc *ℤ d) 0 10000000000000000000000000000 (omega (arith, ints)) mm in
    let h7 : FitsSigned w128 (pos 0 -ℤ (acc *ℤ d)) = wide (pos 0 -ℤ (acc *ℤ d)) 10000000000000000000000000000 nm (omega arith) in
    let tm : unsigned_abs (pos 2000000000000 *ℤ b) ≤ 12000000000000000000000000000 = product_most (pos 2000000000000) b 2000000000000 (6 * 10 ^ 15) (omega (arith, ints)) c.bend_size in
    let h8 : FitsSigned w128 (pos 2000000000000 *ℤ b) = wide (pos 2000000000000 *ℤ b) 12000000000000000000000000000 tm (omega arith) in
    let z : pos 0 -ℤ (acc *ℤ d) ≡ neg_ℤ (acc *ℤ d) = omega (arith, ints) in
    record { least_fits = simp to_z-of_z h7; least_is = simp to_z-of_z z; most_is = simp to_z-of_z refl; twice_is = simp to_z-of_z refl }

-- ---- the rise of a curve
pub record RiseTerms (xp yp lean : ℤ) : Type 0 where
  pub is : held (held (held yp -ℤ held xp) -ℤ held (held lean +ℤ held lean)) ≡ (yp -ℤ xp) -ℤ (lean +ℤ lean)
  pub size : unsigned_abs ((yp -ℤ xp) -ℤ (lean +ℤ lean)) ≤ 180200000

pub rise_terms : (xt xp yt yp lean : ℤ) → IsMark xt xp → IsMark yt yp → unsigned_abs lean ≤ 100000 → RiseTerms xp yp lean
rise_terms xt xp yt yp lean x y l =
    let a : FitsSigned w64 xp = omega (arith, ints) in
    let b : FitsSigned w64 yp = omega (arith, ints) in
    let c : FitsSigned w64 lean = small lean 100000 l (omega arith) in
    let d : FitsSigned w64 (yp -ℤ xp) = omega (arith, ints) in
    let e : FitsSigned w64 (lean +ℤ lean) = omega (arith, ints) in
    let f : FitsSigned w64 ((yp -ℤ xp) -ℤ (lean +ℤ lean)) = omega (arith, ints) in
    record { is = simp to_z-of_z refl; size = omega (arith, ints) }

-- ---- a curve put together
pub record CurveTerms (start slope bend slack den f g : ℤ) : Type 0 where
  pub is_curve : IsCurve (held_wide start) (held_wide slope) (held (held bend +ℤ held slack)) (held_wide den) (held f) (held g)
  pub start_is : held_wide start ≡ start
  pub slope_is : held_wide slope ≡ slope
  pub bend_is : held (held bend +ℤ held slack) ≡ bend +ℤ slack
  pub den_is : held_wide den ≡ den
  pub first_is : held f ≡ f
  pub second_is : held g ≡ g

pub curve_terms : (start slope bend slack den f fp g gp : ℤ) → unsigned_abs start ≤ 10 ^ 30 → unsigned_abs slope ≤ 2 * 10 ^ 23 → unsigned_abs bend ≤ 5400000000000000 → unsigned_abs slack ≤ 6000000000000 →
    IsBetween (pos 1) (pos (10 ^ 22)) den → IsMark f fp → IsMark g gp → CurveTerms start slope bend slack den f g
curve_terms start slope bend slack den f fp g gp hs hv hb hk hd mf mg =
    let a : FitsSigned w128 start = wide start (10 ^ 30) hs (omega arith) in
    let b : FitsSigned w128 slope = wide slope (2 * 10 ^ 23) hv (omega arith) in
    let c : FitsSigned w64 bend = small bend 5400000000000000 hb (omega arith) in
    let d : FitsSigned w64 slack = small slack 6000000000000 hk (omega arith) in
    let most : unsigned_abs (bend +ℤ slack) ≤ 5406000000000000 = sum_most bend slack 5400000000000000 6000000000000 hb hk in
    let e : FitsSigned w64 (bend +ℤ slack) = small (bend +ℤ slack) 5406000000000000 most (omega arith) in
    let dm : unsigned_abs den ≤ 10 ^ 22 = den_most den hd in
    let i : FitsSigned w128 den = wide den (10 ^ 22) dm (omega arith) in
    let fm : unsigned_abs f ≤ 30000000 = omega (arith, ints) in
    let gm : unsigned_abs g ≤ 30000000 = omega (arith, ints) in
    let j : FitsSigned w64 f = small f 30000000 fm (omega arith) in
    let k : FitsSigned w64 g = small g 30000000 gm (omega arith) in
    let curve : IsCurve start slope (bend +ℤ slack) den f g = record { start_size = hs; slope_size = hv; bend_size = omega arith; den_range = hd; first_size = fm; second_size = gm } in
    record {
      is_curve = simp to_z-of_z curve;
      start_is = to_z-of_z w128 start a;
      slope_is = to_z-of_z w128 slope b;
      bend_is = simp to_z-of_z refl;
      den_is = to_z-of_z w128 den i;
      first_is = to_z-of_z w64 f j;
      second_is = to_z-of_z w64 g k;
    }

-- ---- a line put together
abbrev pub Gap : ℤ → ℤ → ℤ
Gap f g = held_wide (held (held g -ℤ held f))

pub record GapTerms (f g : ℤ) : Type 0 where
  pub gap_is : Gap f g ≡ g -ℤ f
  pub gap_range : IsBetween (pos 1) (pos (10 ^ 22)) (Gap f g)

pub gap_terms : (f fp g gp : ℤ) → IsMark f fp → IsMark g gp → f <ℤ g → GapTerms f g
gap_terms f fp g gp mf mg rising =
    let a : FitsSigned w64 f = omega (arith, ints) in
    let b : FitsSigned w64 g = omega (arith, ints) in
    let c : FitsSigned w64 (g -ℤ f) = omega (arith, ints) in
    let d : FitsSigned w128 (g -ℤ f) = omega (arith, ints) in
    let range : IsBetween (pos 1) (pos (10 ^ 22)) (g -ℤ f) = record { from = omega (arith, ints); to = omega (arith, ints) } in
    record { gap_is = simp to_z-of_z refl; gap_range = simp to_z-of_z range }

pub record LineTerms (start rise f g first last : ℤ) : Type 0 where
  pub is_curve : IsCurve (held_wide start) (held_wide (held rise)) (pos 0) (Gap f g) (held first) (held last)
  pub start_is : held_wide start ≡ start
  pub rise_is : held_wide (held rise) ≡ rise
  pub first_is : held first ≡ first
  pub second_is : held last ≡ last

pub line_terms : (start rise f fp g gp first pp last lp : ℤ) → unsigned_abs start ≤ 10 ^ 30 → unsigned_abs rise ≤ 180200000 → IsMark f fp → IsMark g gp → f <ℤ g → IsMark first pp → IsMark last lp → LineTerms start rise f g first last
line_terms start rise f fp g gp first pp last lp hs hr mf mg rising mp ml =
    let gap = gap_terms f fp g gp mf mg rising in
    let a : FitsSigned w128 start = wide start (10 ^ 30) hs (omega arith) in
    let b : FitsSigned w64 rise = small rise 180200000 hr (omega arith) in
    let b' : FitsSigned w128 rise = wide rise 180200000 hr (omega arith) in
    let fm : unsigned_abs first ≤ 30000000 = omega (arith, ints) in
    let gm : unsigned_abs last ≤ 30000000 = omega (arith, ints) in
    let j : FitsSigned w64 first = small first 30000000 fm (omega arith) in
    let k : FitsSigned w64 last = small last 30000000 gm (omega arith) in
    let curve : IsCurve start rise (pos 0) (Gap f g) first last = record { start_size = hs; slope_size = omega arith; bend_size = omega (arith, ints); den_range = gap.gap_range; first_size = fm; second_size = gm } in
    record {
      is_curve = rw (to_z-of_z w128 start a, to_z-of_z w64 rise b, to_z-of_z w128 rise b', to_z-of_z w64 first j, to_z-of_z w64 last k) curve;
      start_is = to_z-of_z w128 start a;
      rise_is = rw (to_z-of_z w64 rise b) (to_z-of_z w128 rise b');
      first_is = to_z-of_z w64 first j;
      second_is = to_z-of_z w64 last k;
    }

pub bend_sum_fits : (bend slack : ℤ) → unsigned_abs bend ≤ 5400000000000000 → unsigned_abs slack ≤ 6000000000000 → FitsSigned w64 (held bend +ℤ held slack)
bend_sum_fits bend slack hb hk =
    let c : FitsSigned w64 bend = small bend 5400000000000000 hb (omega arith) in
    let d : FitsSigned w64 slack = small slack 6000000000000 hk (omega arith) in
    let most : unsigned_abs (bend +ℤ slack) ≤ 5406000000000000 = sum_most bend slack 5400000000000000 6000000000000 hb hk in
    let e : FitsSigned w64 (bend +ℤ slack) = small (bend +ℤ slack) 5406000000000000 most (omega arith) in
    simp to_z-of_z e

-- ---- the tolerance over a denominator
pub record WithinTerms (tol d : ℤ) : Type 0 where
  pub within_fits : FitsSigned w128 (held_wide (held tol) *ℤ held_wide d)
  pub is : pos (unsigned_abs (held_wide (held_wide (held tol) *ℤ held_wide d))) ≡ tol *ℤ d

pub within_terms : (tol d : ℤ) → IsBetween (pos 0) (pos 100000) tol → IsBetween (pos 1) (pos (10 ^ 22)) d → WithinTerms tol d
within_terms tol d t r =
    let tm : unsigned_abs tol ≤ 100000 = omega (arith, ints) in
    let dm : unsigned_abs d ≤ 10 ^ 22 = den_most d r in
    let a : FitsSigned w64 tol = small tol 100000 tm (omega arith) in
    let b : FitsSigned w128 tol = wide tol 100000 tm (omega arith) in
    let c : FitsSigned w128 d = wide d (10 ^ 22) dm (omega arith) in
    let most : unsigned_abs (tol *ℤ d) ≤ 1000000000000000000000000000 = product_most tol d 100000 (10 ^ 22) tm dm in
    let e : FitsSigned w128 (tol *ℤ d) = wide (tol *ℤ d) 1000000000000000000000000000 most (omega arith) in
    let p : pos 0 ≤ℤ (tol *ℤ d) = mul_not_negative tol d (omega (arith, ints)) (omega (arith, ints)) in
    let z : pos (unsigned_abs (tol *ℤ d)) ≡ tol *ℤ d = whole (tol *ℤ d) p in
    record { within_fits = simp to_z-of_z e; is = simp to_z-of_z z }
  where
    whole : (n : ℤ) → pos 0 ≤ℤ n → pos (unsigned_abs n) ≡ n
    whole n p = omega (arith, ints)

-- ---- the leading coefficient of a curve
pub record CoefficientTerms (b d : ℤ) : Type 0 where
  pub is_frac : IsFrac (held_wide (held b)) (held_wide d)
  pub num_is : held_wide (held b) ≡ b
  pub den_is : held_wide d ≡ d

pub coefficient_terms : (s v b d f g : ℤ) → IsCurve s v b d f g → CoefficientTerms b d
coefficient_terms s v b d f g c =
    let h4 : FitsSigned w64 b = small b (6 * 10 ^ 15) c.bend_size (omega arith) in
    let h5 : FitsSigned w128 b = wide b (6 * 10 ^ 15) c.bend_size (omega arith) in
    let h3 : FitsSigned w128 d = wide d (10 ^ 22) (den_most d c.den_range) (omega arith) in
    let frac : IsFrac b d = record { num_in_range = within_frac b c.bend_size; den_in_range = c.den_range } in
    record { is_frac = simp to_z-of_z frac; num_is = simp to_z-of_z refl; den_is = to_z-of_z w128 d h3 }
  where
    within_frac : (b : ℤ) → unsigned_abs b ≤ 6 * 10 ^ 15 → IsBetween (neg_ℤ (pos (10 ^ 16))) (pos (10 ^ 16)) b
    within_frac b h = record { from = omega (arith, ints); to = omega (arith, ints) }
