-- The sums and products of a least-squares line fit 128 bits, and are read from their bits as they are.
use Rattle.std.proofs.Common.{◌≡◌, ℕ, ◌+◌, ◌≤◌, ◌^◌, ℤ, ◌+ℤ◌, ◌-ℤ◌, ◌*ℤ◌, to_z, of_z, w64, FitsSigned, refl, arith}
use mir.Syntax.{w128}
use Rattle.std.specs.Int.RustNames.{unsigned_abs}
use Rattle.std.proofs.lemmas.Int.{ints, to_z-of_z}
use Rattle.sky_math.proofs.Order.{product_most}
use Rattle.purge.specs.Sizes.{AreSmallSums, IsSmallLine, IsSmallPoint}

abbrev pub held : ℤ → ℤ
held n = to_z w128 (of_z w128 n)

pub fits : (z : ℤ) → unsigned_abs z ≤ 1329227995784915872903807060280344576 → FitsSigned w128 z
fits z h = omega (arith, ints)

apart : (x y : ℤ) (k : ℕ) → unsigned_abs x ≤ k → unsigned_abs y ≤ k → unsigned_abs (x -ℤ y) ≤ k + k
apart x y k p q = omega (arith, ints)

together : (x y : ℤ) (k : ℕ) → unsigned_abs x ≤ k → unsigned_abs y ≤ k → unsigned_abs (x +ℤ y) ≤ k + k
together x y k p q = omega (arith, ints)

-- ---- the difference of two products
pub record CrossTerms (a b c d : ℤ) (k : ℕ) : Type 0 where
  pub one_fits : FitsSigned w128 (held a *ℤ held b)
  pub two_fits : FitsSigned w128 (held c *ℤ held d)
  pub both_fit : FitsSigned w128 (held (held a *ℤ held b) -ℤ held (held c *ℤ held d))
  pub is : held (held (held a *ℤ held b) -ℤ held (held c *ℤ held d)) ≡ (a *ℤ b) -ℤ (c *ℤ d)
  pub size : unsigned_abs ((a *ℤ b) -ℤ (c *ℤ d)) ≤ k + k

-- numbers of at most 2^70, whose products are at most k, and k at most 2^118
pub cross_terms : (a b c d : ℤ) (k : ℕ) → unsigned_abs a ≤ 1180591620717411303424 → unsigned_abs b ≤ 1180591620717411303424 → unsigned_abs c ≤ 1180591620717411303424 → unsigned_abs d ≤ 1180591620717411303424 →
    unsigned_abs (a *ℤ b) ≤ k → unsigned_abs (c *ℤ d) ≤ k → k ≤ 332306998946228968225951765070086144 → CrossTerms a b c d k
cross_terms a b c d k pa pb pc pd pab pcd pk =
    let fa : FitsSigned w128 a = fits a (omega arith) in
    let fb : FitsSigned w128 b = fits b (omega arith) in
    let fc : FitsSigned w128 c = fits c (omega arith) in
    let fd : FitsSigned w128 d = fits d (omega arith) in
    let fab : FitsSigned w128 (a *ℤ b) = fits (a *ℤ b) (omega arith) in
    let fcd : FitsSigned w128 (c *ℤ d) = fits (c *ℤ d) (omega arith) in
    let size : unsigned_abs ((a *ℤ b) -ℤ (c *ℤ d)) ≤ k + k = apart (a *ℤ b) (c *ℤ d) k pab pcd in
    let all : FitsSigned w128 ((a *ℤ b) -ℤ (c *ℤ d)) = fits ((a *ℤ b) -ℤ (c *ℤ d)) (omega arith) in
    record { one_fits = simp to_z-of_z fab; two_fits = simp to_z-of_z fcd; both_fit = simp to_z-of_z all; is = simp to_z-of_z refl; size = size }

-- ---- a sum with a product
pub record SumTerms (s a b : ℤ) : Type 0 where
  pub product_fits : FitsSigned w128 (held a *ℤ held b)
  pub sum_fits : FitsSigned w128 (held s +ℤ held (held a *ℤ held b))
  pub is : held (held s +ℤ held (held a *ℤ held b)) ≡ s +ℤ (a *ℤ b)

pub sum_terms : (s a b : ℤ) (k : ℕ) → unsigned_abs s ≤ k → unsigned_abs a ≤ k → unsigned_abs b ≤ k → unsigned_abs (a *ℤ b) ≤ k → k ≤ 332306998946228968225951765070086144 → SumTerms s a b
sum_terms s a b k ps pa pb pab pk =
    let fs : FitsSigned w128 s = fits s (omega arith) in
    let fa : FitsSigned w128 a = fits a (omega arith) in
    let fb : FitsSigned w128 b = fits b (omega arith) in
    let fab : FitsSigned w128 (a *ℤ b) = fits (a *ℤ b) (omega arith) in
    let size : unsigned_abs (s +ℤ (a *ℤ b)) ≤ k + k = together s (a *ℤ b) k ps pab in
    let all : FitsSigned w128 (s +ℤ (a *ℤ b)) = fits (s +ℤ (a *ℤ b)) (omega arith) in
    record { product_fits = simp to_z-of_z fab; sum_fits = simp to_z-of_z all; is = simp to_z-of_z refl }

pub level_terms : (count times squares positions products : ℤ) → AreSmallSums count times squares positions products → CrossTerms positions squares times products 324518553658426726783156020576256
level_terms count times squares positions products s =
    cross_terms positions squares times products 324518553658426726783156020576256 (omega (arith, s.positions_size)) (omega (arith, s.squares_size)) (omega (arith, s.times_size)) (omega (arith, s.products_size))
    (product_most positions squares 281474976710656 1152921504606846976 s.positions_size s.squares_size) (product_most times products 1099511627776 295147905179352825856 s.times_size s.products_size) (omega arith)

pub slope_terms : (count times squares positions products : ℤ) → AreSmallSums count times squares positions products → CrossTerms count products times positions 309485009821345068724781056
slope_terms count times squares positions products s =
    cross_terms count products times positions 309485009821345068724781056 (omega (arith, s.count_size)) (omega (arith, s.products_size)) (omega (arith, s.times_size)) (omega (arith, s.positions_size))
    (product_most count products 1048576 295147905179352825856 s.count_size s.products_size) (product_most times positions 1099511627776 281474976710656 s.times_size s.positions_size) (omega arith)

pub scale_terms : (count times squares positions products : ℤ) → AreSmallSums count times squares positions products → CrossTerms count squares times times 1208925819614629174706176
scale_terms count times squares positions products s =
    cross_terms count squares times times 1208925819614629174706176 (omega (arith, s.count_size)) (omega (arith, s.squares_size)) (omega (arith, s.times_size)) (omega (arith, s.times_size))
    (product_most count squares 1048576 1152921504606846976 s.count_size s.squares_size) (product_most times times 1099511627776 1099511627776 s.times_size s.times_size) (omega arith)

pub small_line : (scale slope level : ℤ) → unsigned_abs scale ≤ 1208925819614629174706176 + 1208925819614629174706176 → unsigned_abs slope ≤ 309485009821345068724781056 + 309485009821345068724781056 → unsigned_abs level ≤ 324518553658426726783156020576256 + 324518553658426726783156020576256 → IsSmallLine scale slope level
small_line scale slope level p q r = record { scale_size = omega (arith, p); slope_size = omega (arith, q); level_size = omega (arith, r) }

-- ---- the distance of a point
pub record DistanceTerms (level slope scale time position : ℤ) : Type 0 where
  pub fits : FitsSigned w128 (held (held position *ℤ held scale) -ℤ held (held level +ℤ held (held slope *ℤ held time)))
  pub is : held (held (held position *ℤ held scale) -ℤ held (held level +ℤ held (held slope *ℤ held time))) ≡ (position *ℤ scale) -ℤ (level +ℤ (slope *ℤ time))

pub distance_terms : (level slope scale time position : ℤ) → IsSmallLine scale slope level → IsSmallPoint time position → DistanceTerms level slope scale time position
distance_terms level slope scale time position l p =
    let rise : unsigned_abs (slope *ℤ time) ≤ 649037107316853453566312041152512 = product_most slope time 618970019642690137449562112 1048576 l.slope_size p.time_size in
    let far : unsigned_abs (position *ℤ scale) ≤ 649037107316853453566312041152512 = product_most position scale 268435456 2417851639229258349412352 p.position_size l.scale_size in
    let high : unsigned_abs level ≤ 649037107316853453566312041152512 = l.level_size in
    let reached : unsigned_abs (level +ℤ (slope *ℤ time)) ≤ 649037107316853453566312041152512 + 649037107316853453566312041152512 = together level (slope *ℤ time) 649037107316853453566312041152512 high rise in
    let whole : unsigned_abs ((position *ℤ scale) -ℤ (level +ℤ (slope *ℤ time))) ≤ 1298074214633706907132624082305024 + 1298074214633706907132624082305024 = apart (position *ℤ scale) (level +ℤ (slope *ℤ time)) 1298074214633706907132624082305024 (omega arith) (omega arith) in
    let f1 : FitsSigned w128 position = fits position (omega (arith, p.position_size)) in
    let f2 : FitsSigned w128 scale = fits scale (omega (arith, l.scale_size)) in
    let f3 : FitsSigned w128 level = fits level (omega arith) in
    let f4 : FitsSigned w128 slope = fits slope (omega (arith, l.slope_size)) in
    let f5 : FitsSigned w128 time = fits time (omega (arith, p.time_size)) in
    let f6 : FitsSigned w128 (slope *ℤ time) = fits (slope *ℤ time) (omega arith) in
    let f7 : FitsSigned w128 (position *ℤ scale) = fits (position *ℤ scale) (omega arith) in
    let f8 : FitsSigned w128 (level +ℤ (slope *ℤ time)) = fits (level +ℤ (slope *ℤ time)) (omega arith) in
    let f9 : FitsSigned w128 ((position *ℤ scale) -ℤ (level +ℤ (slope *ℤ time))) = fits ((position *ℤ scale) -ℤ (level +ℤ (slope *ℤ time))) (omega arith) in
    record { fits = simp to_z-of_z f9; is = simp to_z-of_z refl }

pub square_terms : (s t p : ℤ) → unsigned_abs s ≤ 2 ^ 60 → IsSmallPoint t p → SumTerms s t t
square_terms s t p h q = sum_terms s t t 1152921504606846976 h (omega (arith, q.time_size)) (omega (arith, q.time_size)) (let m = product_most t t 1048576 1048576 q.time_size q.time_size in omega (arith, m)) (omega arith)

pub product_terms : (s t p : ℤ) → unsigned_abs s ≤ 2 ^ 68 → IsSmallPoint t p → SumTerms s t p
product_terms s t p h q = sum_terms s t p 295147905179352825856 h (omega (arith, q.time_size)) (omega (arith, q.position_size)) (let m = product_most t p 1048576 268435456 q.time_size q.position_size in omega (arith, m)) (omega arith)

-- ---- a point as code casts it
pub held_time : (t p : ℤ) → IsSmallPoint t p → held t ≡ t
held_time t p s = let h = s.time_size in omega (arith, ints, h)

pub held_position : (t p : ℤ) → IsSmallPoint t p → held (to_z w64 (of_z w64 p)) ≡ p
held_position t p s = let h = s.position_size in omega (arith, ints, h)
