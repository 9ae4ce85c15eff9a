-- The residuals of the least-squares line, times one number, are whole: its normal equations determine them.
use Rattle.std.proofs.Common.{◌≡◌, ℕ, ◌≤◌, ℤ, pos, ◌+ℤ◌, ◌-ℤ◌, ◌*ℤ◌, ◌≤ℤ◌, ◌<ℤ◌, List, [], ◌∷◌, map, length, get_or, refl, sym, ap, ◌∙◌, arith}
use Rattle.std.proofs.lemmas.Int.{ints, by_lt_z}
use Rattle.std.proofs.lemmas.List.{length-map}
use Prim.Native.Nat.{zero, suc}
use borrow.Author.Differences.{same_in, product_is}
use Rattle.sky_math.proofs.Order.{linear, mul_not_negative, mul_positive}
use Rattle.sky_math.proofs.Ring.{ring}
use Rattle.sky_math.specs.Quadratics.{Point}
use Rattle.sky_units.specs.Arcs.{HaveRisingEpochs}
use Rattle.sky_units.specs.Motion.{point_from, points}
use Rattle.sky_units.specs.SpotData.{SpotData}
use Rattle.sky_units.specs.declared.axis.Axis.{Axis}
use Rattle.sky_units.specs.declared.axis.Axis.TheVariants.{Ra}
use Rattle.line_fit.specs.Lines.{Line}
use Rattle.purge.specs.LeastSquares.{total, residual, count, times, squares, positions, products, time_spread, line_over, IsLeastSquares, HasResiduals}

zero_mul : (a : ℤ) → pos 0 *ℤ a ≡ pos 0
zero_mul a = same_in _ _ (omega (arith, product_is (pos 0) a))

mul_one : (a : ℤ) → a *ℤ pos 1 ≡ a
mul_one a = same_in _ _ (omega (arith, product_is a (pos 1)))

mul_zero : (a : ℤ) → a *ℤ pos 0 ≡ pos 0
mul_zero a = same_in _ _ (omega (arith, product_is a (pos 0)))

nothing : (d p v : ℤ) → pos 0 ≡ (pos 0 *ℤ d) -ℤ ((pos 0 *ℤ p) +ℤ (v *ℤ pos 0))
nothing d p v = let a = zero_mul d in let b = zero_mul p in let c = mul_zero v in omega (arith, linear, a, b, c)

no_gaps : (s : ℤ) → pos 0 ≡ ((pos 0 *ℤ (s *ℤ s)) -ℤ ((s *ℤ pos 0) +ℤ (s *ℤ pos 0))) +ℤ pos 0
no_gaps s = let a = zero_mul (s *ℤ s) in let b = mul_zero s in omega (arith, linear, a, b)

counted : (n : ℕ) → pos (suc n) ≡ pos 1 +ℤ pos n
counted n = omega (arith, ints)

-- ---- the residuals of a line, added up
residuals_step : (y d p v t ys n ts rest : ℤ) → rest ≡ (ys *ℤ d) -ℤ ((n *ℤ p) +ℤ (v *ℤ ts)) → ((y *ℤ d) -ℤ (p +ℤ (v *ℤ t))) +ℤ rest ≡ ((y +ℤ ys) *ℤ d) -ℤ (((pos 1 +ℤ n) *ℤ p) +ℤ (v *ℤ (t +ℤ ts)))
residuals_step y d p v t ys n ts rest e = let o = mul_one p in rw e (simp ring (omega (arith, linear, o)))

residuals_total : (f : Line) (xs : List Point) → total (residual f) xs ≡ (positions xs *ℤ f.d) -ℤ ((count xs *ℤ f.p) +ℤ (f.v *ℤ times xs))
residuals_total f [] = nothing f.d f.p f.v
residuals_total f (x ∷ rest) =
    residuals_step x.position f.d f.p f.v x.time (positions rest) (count rest) (times rest) (total (residual f) rest) (residuals_total f rest)
    ∙ ap (λ (n : ℤ). (positions (x ∷ rest) *ℤ f.d) -ℤ ((n *ℤ f.p) +ℤ (f.v *ℤ times (x ∷ rest)))) (sym (counted (length rest)))

moments_step : (y d p v t tys ts tts rest : ℤ) → rest ≡ (tys *ℤ d) -ℤ ((ts *ℤ p) +ℤ (v *ℤ tts)) → (((y *ℤ d) -ℤ (p +ℤ (v *ℤ t))) *ℤ t) +ℤ rest ≡ (((t *ℤ y) +ℤ tys) *ℤ d) -ℤ (((t +ℤ ts) *ℤ p) +ℤ (v *ℤ ((t *ℤ t) +ℤ tts)))
moments_step y d p v t tys ts tts rest e = rw e (simp ring (omega (arith, linear)))

moments_total : (f : Line) (xs : List Point) → total (λ x. residual f x *ℤ x.time) xs ≡ (products xs *ℤ f.d) -ℤ ((times xs *ℤ f.p) +ℤ (f.v *ℤ squares xs))
moments_total f [] = nothing f.d f.p f.v
moments_total f (x ∷ rest) = moments_step x.position f.d f.p f.v x.time (products rest) (times rest) (squares rest) (total (λ u. residual f u *ℤ u.time) rest) (moments_total f rest)

-- ---- the line over the sums meets the normal equations
first_equation : (n t tt y ty : ℤ) → (y *ℤ ((n *ℤ tt) -ℤ (t *ℤ t))) -ℤ ((n *ℤ ((y *ℤ tt) -ℤ (t *ℤ ty))) +ℤ (((n *ℤ ty) -ℤ (t *ℤ y)) *ℤ t)) ≡ pos 0
first_equation n t tt y ty = simp ring (omega (arith, linear))

second_equation : (n t tt y ty : ℤ) → (ty *ℤ ((n *ℤ tt) -ℤ (t *ℤ t))) -ℤ ((t *ℤ ((y *ℤ tt) -ℤ (t *ℤ ty))) +ℤ (((n *ℤ ty) -ℤ (t *ℤ y)) *ℤ tt)) ≡ pos 0
second_equation n t tt y ty = simp ring (omega (arith, linear))

pub line_is_one : (xs : List Point) → pos 0 <ℤ time_spread xs → IsLeastSquares (line_over xs) xs
line_is_one xs p = record {
  positive = p;
  residuals = residuals_total (line_over xs) xs ∙ first_equation (count xs) (times xs) (squares xs) (positions xs) (products xs);
  moments = moments_total (line_over xs) xs ∙ second_equation (count xs) (times xs) (squares xs) (positions xs) (products xs);
}

-- ---- and each line that does has the same residuals
level_same : (n t tt y ty d p v : ℤ) → y *ℤ d ≡ (n *ℤ p) +ℤ (v *ℤ t) → ty *ℤ d ≡ (t *ℤ p) +ℤ (v *ℤ tt) → ((y *ℤ tt) -ℤ (t *ℤ ty)) *ℤ d ≡ ((n *ℤ tt) -ℤ (t *ℤ t)) *ℤ p
level_same n t tt y ty d p v e f =
    let a : tt *ℤ (y *ℤ d) ≡ tt *ℤ ((n *ℤ p) +ℤ (v *ℤ t)) = ap (λ (z : ℤ). tt *ℤ z) e in
    let b : t *ℤ (ty *ℤ d) ≡ t *ℤ ((t *ℤ p) +ℤ (v *ℤ tt)) = ap (λ (z : ℤ). t *ℤ z) f in
    let a' = simp ring at a in
    let b' = simp ring at b in
    simp ring (omega (arith, linear, a', b'))

slope_same : (n t tt y ty d p v : ℤ) → y *ℤ d ≡ (n *ℤ p) +ℤ (v *ℤ t) → ty *ℤ d ≡ (t *ℤ p) +ℤ (v *ℤ tt) → ((n *ℤ ty) -ℤ (t *ℤ y)) *ℤ d ≡ ((n *ℤ tt) -ℤ (t *ℤ t)) *ℤ v
slope_same n t tt y ty d p v e f =
    let a : t *ℤ (y *ℤ d) ≡ t *ℤ ((n *ℤ p) +ℤ (v *ℤ t)) = ap (λ (z : ℤ). t *ℤ z) e in
    let b : n *ℤ (ty *ℤ d) ≡ n *ℤ ((t *ℤ p) +ℤ (v *ℤ tt)) = ap (λ (z : ℤ). n *ℤ z) f in
    let a' = simp ring at a in
    let b' = simp ring at b in
    simp ring (omega (arith, linear, a', b'))

residual_same : (y s m l k d p v : ℤ) → l *ℤ d ≡ m *ℤ p → k *ℤ d ≡ m *ℤ v → ((y *ℤ m) -ℤ (l +ℤ (k *ℤ s))) *ℤ d ≡ m *ℤ ((y *ℤ d) -ℤ (p +ℤ (v *ℤ s)))
residual_same y s m l k d p v e f =
    let g : s *ℤ (k *ℤ d) ≡ s *ℤ (m *ℤ v) = ap (λ (z : ℤ). s *ℤ z) f in
    simp ring (omega (arith, linear, e, g))

pub residuals_same : (f : Line) (xs : List Point) → IsLeastSquares f xs → (x : Point) → residual (line_over xs) x *ℤ f.d ≡ time_spread xs *ℤ residual f x
residuals_same f xs is x =
    let a = residuals_total f xs in
    let b = moments_total f xs in
    let first = is.residuals in
    let second = is.moments in
    let e : positions xs *ℤ f.d ≡ (count xs *ℤ f.p) +ℤ (f.v *ℤ times xs) = omega (arith, linear, a, first) in
    let g : products xs *ℤ f.d ≡ (times xs *ℤ f.p) +ℤ (f.v *ℤ squares xs) = omega (arith, linear, b, second) in
    residual_same x.position x.time (time_spread xs) (line_over xs).p (line_over xs).v f.d f.p f.v
    (level_same (count xs) (times xs) (squares xs) (positions xs) (products xs) f.d f.p f.v e g)
    (slope_same (count xs) (times xs) (squares xs) (positions xs) (products xs) f.d f.p f.v e g)

-- ---- the denominator is above 0
-- the squared times from s, added up
abbrev gaps : ℤ → List Point → ℤ
gaps s = total (λ x. (x.time -ℤ s) *ℤ (x.time -ℤ s))

gaps_step : (s t n ts tts rest : ℤ) → rest ≡ ((n *ℤ (s *ℤ s)) -ℤ ((s *ℤ ts) +ℤ (s *ℤ ts))) +ℤ tts → ((t -ℤ s) *ℤ (t -ℤ s)) +ℤ rest ≡ (((pos 1 +ℤ n) *ℤ (s *ℤ s)) -ℤ ((s *ℤ (t +ℤ ts)) +ℤ (s *ℤ (t +ℤ ts)))) +ℤ ((t *ℤ t) +ℤ tts)
gaps_step s t n ts tts rest e = let o = mul_one s in rw e (simp ring (rw o (omega (arith, linear))))

gaps_are : (s : ℤ) (xs : List Point) → gaps s xs ≡ ((count xs *ℤ (s *ℤ s)) -ℤ ((s *ℤ times xs) +ℤ (s *ℤ times xs))) +ℤ squares xs
gaps_are s [] = no_gaps s
gaps_are s (x ∷ rest) =
    gaps_step s x.time (count rest) (times rest) (squares rest) (gaps s rest) (gaps_are s rest)
    ∙ ap (λ (n : ℤ). ((n *ℤ (s *ℤ s)) -ℤ ((s *ℤ times (x ∷ rest)) +ℤ (s *ℤ times (x ∷ rest)))) +ℤ squares (x ∷ rest)) (sym (counted (length rest)))

square_not_negative : (a : ℤ) → pos 0 ≤ℤ (a *ℤ a)
square_not_negative a = by_lt_z {P = pos 0 ≤ℤ (a *ℤ a)} a (pos 0)
    (λ l. let m = mul_positive (pos 0 -ℤ a) (pos 0 -ℤ a) (omega (arith, ints, l)) (omega (arith, ints, l)) in negated a m)
    (λ g. mul_not_negative a a g g)
  where
    negated : (a : ℤ) → pos 0 <ℤ ((pos 0 -ℤ a) *ℤ (pos 0 -ℤ a)) → pos 0 ≤ℤ (a *ℤ a)
    negated a m =
        let z = mul_zero a in
        let y = mul_zero (pos 0) in
        let m' = simp ring at m in
        omega (arith, linear, m', z, y)

gaps_not_negative : (s : ℤ) (xs : List Point) → pos 0 ≤ℤ gaps s xs
gaps_not_negative s [] = omega (arith, ints)
gaps_not_negative s (x ∷ rest) = let a = square_not_negative (x.time -ℤ s) in let b = gaps_not_negative s rest in omega (arith, ints, a, b)

spread_step : (t n ts tts g : ℤ) → g ≡ ((n *ℤ (t *ℤ t)) -ℤ ((t *ℤ ts) +ℤ (t *ℤ ts))) +ℤ tts → ((pos 1 +ℤ n) *ℤ ((t *ℤ t) +ℤ tts)) -ℤ ((t +ℤ ts) *ℤ (t +ℤ ts)) ≡ ((n *ℤ tts) -ℤ (ts *ℤ ts)) +ℤ g
spread_step t n ts tts g e = let o = mul_one t in let q = mul_one tts in rw e (simp ring (rw (o, q) (omega (arith, linear))))

spread_more : (x : Point) (rest : List Point) → time_spread (x ∷ rest) ≡ time_spread rest +ℤ gaps x.time rest
spread_more x rest =
    ap (λ (n : ℤ). (n *ℤ squares (x ∷ rest)) -ℤ (times (x ∷ rest) *ℤ times (x ∷ rest))) (counted (length rest))
    ∙ spread_step x.time (count rest) (times rest) (squares rest) (gaps x.time rest) (gaps_are x.time rest)

spread_not_negative : (xs : List Point) → pos 0 ≤ℤ time_spread xs
spread_not_negative [] = let a = zero_mul (pos 0) in omega (arith, linear, a)
spread_not_negative (x ∷ rest) = let a = spread_not_negative rest in let b = gaps_not_negative x.time rest in let e = spread_more x rest in omega (arith, ints, a, b, e)

pub spread_positive : (x y : Point) (rest : List Point) → x.time <ℤ y.time → pos 0 <ℤ time_spread (x ∷ y ∷ rest)
spread_positive x y rest l =
    let a = spread_not_negative (y ∷ rest) in
    let b = gaps_not_negative x.time rest in
    let c = mul_positive (y.time -ℤ x.time) (y.time -ℤ x.time) (omega (arith, ints, l)) (omega (arith, ints, l)) in
    let e = spread_more x (y ∷ rest) in
    omega (arith, ints, a, b, c, e)

-- ---- the sums of the times are the same on both axes
same_times : (g : ℤ → ℤ) (axis : Axis) (first : SpotData) (spots : List SpotData) → total (λ x. g x.time) (map (point_from axis first) spots) ≡ total (λ x. g x.time) (map (point_from Ra first) spots)
same_times g axis first [] = refl
same_times g axis first (s ∷ rest) = ap (λ (z : ℤ). g (s.epoch -ℤ first.epoch) +ℤ z) (same_times g axis first rest)

same_spread : (axis : Axis) (spots : List SpotData) → time_spread (points axis spots) ≡ time_spread (points Ra spots)
same_spread axis [] = refl
same_spread axis (first ∷ rest) =
    let spots : List SpotData = first ∷ rest in
    let n : length (map (point_from axis first) spots) ≡ length (map (point_from Ra first) spots) = length-map spots (point_from axis first) ∙ sym (length-map spots (point_from Ra first)) in
    let t : times (map (point_from axis first) spots) ≡ times (map (point_from Ra first) spots) = same_times (λ z. z) axis first spots in
    let tt : squares (map (point_from axis first) spots) ≡ squares (map (point_from Ra first) spots) = same_times (λ z. z *ℤ z) axis first spots in
    joined _ _ _ _ _ _ n t tt
  where
    joined : (k l : ℕ) (t u tt uu : ℤ) → k ≡ l → t ≡ u → tt ≡ uu → (pos k *ℤ tt) -ℤ (t *ℤ t) ≡ (pos l *ℤ uu) -ℤ (u *ℤ u)
    joined k l t u tt uu e f g = rw (e, f, g) refl

-- ---- the law
points_spread : (spots : List SpotData) → 2 ≤ length spots → HaveRisingEpochs spots → pos 0 <ℤ time_spread (points Ra spots)
points_spread [] two rise = absurd (omega arith)
points_spread (a ∷ []) two rise = absurd (omega arith)
points_spread (a ∷ b ∷ rest) two rise =
    let r = rise zero (suc zero) a (omega arith) (omega arith) in
    spread_positive (point_from Ra a a) (point_from Ra a b) (map (point_from Ra a) rest) (omega (arith, ints, r))

pub residuals_scaled : (spots : List SpotData) → 2 ≤ length spots → HaveRisingEpochs spots → (scale : ℤ) × (pos 0 <ℤ scale) × ((axis : Axis) → HasResiduals axis spots scale)
residuals_scaled spots two rise =
    let p = points_spread spots two rise in (
      time_spread (points Ra spots),
      p,
      λ axis.
          let e = same_spread axis spots in
          let p' : pos 0 <ℤ time_spread (points axis spots) = rw e p in
          record {
            scaled = e;
            is_one = line_is_one (points axis spots) p';
            are_all = λ f is k d h. residuals_same f (points axis spots) is (get_or (points axis spots) k d) ∙ ap (λ (z : ℤ). z *ℤ residual f (get_or (points axis spots) k d)) e;
          },
    )
