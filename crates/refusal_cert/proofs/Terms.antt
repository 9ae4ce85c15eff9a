-- The sums and products over two steps fit their types, and are read from their bits as they are.
use Rattle.std.proofs.Common.{◌≡◌, ℕ, ◌+◌, ◌*◌, ◌≤◌, ◌^◌, ℤ, pos, neg_ℤ, ◌+ℤ◌, ◌-ℤ◌, ◌*ℤ◌, ◌<ℤ◌, w64, FitsSigned, arith, refl}
use mir.Syntax.{w128}
use Rattle.std.specs.Int.RustNames.{unsigned_abs}
use Rattle.std.proofs.lemmas.Int.{ints, to_z-of_z}
use Rattle.sky_math.proofs.Order.{linear, mul_positive, product_most}
use Rattle.sky_units.specs.FracData.{IsFrac}
use Rattle.sky_units.specs.Ranges.{IsBetween}
use Rattle.quad_fit.specs.MarkRanges.{IsMark}
use Rattle.quad_fit.proofs.Sizes.{held, held_wide, stretch_terms as stretch_terms_of_times}
use Rattle.refusal_cert.specs.Coefficients.{IsStep}

fits : (a : ℤ) (m : ℕ) → unsigned_abs a ≤ m → m ≤ 9000000000000000000 → FitsSigned w64 a
fits a m p q = omega (arith, ints)

fits_wide : (a : ℤ) (m : ℕ) → unsigned_abs a ≤ m → m ≤ 10 ^ 33 → FitsSigned w128 a
fits_wide a m p q = omega (arith, ints)

time_size : (t r : ℤ) → IsStep t r → unsigned_abs t ≤ 30000000
time_size t r s = omega (arith, ints)

rise_size : (t r : ℤ) → IsStep t r → unsigned_abs r ≤ 90000000
rise_size t r s = omega (arith, ints)

-- two steps of an arc, one after the other
pub record AreSteps (st sr tt tr : ℤ) : Type 0 where
  pub first : IsStep st sr
  pub second : IsStep tt tr
  pub brief : (st +ℤ tt) <ℤ pos 30000000

both_times : (st sr tt tr : ℤ) → AreSteps st sr tt tr → unsigned_abs st + unsigned_abs tt ≤ 30000000
both_times st sr tt tr s =
    let first = s.first in
    let second = s.second in
    let brief = s.brief in
    omega (arith, ints, first, second, brief)

time_fits : (t r : ℤ) → IsStep t r → FitsSigned w64 t
time_fits t r s = fits t 30000000 (time_size t r s) (omega arith)

rise_fits : (t r : ℤ) → IsStep t r → FitsSigned w64 r
rise_fits t r s = fits r 90000000 (rise_size t r s) (omega arith)

-- ---- the bend
pub record BendTerms (st sr tt tr : ℤ) : Type 0 where
  pub bend_fits : FitsSigned w64 (held (held tr *ℤ held st) -ℤ held (held sr *ℤ held tt))
  pub is : held (held (held tr *ℤ held st) -ℤ held (held sr *ℤ held tt)) ≡ (tr *ℤ st) -ℤ (sr *ℤ tt)
  pub size : unsigned_abs ((tr *ℤ st) -ℤ (sr *ℤ tt)) ≤ 2700000000000000

between : (a b : ℤ) (m n : ℕ) → unsigned_abs a ≤ 90000000 * m → unsigned_abs b ≤ 90000000 * n → m + n ≤ 30000000 → unsigned_abs (a -ℤ b) ≤ 2700000000000000
between a b m n p q r = omega (arith, ints)

pub bend_terms : (st sr tt tr : ℤ) → AreSteps st sr tt tr → BendTerms st sr tt tr
bend_terms st sr tt tr s =
    let a = time_fits st sr s.first in
    let b = rise_fits st sr s.first in
    let c = time_fits tt tr s.second in
    let d = rise_fits tt tr s.second in
    let whole = both_times st sr tt tr s in
    let left : unsigned_abs (tr *ℤ st) ≤ 90000000 * unsigned_abs st = product_most tr st 90000000 (unsigned_abs st) (rise_size tt tr s.second) (omega arith) in
    let right : unsigned_abs (sr *ℤ tt) ≤ 90000000 * unsigned_abs tt = product_most sr tt 90000000 (unsigned_abs tt) (rise_size st sr s.first) (omega arith) in
    let both = between (tr *ℤ st) (sr *ℤ tt) (unsigned_abs st) (unsigned_abs tt) left right whole in
    let e = fits (tr *ℤ st) 2700000000000000 (omega arith) (omega arith) in
    let f = fits (sr *ℤ tt) 2700000000000000 (omega arith) (omega arith) in
    let g = fits ((tr *ℤ st) -ℤ (sr *ℤ tt)) 2700000000000000 both (omega arith) in
    record { bend_fits = simp to_z-of_z g; is = simp to_z-of_z refl; size = both }

-- ---- the slack
pub record SlackTerms (tol st tt : ℤ) : Type 0 where
  pub slack_fits : FitsSigned w64 (held (held tol +ℤ held tol) *ℤ held (held st +ℤ held tt))
  pub is : held (held (held tol +ℤ held tol) *ℤ held (held st +ℤ held tt)) ≡ (tol +ℤ tol) *ℤ (st +ℤ tt)
  pub size : unsigned_abs ((tol +ℤ tol) *ℤ (st +ℤ tt)) ≤ 6000000000000

sum_size : (a b : ℤ) (m n : ℕ) → unsigned_abs a ≤ m → unsigned_abs b ≤ n → unsigned_abs (a +ℤ b) ≤ m + n
sum_size a b m n p q = omega (arith, ints)

whole_size : (st sr tt tr : ℤ) → AreSteps st sr tt tr → unsigned_abs (st +ℤ tt) ≤ 30000000
whole_size st sr tt tr s =
    let first = s.first in
    let second = s.second in
    let brief = s.brief in
    omega (arith, ints, first, second, brief)

pub slack_terms : (tol st sr tt tr : ℤ) → IsBetween (pos 0) (pos 100000) tol → AreSteps st sr tt tr → SlackTerms tol st tt
slack_terms tol st sr tt tr t s =
    let a = time_fits st sr s.first in
    let c = time_fits tt tr s.second in
    let o : unsigned_abs tol ≤ 100000 = omega (arith, ints) in
    let l = fits tol 100000 o (omega arith) in
    let both = sum_size tol tol 100000 100000 o o in
    let d = fits (tol +ℤ tol) 200000 both (omega arith) in
    let whole = whole_size st sr tt tr s in
    let e = fits (st +ℤ tt) 30000000 whole (omega arith) in
    let slack : unsigned_abs ((tol +ℤ tol) *ℤ (st +ℤ tt)) ≤ 6000000000000 = product_most (tol +ℤ tol) (st +ℤ tt) 200000 30000000 both whole in
    let f = fits ((tol +ℤ tol) *ℤ (st +ℤ tt)) 6000000000000 slack (omega arith) in
    record { slack_fits = simp to_z-of_z f; is = simp to_z-of_z refl; size = slack }

-- ---- the stretch
pub record StretchTerms (st tt : ℤ) : Type 0 where
  pub stretch_fits : FitsSigned w128 (held_wide (held (held st *ℤ held tt)) *ℤ held_wide (held (held st +ℤ held tt)))
  pub is : held_wide (held_wide (held (held st *ℤ held tt)) *ℤ held_wide (held (held st +ℤ held tt))) ≡ (st *ℤ tt) *ℤ (st +ℤ tt)
  pub range : IsBetween (pos 1) (pos (10 ^ 22)) ((st *ℤ tt) *ℤ (st +ℤ tt))

mark : (t : ℤ) → neg_ℤ (pos 30000000) <ℤ t → t <ℤ pos 30000000 → IsMark t (pos 0)
mark t low high = record { not_long_before = low; not_long_after = high; above = omega (arith, ints); below = omega (arith, ints) }

-- by the same fact of three times
stretch_size : (st sr tt tr : ℤ) → AreSteps st sr tt tr → unsigned_abs ((st *ℤ tt) *ℤ (st +ℤ tt)) ≤ 6750000000000000000000
stretch_size st sr tt tr s =
    let first = s.first in
    let second = s.second in
    let brief = s.brief in
    let t = stretch_terms_of_times (pos 0) (pos 0) st (pos 0) (st +ℤ tt) (pos 0)
    (mark (pos 0) (omega (arith, ints)) (omega (arith, ints))) (mark st (omega (arith, ints, first)) (omega (arith, ints, first))) (mark (st +ℤ tt) (omega (arith, ints, first, second)) brief)
    (omega (arith, ints, first)) (omega (arith, ints, second)) (omega (arith, ints, brief)) in
    let a : st -ℤ pos 0 ≡ st = omega (arith, ints) in
    let b : (st +ℤ tt) -ℤ st ≡ tt = omega (arith, ints) in
    let c : (st +ℤ tt) -ℤ pos 0 ≡ st +ℤ tt = omega (arith, ints) in
    rw (a, b, c) at t.size

in_range : (n : ℤ) → unsigned_abs n ≤ 6750000000000000000000 → pos 0 <ℤ n → IsBetween (pos 1) (pos (10 ^ 22)) n
in_range n p q = omega (arith, ints)

pub stretch_terms : (st sr tt tr : ℤ) → AreSteps st sr tt tr → StretchTerms st tt
stretch_terms st sr tt tr s =
    let a = time_fits st sr s.first in
    let c = time_fits tt tr s.second in
    let first = s.first in
    let second = s.second in
    let whole = whole_size st sr tt tr s in
    let two : unsigned_abs (st *ℤ tt) ≤ 900000000000000 = product_most st tt 30000000 30000000 (time_size st sr first) (time_size tt tr second) in
    let three = stretch_size st sr tt tr s in
    let d = fits (st *ℤ tt) 900000000000000 two (omega arith) in
    let e = fits_wide (st *ℤ tt) 900000000000000 two (omega arith) in
    let f = fits (st +ℤ tt) 30000000 whole (omega arith) in
    let g = fits_wide (st +ℤ tt) 30000000 whole (omega arith) in
    let h = fits_wide ((st *ℤ tt) *ℤ (st +ℤ tt)) 6750000000000000000000 three (omega arith) in
    let p : pos 0 <ℤ (st *ℤ tt) = mul_positive st tt (omega (arith, linear, first)) (omega (arith, linear, second)) in
    let q : pos 0 <ℤ ((st *ℤ tt) *ℤ (st +ℤ tt)) = mul_positive (st *ℤ tt) (st +ℤ tt) p (omega (arith, linear, first, second)) in
    record { stretch_fits = simp to_z-of_z h; is = simp to_z-of_z refl; range = in_range ((st *ℤ tt) *ℤ (st +ℤ tt)) three q }

-- ---- the ends
pub record EndTerms (bend slack den : ℤ) : Type 0 where
  pub low_fits : FitsSigned w64 (held bend -ℤ held slack)
  pub high_fits : FitsSigned w64 (held bend +ℤ held slack)
  pub low_is : held_wide (held (held bend -ℤ held slack)) ≡ bend -ℤ slack
  pub high_is : held_wide (held (held bend +ℤ held slack)) ≡ bend +ℤ slack
  pub den_is : held_wide den ≡ den
  pub low_frac : IsFrac (bend -ℤ slack) den
  pub high_frac : IsFrac (bend +ℤ slack) den

end_frac : (n d : ℤ) → unsigned_abs n ≤ 3000000000000000 → IsBetween (pos 1) (pos (10 ^ 22)) d → IsFrac n d
end_frac n d p q = record { num_in_range = record { from = omega (arith, ints); to = omega (arith, ints) }; den_in_range = q }

den_fits : (d : ℤ) → IsBetween (pos 1) (pos (10 ^ 22)) d → FitsSigned w128 d
den_fits d q = omega (arith, ints)

pub end_terms : (bend slack den : ℤ) → unsigned_abs bend ≤ 2700000000000000 → unsigned_abs slack ≤ 6000000000000 → IsBetween (pos 1) (pos (10 ^ 22)) den → EndTerms bend slack den
end_terms bend slack den b k q =
    let n = fits bend 2700000000000000 b (omega arith) in
    let m = fits slack 6000000000000 k (omega arith) in
    let low : unsigned_abs (bend -ℤ slack) ≤ 3000000000000000 = omega (arith, ints) in
    let high : unsigned_abs (bend +ℤ slack) ≤ 3000000000000000 = omega (arith, ints) in
    let l = fits (bend -ℤ slack) 3000000000000000 low (omega arith) in
    let h = fits (bend +ℤ slack) 3000000000000000 high (omega arith) in
    let lw = fits_wide (bend -ℤ slack) 3000000000000000 low (omega arith) in
    let hw = fits_wide (bend +ℤ slack) 3000000000000000 high (omega arith) in
    record {
      low_fits = simp to_z-of_z l;
      high_fits = simp to_z-of_z h;
      low_is = simp to_z-of_z refl;
      high_is = simp to_z-of_z refl;
      den_is = to_z-of_z w128 den (den_fits den q);
      low_frac = end_frac (bend -ℤ slack) den low q;
      high_frac = end_frac (bend +ℤ slack) den high q;
    }

-- ---- a step
pub record StepTerms (from to rise : ℤ) : Type 0 where
  pub is_step : IsStep (held (held to -ℤ held from)) (held rise)
  pub time_is : held (held to -ℤ held from) ≡ to -ℤ from
  pub rise_is : held rise ≡ rise

epoch_fits : (e : ℤ) → IsBetween (pos 0) (pos 200000000000) e → FitsSigned w64 e
epoch_fits e h = omega (arith, ints)

pub step_terms : (from to rise : ℤ) → IsBetween (pos 0) (pos 200000000000) from → IsBetween (pos 0) (pos 200000000000) to → from <ℤ to → (to -ℤ from) <ℤ pos 30000000 → neg_ℤ (pos 90000000) <ℤ rise → rise <ℤ pos 90000000 → StepTerms from to rise
step_terms from to rise pf pt later brief above below =
    let a = epoch_fits from pf in
    let b = epoch_fits to pt in
    let c : FitsSigned w64 (to -ℤ from) = omega (arith, ints) in
    let d : FitsSigned w64 rise = omega (arith, ints) in
    let time : held (held to -ℤ held from) ≡ to -ℤ from = simp to_z-of_z refl in
    let same : held rise ≡ rise = to_z-of_z w64 rise d in
    let is : IsStep (to -ℤ from) rise = record { later = omega (arith, ints); brief = brief; above = above; below = below } in
    record { is_step = rw (time, same) is; time_is = time; rise_is = same }
