-- Spots that an axis admits have a reported quadratic.
use Rattle.std.proofs.Common.{◌≡◌, ◌∙◌, ℕ, ◌≤◌, ◌<◌, ◌%◌, ◌/◌, ℤ, pos, negsuc, neg_ℤ, ◌-ℤ◌, ◌*ℤ◌, List, [], ◌∷◌, length, map, refl, ap, arith}
use Rattle.std.specs.Int.{IsGcd, ◌∣◌}
use Rattle.std.specs.Int.RustNames.{unsigned_abs}
use Rattle.std.specs.List.{Contains}
use Rattle.std.proofs.Math.Nat.{div-mul_cancel, mod-lt}
use Rattle.std.proofs.lemmas.Int.{ints}
use Rattle.std.proofs.lemmas.List.{length-map}
use Rattle.std.proofs.lemmas.Nat.Gcd.{IsGcd-from_mod, IsGcd-from_zero}
use Prim.Native.Nat.{zero, suc}
use Rattle.sky_math.proofs.Ring.{neg_mul}
use Rattle.sky_math.specs.Quadratics.{Quadratic}
use Rattle.sky_units.proofs.Parts.{near_of_arc}
use Rattle.sky_units.specs.Arcs.{AreNear, IsArc}
use Rattle.sky_units.specs.Motion.{AxisAdmits, acceleration, offset, point_from, tolerance}
use Rattle.sky_units.specs.QuadData.{IsQuad, QuadData}
use Rattle.sky_units.specs.Ranges.{IsBetween}
use Rattle.sky_units.specs.Reported.{IsReported, middle_epoch, position_of}
use Rattle.sky_units.specs.SettingsData.{AreSettings, SettingsData}
use Rattle.sky_units.specs.SpotData.{SpotData}
use Rattle.sky_units.specs.declared.axis.Axis.{Axis}
use Rattle.sky_units.specs.declared.axis.Axis.TheVariants.{Ra, Dec}
use Rattle.quad_fit.specs.Laws.{ReportedExists}
use Rattle.quad_fit.specs.Lowering.{AreCoefficients, IsDivisorOf}
use Rattle.quad_fit.specs.MarkRanges.{AreMarks}
use Rattle.quad_fit.proofs.LevelExists.{Found, level_exists}
use Rattle.quad_fit.proofs.LoweredTerms.{divisor_of, divisor_terms, lowered_of, quad_of}
use Rattle.quad_fit.proofs.MarkLists.{marks_of_arc}
use Rattle.quad_fit.proofs.MiddleEpochs.{middle_near}
use Rattle.quad_fit.proofs.ReportedOf.{reported_of}
use Rattle.quad_fit.proofs.SeenTerms.{seen, seen_is, seen_terms}
use Rattle.quad_fit.proofs.TightLevels.{tight_level}

-- ---- lowest terms
gcd : (fuel a b : ℕ) → b < fuel → (g : ℕ) × IsGcd a b g
gcd zero a b h = absurd (omega arith)
gcd (suc n) a zero h = (a, IsGcd-from_zero a 0 refl)
gcd (suc n) a (suc b) h =
    let r : a % suc b < suc b = mod-lt a (omega arith) in
    let below = gcd n (suc b) (a % suc b) (omega arith) in
    (below.0, IsGcd-from_mod a (suc b) below.0 below.1)

divisor : (f : Quadratic) → (g : ℕ) × IsDivisorOf f g
divisor f =
    let one = gcd (suc (unsigned_abs f.p)) (unsigned_abs f.d) (unsigned_abs f.p) (omega arith) in
    let two = gcd (suc (unsigned_abs f.q)) (unsigned_abs f.v) (unsigned_abs f.q) (omega arith) in
    let both = gcd (suc two.0) one.0 two.0 (omega arith) in
    (both.0, divisor_of f one.0 two.0 both.0 one.1 two.1 both.1)

quotient : (n : ℤ) (g : ℕ) → g ∣ unsigned_abs n → (a : ℤ) × (a *ℤ pos g ≡ n)
quotient (pos m) g h = (pos (m / g), ap pos (div-mul_cancel g h))
quotient (negsuc m) g h = (neg_ℤ (pos (suc m / g)), neg_mul (pos (suc m / g)) (pos g) ∙ ap (λ (k : ℕ). neg_ℤ (pos k)) (div-mul_cancel g h))

-- ---- the ranges of the settings
tolerance_range : (axis : Axis) (settings : SettingsData) → AreSettings settings → IsBetween (pos 0) (pos 100000) (tolerance axis settings)
tolerance_range Ra settings are = are.tol_ra_in_range
tolerance_range Dec settings are = are.tol_dec_in_range

acceleration_range : (axis : Axis) (settings : SettingsData) → AreSettings settings → IsBetween (pos 0) (pos 1000000) (acceleration axis settings)
acceleration_range Ra settings are = are.acc_ra_in_range
acceleration_range Dec settings are = are.acc_dec_in_range

near_size : (axis : Axis) (a b : SpotData) → AreNear axis a b → unsigned_abs (offset axis a b) ≤ 180000000
near_size axis a b near = omega (arith, ints, near.0, near.1)

-- ---- the reported quadratic
module _ (axis : Axis) (settings : SettingsData) (first : SpotData) (rest : List SpotData) (are : AreSettings settings) (arc : IsArc (first ∷ rest)) (two : 2 ≤ length (first ∷ rest)) (admits : AxisAdmits axis settings (first ∷ rest)) where
  has : Contains (first ∷ rest) first
  has = (0, omega arith, refl)

  found : Found (acceleration axis settings) (tolerance axis settings) (map (point_from axis first) (first ∷ rest))
  found =
      let marks : AreMarks (map (point_from axis first) (first ∷ rest)) = marks_of_arc axis first (first ∷ rest) arc has in
      let acc_range = acceleration_range axis settings are in
      level_exists (acceleration axis settings) (tolerance axis settings) (map (point_from axis first) (first ∷ rest)) acc_range.from (tolerance_range axis settings are) marks admits (point_from axis first first)
      (omega (arith, two, length-map (first ∷ rest) (point_from axis first)))

  told : (quad : QuadData) × IsReported axis settings (first ∷ rest) quad × IsQuad quad.den quad.p quad.v quad.q
  told =
      let level : Found (acceleration axis settings) (tolerance axis settings) (map (point_from axis first) (first ∷ rest)) = found in
      let time : ℤ = middle_epoch (first ∷ rest) -ℤ first.epoch in
      let place : ℤ = offset axis first first in
      let near = middle_near (first ∷ rest) first arc has in
      let size = near_size axis first first (near_of_arc axis (first ∷ rest) first first arc has has) in
      let f : Quadratic = seen time place level.levelled.curve in
      let sizes : AreCoefficients f.p f.v f.q f.d = (seen_terms _ _ _ _ _ _ time place level.range near size).sizes in
      let g = divisor f in
      let some = (divisor_terms f g.0 sizes g.1).some in
      let p = quotient f.p g.0 g.1.divides_p in
      let v = quotient f.v g.0 g.1.divides_v in
      let q = quotient f.q g.0 g.1.divides_q in
      let d = quotient f.d g.0 g.1.divides_d in
      let quad : QuadData = record { base = position_of axis first; start = middle_epoch (first ∷ rest); den = d.0; p = p.0; v = v.0; q = q.0 } in (
        quad,
        reported_of axis settings (first ∷ rest) first first _ f quad arc has (omega arith) refl
            (tight_level (acceleration axis settings) (tolerance axis settings) (map (point_from axis first) (first ∷ rest)) level.levelled level.is)
            (seen_is time place level.levelled.curve) (lowered_of f g.0 p.0 v.0 q.0 d.0 some g.1 p.1 v.1 q.1 d.1) refl refl,
        quad_of f g.0 p.0 v.0 q.0 d.0 sizes some g.1 p.1 v.1 q.1 d.1,
      )

pub reported_exists : ReportedExists
reported_exists axis settings [] are arc two admits = absurd (omega arith)
reported_exists axis settings (first ∷ rest) are arc two admits = told axis settings first rest are arc two admits
