-- Where each three points leave some coefficient of the limit, and each four have some in common, all points are admitted: an exchange climbs to a curve that passes them.
use Rattle.std.proofs.Common.{◌≡◌, ℕ, ◌*◌, ◌^◌, ◌<◌, ◌≤◌, ℤ, pos, neg_ℤ, ◌+ℤ◌, ◌-ℤ◌, ◌*ℤ◌, ◌≤ℤ◌, ◌<ℤ◌, true, List, [], ◌∷◌, length, get_or, refl, subst, zero, suc, arith}
use Rattle.std.proofs.lemmas.Int.{ints, by_lt_z}
use Rattle.std.proofs.lemmas.List.{get_or_default}
use Rattle.std.proofs.lemmas.List.Elements.{All-cons, All-contains, All-nil}
use Rattle.std.specs.Int.RustNames.{unsigned_abs}
use Rattle.std.specs.List.{All, Contains}
use mathlib.Core.Logic.{◌⊎◌, inl, inr}
use Rattle.sky_math.proofs.Coefficients.{suits_all_of_passes}
use Rattle.sky_math.proofs.Order.{linear, mul_not_negative}
use Rattle.sky_math.specs.Quadratics.{Point, Quadratic, Admits, Passes, residual}
use Rattle.sky_math.specs.Triples.{bend, slack, stretch}
use Rattle.sky_units.specs.FracData.{FracData}
use Rattle.sky_units.specs.Ranges.{IsBetween}
use Rattle.quad_fit.specs.Curves.{CurveData, IsCurveData, quadratic_of}
use Rattle.quad_fit.specs.MarkRanges.{AreMarks, IsMarkPoint}
use Rattle.quad_fit.specs.References.{AsksMoreBend, IsTripleOf}
use Rattle.quad_fit.specs.declared.references.Triple.{Triple}
use Rattle.quad_fit.proofs.Exchanges.{Outer, inner_between, outer_after, outer_before, stretch_positive, strictly}
use Rattle.quad_fit.proofs.LevelCurves.{levelled_of}
use Rattle.quad_fit.proofs.LevelSteps.{IsState, bend_left, bend_sinks}
use Rattle.quad_fit.proofs.Sizes.{bend_terms, rise_terms, slack_terms, slope_terms, start_terms, stretch_between, stretch_terms}
use Rattle.refusal_cert.specs.Coefficients.{IsAtMost, coefficient_of}
use Rattle.refusal_cert.proofs.Alternations.{EachFourHaveCommon, beyond_first, beyond_last, four_among, three_among}
use Rattle.refusal_cert.proofs.Fractions.{EachKeepsLimit, admits_from, greatest, least, over}

-- ---- the curve of three points
-- a curve levelled on three of the points
pub record IsOn (tol : ℤ) (xs : List Point) (t : Triple) : Type 0 where
  pub curve : CurveData
  pub state : IsState tol true xs t curve

time_size : (x : Point) → IsMarkPoint x → unsigned_abs x.time ≤ 30000000
time_size x m = omega (arith, ints)

sum_size : (bend slack : ℤ) → unsigned_abs bend ≤ 5400000000000000 → unsigned_abs slack ≤ 6000000000000 → unsigned_abs (bend +ℤ slack) ≤ 6 * 10 ^ 15
sum_size bend slack p q = omega (arith, ints)

lean_size : (tol : ℤ) → IsBetween (pos 0) (pos 100000) tol → unsigned_abs (neg_ℤ tol) ≤ 100000
lean_size tol h = omega (arith, ints)

pub curve_on : (tol : ℤ) (xs : List Point) (t : Triple) → IsBetween (pos 0) (pos 100000) tol → AreMarks xs → IsTripleOf xs t → IsOn tol xs t
curve_on tol xs t range marks is =
    let x : Point = t.first in
    let y : Point = t.middle in
    let z : Point = t.last in
    let mx = All-contains IsMarkPoint xs x marks.each is.has_first in
    let my = All-contains IsMarkPoint xs y marks.each is.has_middle in
    let mz = All-contains IsMarkPoint xs z marks.each is.has_last in
    let l : ℤ = neg_ℤ tol in
    let size : unsigned_abs (neg_ℤ tol) ≤ 100000 = lean_size tol range in
    let d : ℤ = stretch x y z in
    let before = is.is.before in
    let after = is.is.after in
    let brief = is.is.brief in
    let whole = stretch_between x.time y.time z.time before after (stretch_terms x.time x.position y.time y.position z.time z.position mx my mz before after brief).size in
    let rise = rise_terms x.time x.position y.time y.position l mx my size in
    let c : CurveData = record {
      start = (x.position +ℤ l) *ℤ d;
      slope = ((y.position -ℤ x.position) -ℤ (l +ℤ l)) *ℤ ((z.time -ℤ y.time) *ℤ (z.time -ℤ x.time));
      bend = bend x y z +ℤ slack l x z;
      den = d;
      first = x.time;
      second = y.time;
    } in
    let fits : IsCurveData c = record {
      start_size = (start_terms x.time x.position l d mx size whole).size;
      slope_size = (slope_terms ((y.position -ℤ x.position) -ℤ (l +ℤ l)) x.time x.position y.time y.position z.time z.position rise.size mx my mz before after brief).size;
      bend_size = sum_size (bend x y z) (slack l x z) (bend_terms x.time x.position y.time y.position z.time z.position mx my mz before after brief).size (slack_terms l x.time x.position z.time z.position size mx mz (omega (arith, linear, before, after)) brief).size;
      den_range = whole;
      first_size = time_size x mx;
      second_size = time_size y my;
    } in
    record { curve = c; state = record { is = is; levelled = levelled_of tol true t l c.start c.slope c.bend c.den c.first c.second refl refl refl refl refl refl refl; range = fits } }

-- ---- a point outside
-- a point that the quadratic misses, below or above
pub record Misses (tol : ℤ) (f : Quadratic) (xs : List Point) : Type 0 where
  pub point : Point
  pub among : Contains xs point
  pub far : (residual f point <ℤ neg_ℤ (tol *ℤ f.d)) ⊎ ((tol *ℤ f.d) <ℤ residual f point)

later_miss : (tol : ℤ) (f : Quadratic) (x : Point) (xs : List Point) → Misses tol f xs → Misses tol f (x ∷ xs)
later_miss tol f x xs m = record { point = m.point; among = (suc m.among.0, omega (arith, m.among.1), m.among.2); far = m.far }

pub passes_or_misses : (tol : ℤ) (f : Quadratic) (xs : List Point) → All (Passes tol f) xs ⊎ Misses tol f xs
passes_or_misses tol f [] = inl (All-nil (Passes tol f))
passes_or_misses tol f (x ∷ xs) = by_lt_z (residual f x) (neg_ℤ (tol *ℤ f.d))
    (λ low. inr record { point = x; among = (0, omega arith, refl); far = inl low })
    (λ not_low. by_lt_z (tol *ℤ f.d) (residual f x)
    (λ high. inr record { point = x; among = (0, omega arith, refl); far = inr high })
    (λ not_high. elim (passes_or_misses tol f xs) as (λ _. All (Passes tol f) (x ∷ xs) ⊎ Misses tol f (x ∷ xs)) [
      | inl all ↦ inl (All-cons (Passes tol f) x xs (not_low, not_high) all)
      | inr m ↦ inr (later_miss tol f x xs m)
    ]))

-- ---- an exchange
-- what is known of the points
pub record AreGiven (tol : ℤ) (xs : List Point) : Type 0 where
  pub marks : AreMarks xs
  pub range : IsBetween (pos 0) (pos 100000) tol
  pub common : EachFourHaveCommon tol xs

-- three of the points whose curve passes all
pub record Summit (tol : ℤ) (xs : List Point) : Type 0 where
  pub triple : Triple
  pub on : IsOn tol xs triple
  pub passes : All (Passes tol (quadratic_of on.curve)) xs

-- three of the points that ask for more bend
abbrev Higher : ℤ → List Point → CurveData → Triple → Type 0
Higher tol xs c u = IsTripleOf xs u × AsksMoreBend tol true c u

outer_of : (tol : ℤ) (xs : List Point) (t : Triple) (w : Point) → AreGiven tol xs → (o : IsOn tol xs t) → Contains xs w → Outer tol true o.curve xs t w
outer_of tol xs t w g o has = record { marks = g.marks; tol_ok = g.range.from; is = o.state.is; levelled = o.state.levelled; among = has }

-- the curve's coefficient is the least that suits its three points
is_least : (tol : ℤ) (xs : List Point) (t : Triple) → (o : IsOn tol xs t) → least tol t.first t.middle t.last ≡ over o.curve.bend o.curve.den
is_least tol xs t o = rw (o.state.levelled.leads, o.state.levelled.over) refl

room : (tol : ℤ) (xs : List Point) (t : Triple) → AreGiven tol xs → (o : IsOn tol xs t) → pos 0 ≤ℤ (tol *ℤ o.curve.den)
room tol xs t g o =
    let p : pos 0 <ℤ o.curve.den = rw (o.state.levelled.over) (stretch_positive t o.state.is.is) in
    mul_not_negative tol o.curve.den g.range.from (omega (arith, linear, p))

none_before : (tol : ℤ) (xs : List Point) (t : Triple) (w : Point) → AreGiven tol xs → (o : IsOn tol xs t) → Contains xs w → (tol *ℤ o.curve.den) <ℤ residual (quadratic_of o.curve) w → w.time ≤ℤ t.first.time → ⊥
none_before tol xs t w g o has far early =
    let l = o.state.levelled in
    let is = o.state.is in
    let first = l.at_first in
    let r = room tol xs t g o in
    let before = strictly xs (λ x. residual (quadratic_of o.curve) x) w t.first g.marks.rise has is.has_first (λ e. absurd (omega (arith, linear, e, first, far, r))) early in
    let four = four_among tol xs w t.first t.middle t.last g.marks.rise g.common has is.has_first is.has_middle is.has_last before is.is.before is.is.after in
    beyond_first tol (quadratic_of o.curve) w t.first t.middle (record { before = before; after = is.is.before }) far l.at_first l.at_middle (subst (λ (f : FracData). IsAtMost f (greatest tol w t.first t.middle)) (is_least tol xs t o) four.1)

none_after : (tol : ℤ) (xs : List Point) (t : Triple) (w : Point) → AreGiven tol xs → (o : IsOn tol xs t) → Contains xs w → (tol *ℤ o.curve.den) <ℤ residual (quadratic_of o.curve) w → t.last.time ≤ℤ w.time → ⊥
none_after tol xs t w g o has far late =
    let l = o.state.levelled in
    let is = o.state.is in
    let last = l.at_last in
    let r = room tol xs t g o in
    let after = strictly xs (λ x. residual (quadratic_of o.curve) x) t.last w g.marks.rise is.has_last has (λ e. absurd (omega (arith, linear, e, last, far, r))) late in
    let four = four_among tol xs t.first t.middle t.last w g.marks.rise g.common is.has_first is.has_middle is.has_last has is.is.before is.is.after after in
    beyond_last tol (quadratic_of o.curve) t.middle t.last w (record { before = is.is.after; after = after }) l.at_middle l.at_last far (subst (λ (f : FracData). IsAtMost f (greatest tol t.middle t.last w)) (is_least tol xs t o) four.0)

-- a point outside makes with two of the three others that ask for more bend
record Exchanged (tol : ℤ) (xs : List Point) (c : CurveData) : Type 0 where
  triple : Triple
  higher : Higher tol xs c triple

exchanged : (tol : ℤ) (xs : List Point) (t : Triple) → AreGiven tol xs → (o : IsOn tol xs t) → Misses tol (quadratic_of o.curve) xs → Exchanged tol xs o.curve
exchanged tol xs t g o m =
    let w : Point = m.point in
    let outer = outer_of tol xs t w g o m.among in
    elim m.far as (λ _. Exchanged tol xs o.curve) [
      | inl low ↦ by_lt_z w.time t.middle.time
          (λ early. record { triple = record { first = w; middle = t.middle; last = t.last }; higher = outer_before tol true o.curve xs t w outer low early })
          (λ late. record { triple = record { first = t.first; middle = t.middle; last = w }; higher = outer_after tol true o.curve xs t w outer low late })
      | inr high ↦ by_lt_z t.first.time w.time
          (λ behind. by_lt_z w.time t.last.time
          (λ within. record { triple = record { first = t.first; middle = w; last = t.last }; higher = inner_between tol true o.curve xs t w outer high behind within })
          (λ late. absurd (none_after tol xs t w g o m.among high late)))
          (λ early. absurd (none_before tol xs t w g o m.among high early))
    ]

-- one exchange after the other
climb : (tol : ℤ) (xs : List Point) (fuel : ℕ) (t : Triple) → AreGiven tol xs → (o : IsOn tol xs t) → bend_left true o.curve < fuel → Summit tol xs
climb tol xs zero t g o h = absurd (omega arith)
climb tol xs (suc fuel) t g o h = elim (passes_or_misses tol (quadratic_of o.curve) xs) as (λ _. Summit tol xs) [
  | inl all ↦ record { triple = t; on = o; passes = all }
  | inr m ↦
      let e = exchanged tol xs t g o m in
      let next = curve_on tol xs e.triple g.range g.marks e.higher.0 in
      let sinks : bend_left true next.curve < bend_left true o.curve = bend_sinks tol true xs t e.triple o.curve next.curve o.state e.higher.1 next.state.levelled next.state.range in
      climb tol xs fuel e.triple g next (omega arith)
]

-- the first three points
start_of : (xs : List Point) (d : Point) → AreMarks xs → 2 < length xs → IsTripleOf xs (record { first = get_or xs 0 d; middle = get_or xs 1 d; last = get_or xs 2 d })
start_of xs d marks many = record {
  is = record { before = marks.rise 0 1 d (omega arith) (omega arith); after = marks.rise 1 2 d (omega arith) (omega arith); brief = marks.short 0 2 d (omega arith) (omega arith) };
  has_first = at xs 0 d (omega arith);
  has_middle = at xs 1 d (omega arith);
  has_last = at xs 2 d (omega arith);
}
  where
    at : (xs : List Point) (i : ℕ) (d : Point) → i < length xs → Contains xs (get_or xs i d)
    at xs i d h = (i, h, get_or_default xs i (get_or xs i d) d h)

pub all_admitted : (acc tol : ℤ) (xs : List Point) (d : Point) → pos 0 ≤ℤ acc → AreGiven tol xs → EachKeepsLimit acc tol xs → 2 < length xs → Admits acc tol xs
all_admitted acc tol xs d pa g keeps many =
    let t : Triple = record { first = get_or xs 0 d; middle = get_or xs 1 d; last = get_or xs 2 d } in
    let o = curve_on tol xs t g.range g.marks (start_of xs d g.marks many) in
    let s = climb tol xs (suc (bend_left true o.curve)) t g o (omega arith) in
    let c : CurveData = s.on.curve in
    let u : Triple = s.triple in
    let is = s.on.state.is in
    let pd : pos 0 <ℤ c.den = rw (s.on.state.levelled.over) (stretch_positive u is.is) in
    admits_from acc tol c.bend c.den xs pa g.range.from pd g.marks.rise (suits_all_of_passes tol (quadratic_of c) xs g.marks.rise s.passes)
    (subst (λ (f : FracData). IsAtMost f (coefficient_of acc)) (is_least tol xs u s.on) (three_among acc tol xs u g.marks.rise keeps is).0) keeps
