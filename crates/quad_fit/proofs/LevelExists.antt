-- Where points are admitted, a curve is levelled on some of them that passes them all: the exchange ends there.
use Rattle.std.proofs.Common.{◌≡◌, ℕ, ◌-◌, ◌≤◌, ◌<◌, ◌^◌, ℤ, pos, neg_ℤ, ◌+ℤ◌, ◌-ℤ◌, ◌*ℤ◌, ◌≤ℤ◌, ◌<ℤ◌, Bool, true, false, List, [], ◌∷◌, length, get_or, refl, sym, arith}
use Rattle.std.specs.Int.RustNames.{unsigned_abs}
use Rattle.std.specs.List.{All, Contains}
use Rattle.std.proofs.lemmas.Int.{by_lt_z, ints}
use Rattle.std.proofs.lemmas.List.{get_or_default}
use Rattle.std.proofs.lemmas.List.Elements.{All-cons, All-contains, All-nil}
use Prim.Native.Nat.{zero, suc}
use mathlib.Core.Logic.{◌⊎◌, inl, inr}
use Rattle.sky_math.proofs.Order.{linear}
use Rattle.sky_math.specs.Quadratics.{Admits, Passes, Point, residual}
use Rattle.sky_math.specs.Triples.{bend, slack, stretch}
use Rattle.sky_units.specs.Ranges.{IsBetween}
use Rattle.quad_fit.specs.Curves.{CurveData, IsCurveData, quadratic_of}
use Rattle.quad_fit.specs.Levels.{IsBent, IsLevel}
use Rattle.quad_fit.specs.MarkRanges.{AreMarks, IsMarkPoint}
use Rattle.quad_fit.specs.References.{signed, least_slope, AsksMoreBend, AsksMoreSlope, IsLevelled, IsLevelLine, IsPairOf, IsTripleOf, NonePasses}
use Rattle.quad_fit.specs.declared.levelling.Levelled.{Levelled}
use Rattle.quad_fit.specs.declared.levelling.Reference.TheVariants as reference
use Rattle.quad_fit.specs.declared.references.Pair.{Pair}
use Rattle.quad_fit.specs.declared.references.Triple.{Triple}
use Rattle.quad_fit.proofs.Exchanges.{Outer, OuterPair, bent_down, bent_up, ends_pair, inner_after, inner_before, inner_between, outer_after, outer_before, steeper_after, steeper_before}
use Rattle.quad_fit.proofs.Heights.{headroom}
use Rattle.quad_fit.proofs.LevelCurves.{level_line_of, levelled_of}
use Rattle.quad_fit.proofs.LevelSteps.{IsState, admitted_of, bend_left, bend_sinks, line_admitted, slope_sinks, still_bent}
use Rattle.quad_fit.proofs.Sizes.{bend_terms, rise_terms, slack_terms, slope_terms, start_terms, stretch_between, stretch_terms, sum_most}

-- ---- the curves of references
lean_size : (up : Bool) (tol : ℤ) → IsBetween (pos 0) (pos 100000) tol → unsigned_abs (neg_ℤ (signed up tol)) ≤ 100000
lean_size true tol r = omega (arith, ints, r.from, r.to)
lean_size false tol r = omega (arith, ints, r.from, r.to)

mark_size : (time position : ℤ) → IsMarkPoint (record { time = time; position = position }) → unsigned_abs time ≤ 30000000
mark_size time position m = omega (arith, ints, m.not_long_before, m.not_long_after)

record CurveOf (tol : ℤ) (up : Bool) (t : Triple) : Type 0 where
  pub curve : CurveData
  pub levelled : IsLevelled tol up t curve
  pub range : IsCurveData curve

curve_of : (tol : ℤ) (up : Bool) (xs : List Point) (t : Triple) → IsBetween (pos 0) (pos 100000) tol → AreMarks xs → IsTripleOf xs t → CurveOf tol up t
curve_of tol up xs t r marks is =
    let x : Point = t.first in
    let y : Point = t.middle in
    let z : Point = t.last in
    let l : ℤ = neg_ℤ (signed up tol) in
    let hl : unsigned_abs l ≤ 100000 = lean_size up tol r in
    let mx = All-contains IsMarkPoint xs x marks.each is.has_first in
    let my = All-contains IsMarkPoint xs y marks.each is.has_middle in
    let mz = All-contains IsMarkPoint xs z marks.each is.has_last in
    let before = is.is.before in
    let after = is.is.after in
    let brief = is.is.brief in
    let rising : x.time <ℤ z.time = omega (arith, linear, before, after) in
    let d : ℤ = stretch x y z in
    let dr : IsBetween (pos 1) (pos (10 ^ 22)) d = stretch_between x.time y.time z.time before after (stretch_terms _ _ _ _ _ _ mx my mz before after brief).size in
    let rise : ℤ = (y.position -ℤ x.position) -ℤ (l +ℤ l) in
    let hr = (rise_terms x.time x.position y.time y.position l mx my hl).size in
    let hb = (bend_terms x.time x.position y.time y.position z.time z.position mx my mz before after brief).size in
    let hk = (slack_terms l x.time x.position z.time z.position hl mx mz rising brief).size in
    let most : unsigned_abs (bend x y z +ℤ slack l x z) ≤ 5406000000000000 = sum_most (bend x y z) (slack l x z) 5400000000000000 6000000000000 hb hk in
    record {
      curve = record { start = (x.position +ℤ l) *ℤ d; slope = rise *ℤ ((z.time -ℤ y.time) *ℤ (z.time -ℤ x.time)); bend = bend x y z +ℤ slack l x z; den = d; first = x.time; second = y.time };
      levelled = levelled_of tol up t l ((x.position +ℤ l) *ℤ d) (rise *ℤ ((z.time -ℤ y.time) *ℤ (z.time -ℤ x.time))) (bend x y z +ℤ slack l x z) d x.time y.time refl refl refl refl refl refl refl;
      range = record {
        start_size = (start_terms x.time x.position l d mx hl dr).size;
        slope_size = (slope_terms rise x.time x.position y.time y.position z.time z.position hr mx my mz before after brief).size;
        bend_size = omega (arith, most);
        den_range = dr;
        first_size = mark_size x.time x.position mx;
        second_size = mark_size y.time y.position my;
      };
    }

record LineOf (tol : ℤ) (pair : Pair) : Type 0 where
  pub line : CurveData
  pub level : IsLevelLine tol pair line
  pub range : IsCurveData line

line_of : (tol : ℤ) (xs : List Point) (pair : Pair) → IsBetween (pos 0) (pos 100000) tol → AreMarks xs → IsPairOf xs pair → LineOf tol pair
line_of tol xs pair r marks is =
    let x : Point = pair.first in
    let y : Point = pair.last in
    let ht : unsigned_abs tol ≤ 100000 = omega (arith, ints, r.from, r.to) in
    let mx = All-contains IsMarkPoint xs x marks.each is.has_first in
    let my = All-contains IsMarkPoint xs y marks.each is.has_last in
    let before = is.before in
    let d : ℤ = y.time -ℤ x.time in
    let dr : IsBetween (pos 1) (pos (10 ^ 22)) d = gap x.time x.position y.time y.position mx my before in
    let hr = (rise_terms x.time x.position y.time y.position tol mx my ht).size in
    record {
      line = record { start = (x.position +ℤ tol) *ℤ d; slope = least_slope tol pair; bend = pos 0; den = d; first = x.time; second = y.time };
      level = level_line_of tol pair ((x.position +ℤ tol) *ℤ d) (least_slope tol pair) d x.time y.time refl refl refl refl refl;
      range = record {
        start_size = (start_terms x.time x.position tol d mx ht dr).size;
        slope_size = omega (arith, hr);
        bend_size = omega (arith, ints);
        den_range = dr;
        first_size = mark_size x.time x.position mx;
        second_size = mark_size y.time y.position my;
      };
    }
  where
    gap : (a p b q : ℤ) → IsMarkPoint (record { time = a; position = p }) → IsMarkPoint (record { time = b; position = q }) → a <ℤ b → IsBetween (pos 1) (pos (10 ^ 22)) (b -ℤ a)
    gap a p b q m n h = record { from = omega (arith, ints, h); to = omega (arith, ints, m.not_long_before, n.not_long_after) }

-- ---- a point outside, or none
-- a number is beyond a bound on one side or the other
abbrev IsBeyond : ℤ → ℤ → Type 0
IsBeyond e r = (e <ℤ r) ⊎ (r <ℤ neg_ℤ e)

record Beyond (tol : ℤ) (c : CurveData) (xs : List Point) : Type 0 where
  pub point : Point
  pub among : Contains xs point
  pub side : IsBeyond (tol *ℤ c.den) (residual (quadratic_of c) point)

still_beyond : (tol : ℤ) (c : CurveData) (x : Point) (xs : List Point) → Beyond tol c xs → Beyond tol c (x ∷ xs)
still_beyond tol c x xs b = record { point = b.point; among = (suc b.among.0, omega (arith, b.among.1), b.among.2); side = b.side }

beyond_or_all : (tol : ℤ) (c : CurveData) (xs : List Point) → Beyond tol c xs ⊎ All (Passes tol (quadratic_of c)) xs
beyond_or_all tol c [] = inr (All-nil (Passes tol (quadratic_of c)))
beyond_or_all tol c (x ∷ xs) =
    let r : ℤ = residual (quadratic_of c) x in
    let here : Contains (x ∷ xs) x = (0, omega arith, refl) in
    by_lt_z {P = Beyond tol c (x ∷ xs) ⊎ All (Passes tol (quadratic_of c)) (x ∷ xs)} (tol *ℤ c.den) r
    (λ above. inl (record { point = x; among = here; side = inl above }))
    (λ most. by_lt_z {P = Beyond tol c (x ∷ xs) ⊎ All (Passes tol (quadratic_of c)) (x ∷ xs)} r (neg_ℤ (tol *ℤ c.den))
    (λ below. inl (record { point = x; among = here; side = inr below }))
    (λ least. elim (beyond_or_all tol c xs) as (λ _. Beyond tol c (x ∷ xs) ⊎ All (Passes tol (quadratic_of c)) (x ∷ xs)) [
      | inl b ↦ inl (still_beyond tol c x xs b)
      | inr all ↦ inr (All-cons (Passes tol (quadratic_of c)) x xs (least, most) all)
    ]))

signed_beyond : (up : Bool) (e r : ℤ) → IsBeyond e r → IsBeyond e (signed up r)
signed_beyond true e r b = b
signed_beyond false e r (inl above) = inr (omega (arith, linear, above))
signed_beyond false e r (inr below) = inl (omega (arith, linear, below))

-- ---- where the exchange ends
pub record Found (acc tol : ℤ) (xs : List Point) : Type 0 where
  pub levelled : Levelled
  pub is : IsLevel acc tol xs levelled
  pub range : IsCurveData levelled.curve

-- three points that ask for more bend, or no quadratic at all
abbrev NextTriple : ℤ → Bool → CurveData → List Point → Type 0
NextTriple tol up c xs = NonePasses tol xs ⊎ ((u : Triple) × IsTripleOf xs u × AsksMoreBend tol up c u)

next_triple : (tol : ℤ) (up : Bool) (c : CurveData) (xs : List Point) (t : Triple) (w : Point) → Outer tol up c xs t w → IsBeyond (tol *ℤ c.den) (signed up (residual (quadratic_of c) w)) → NextTriple tol up c xs
next_triple tol up c xs t w o (inl far) =
    by_lt_z {P = NextTriple tol up c xs} t.first.time w.time
    (λ before. by_lt_z {P = NextTriple tol up c xs} w.time t.last.time
    (λ after. inr (let r = inner_between tol up c xs t w o far before after in (record { first = t.first; middle = w; last = t.last }, r.0, r.1)))
    (λ late. inl (inner_after tol up c xs t w o far late)))
    (λ early. inl (inner_before tol up c xs t w o far early))
next_triple tol up c xs t w o (inr far) =
    by_lt_z {P = NextTriple tol up c xs} w.time t.middle.time
    (λ early. inr (let r = outer_before tol up c xs t w o far early in (record { first = w; middle = t.middle; last = t.last }, r.0, r.1)))
    (λ late. inr (let r = outer_after tol up c xs t w o far late in (record { first = t.first; middle = t.middle; last = w }, r.0, r.1)))

-- two points that ask for more slope, or three that no line passes
abbrev NextPair : ℤ → CurveData → List Point → Type 0
NextPair tol c xs = ((p : Pair) × IsPairOf xs p × AsksMoreSlope tol c p) ⊎ ((up : Bool) × (u : Triple) × IsTripleOf xs u × IsBent tol up u)

next_pair : (tol : ℤ) (c : CurveData) (xs : List Point) (pair : Pair) (w : Point) → OuterPair tol c xs pair w → IsBeyond (tol *ℤ c.den) (residual (quadratic_of c) w) → NextPair tol c xs
next_pair tol c xs pair w o (inl far) =
    by_lt_z {P = NextPair tol c xs} w.time pair.last.time
    (λ early. inl (let r = steeper_before tol c xs pair w o far early in (record { first = w; last = pair.last }, r.0, r.1)))
    (λ late. inr (let r = bent_down tol c xs pair w o far late in (false, record { first = pair.first; middle = pair.last; last = w }, r.0, r.1)))
next_pair tol c xs pair w o (inr far) =
    by_lt_z {P = NextPair tol c xs} pair.first.time w.time
    (λ late. inl (let r = steeper_after tol c xs pair w o far late in (record { first = pair.first; last = w }, r.0, r.1)))
    (λ early. inr (let r = bent_up tol c xs pair w o far early in (true, record { first = w; middle = pair.first; last = pair.last }, r.0, r.1)))

module _ (acc tol : ℤ) (xs : List Point) (pa : pos 0 ≤ℤ acc) (rt : IsBetween (pos 0) (pos 100000) tol) (marks : AreMarks xs) (admits : Admits acc tol xs) where
  from_triple : (fuel : ℕ) (up : Bool) (t : Triple) (c : CurveData) → IsState tol up xs t c → IsBent tol up t → bend_left up c < fuel → Found acc tol xs
  from_triple zero up t c s bent less = absurd (omega (arith, less))
  from_triple (suc n) up t c s bent less = elim (beyond_or_all tol c xs) as (λ _. Found acc tol xs) [
    | inr all ↦ record { levelled = record { curve = c; reference = reference.Triple t up }; is = record { admitted = admitted_of acc tol up xs t c pa s bent admits; passes = all; rests = (s.is, bent, s.levelled) }; range = s.range }
    | inl b ↦
        let outer : Outer tol up c xs t b.point = record { marks = marks; tol_ok = rt.from; is = s.is; levelled = s.levelled; among = b.among } in
        elim (next_triple tol up c xs t b.point outer (signed_beyond up (tol *ℤ c.den) (residual (quadratic_of c) b.point) b.side)) as (λ _. Found acc tol xs) [
          | inl none ↦ absurd (none admits.0 admits.1.0 admits.2)
          | inr next ↦
              let u : Triple = next.0 in
              let is : IsTripleOf xs u = next.1 in
              let asks : AsksMoreBend tol up c u = next.2 in
              let made = curve_of tol up xs u rt marks is in
              let sinks : bend_left up made.curve < bend_left up c = bend_sinks tol up xs t u c made.curve s asks made.levelled made.range in
              from_triple n up u made.curve (record { is = is; levelled = made.levelled; range = made.range }) (still_bent tol up xs t u c s bent is asks) (omega (arith, less, sinks))
        ]
  ]

  from_pair : (fuel : ℕ) (pair : Pair) (c : CurveData) → IsPairOf xs pair → IsLevelLine tol pair c → IsCurveData c → headroom c.slope c.den < fuel → Found acc tol xs
  from_pair zero pair c is level range less = absurd (omega (arith, less))
  from_pair (suc n) pair c is level range less = elim (beyond_or_all tol c xs) as (λ _. Found acc tol xs) [
    | inr all ↦ record { levelled = record { curve = c; reference = reference.Pair pair }; is = record { admitted = line_admitted acc tol pair c pa level range; passes = all; rests = (is, level) }; range = range }
    | inl b ↦
        let outer : OuterPair tol c xs pair b.point = record { marks = marks; tol_ok = rt.from; is = is; level = level; among = b.among } in
        elim (next_pair tol c xs pair b.point outer b.side) as (λ _. Found acc tol xs) [
          | inl next ↦
              let made = line_of tol xs next.0 rt marks next.1 in
              let sinks : headroom made.line.slope made.line.den < headroom c.slope c.den = slope_sinks tol pair next.0 c made.line range next.2 made.level made.range in
              from_pair n next.0 made.line next.1 made.level made.range (omega (arith, less, sinks))
          | inr next ↦
              let made = curve_of tol next.0 xs next.1 rt marks next.2 in
              from_triple (suc (bend_left next.0 made.curve)) next.0 next.1 made.curve (record { is = next.2; levelled = made.levelled; range = made.range }) next.3 (omega arith)
        ]
  ]

  pub level_exists : (d : Point) → 2 ≤ length xs → Found acc tol xs
  level_exists d two =
      let n : length xs - 1 < length xs = omega (arith, two) in
      let x : Point = get_or xs 0 d in
      let y : Point = get_or xs (length xs - 1) d in
      let ex : get_or xs 0 x ≡ x = get_or_default xs 0 x d (omega (arith, two)) in
      let ey : get_or xs (length xs - 1) y ≡ y = get_or_default xs (length xs - 1) y d n in
      let pair : Pair = record { first = x; last = y } in
      let is : IsPairOf xs pair = ends_pair xs (length xs - 1) x y marks (omega (arith, two)) n (sym ex) (sym ey) in
      let made = line_of tol xs pair rt marks is in
      from_pair (suc (headroom made.line.slope made.line.den)) pair made.line is made.level made.range (omega arith)
