-- The slopes of each two spots tell whether there is a line: the greatest of the lower ones is a slope of one.
use Rattle.std.proofs.Common.{◌≡◌, ℕ, ◌<◌, ℤ, pos, neg_ℤ, ◌+ℤ◌, ◌-ℤ◌, ◌*ℤ◌, ◌≤ℤ◌, ◌<ℤ◌, true, ◌&&◌, List, [], ◌∷◌, map, length, get_or, refl, arith}
use Rattle.std.proofs.lemmas.Bool.{cases_order}
use Rattle.std.proofs.lemmas.Int.{ints, by_lt_z}
use Rattle.std.proofs.lemmas.List.{get_or-map, length-map, get_or_default}
use Rattle.std.proofs.lemmas.List.Elements.{All-cons, All-map}
use Rattle.std.proofs.lemmas.List.Sums.{AllPass-from_list_all, list_all-from_AllPass}
use Rattle.std.specs.List.{All, list_all}
use Rattle.std.specs.Prelude.{IsTrue, ◌↔◌}
use Prim.Native.Nat.{zero, suc}
use mathlib.Core.Logic.{◌⊎◌, inl, inr}
use Rattle.sky_math.proofs.Greatest.{IsOrder, greatest}
use Rattle.sky_math.proofs.Lines.{at_most_chain}
use Rattle.sky_math.proofs.Order.{linear, mul_not_negative}
use Rattle.sky_math.proofs.Ring.{add_mul, mul_sub, neg_mul}
use Rattle.sky_math.specs.Lists.{EachTwo}
use Rattle.sky_math.specs.Quadratics.{IsWithin, Point}
use Rattle.sky_units.proofs.Between.{offset_between}
use Rattle.sky_units.proofs.EpochOrder.{lt_of_test, test_of_lt}
use Rattle.sky_units.specs.Arcs.{AreNear, HaveRisingEpochs, MeetSpreadRule}
use Rattle.sky_units.specs.FracData.{FracData}
use Rattle.sky_units.specs.Motion.{offset, point_from, points}
use Rattle.sky_units.specs.Pairs.{EpochsDontFall}
use Rattle.sky_units.specs.SpotData.{SpotData}
use Rattle.sky_units.specs.declared.axis.Axis.{Axis}
use Rattle.sky_units.specs.declared.axis.Axis.TheVariants.{Ra, Dec}
use Rattle.line_fit.specs.Lines.{Line, IsNearPoint, HasLine, AreOnLine, each_two, least_slope, greatest_slope, per_tick, is_at_most, slopes_meet, follows_near, lies_on_line}
use Rattle.line_fit.specs.Quotients.{IsAtMost, IsAtLeast}
use Rattle.line_fit.specs.Slopes.{Suits}
use Rattle.line_fit.proofs.Twos.{both, and_of, all_unmapped, all_rest, all_of_two, two_of_all}

-- ---- bounds that all lie on the right side of some quotient
record Between (lowers uppers : List FracData) : Type 0 where
  pub a : ℤ
  pub b : ℤ
  pub positive : pos 0 <ℤ b
  pub above : All (λ f. IsAtMost f a b) lowers
  pub below : All (λ f. IsAtLeast f a b) uppers

abbrev IsProper : FracData → Type 0
IsProper f = pos 0 <ℤ f.den

abbrev AtMost : FracData → FracData → Type 0
AtMost f g = (f.num *ℤ g.den) ≤ℤ (g.num *ℤ f.den)

order : IsOrder AtMost IsProper
order = record {
  same = λ a. omega (arith, linear);
  total = λ a b p q. by_lt_z {P = AtMost a b ⊎ AtMost b a} (a.num *ℤ b.den) (b.num *ℤ a.den) (λ l. inl (omega (arith, linear, l))) (λ l. inr l);
  chain = λ a b c p q r h k. at_most_chain a.num a.den b.num b.den c.num c.den p q r h k;
}

at_most_of_test : (f g : FracData) → is_at_most f g ≡ true → AtMost f g
at_most_of_test f g h = omega (arith, ints, h)

test_of_at_most : (f g : FracData) → AtMost f g → is_at_most f g ≡ true
test_of_at_most f g h = grind (arith, ints)

between_of_meets : (low : FracData) (lows uppers : List FracData) → All IsProper (low ∷ lows) → list_all (λ l. list_all (is_at_most l) uppers) (low ∷ lows) ≡ true → Between (low ∷ lows) uppers
between_of_meets low lows uppers proper h =
    let lowers : List FracData = low ∷ lows in
    let f : ℕ → FracData = λ i. get_or lowers i low in
    let all = AllPass-from_list_all (λ l. list_all (is_at_most l) uppers) lowers h in
    let top = greatest AtMost IsProper order f (length lows) (λ i lt. proper i low (omega arith)) in
    let m : ℕ = top.top in
    let within : m < suc (length lows) = top.within in
    let here = AllPass-from_list_all (is_at_most (f m)) uppers (all m low (omega arith)) in
    record {
      a = (f m).num;
      b = (f m).den;
      positive = proper m low (omega arith);
      above = λ k d lt. let r = top.upper k (omega arith) in rw (get_or_default lowers k d low lt) r;
      below = λ k d lt. at_most_of_test (f m) (get_or uppers k d) (here k d lt);
    }

meets_of_between : (lowers uppers : List FracData) → All IsProper lowers → All IsProper uppers → Between lowers uppers → list_all (λ l. list_all (is_at_most l) uppers) lowers ≡ true
meets_of_between lowers uppers p q w =
    list_all-from_AllPass (λ l. list_all (is_at_most l) uppers) lowers (λ k d lt.
    list_all-from_AllPass (is_at_most (get_or lowers k d)) uppers (λ j e ln.
    test_of_at_most (get_or lowers k d) (get_or uppers j e)
    (at_most_chain (get_or lowers k d).num (get_or lowers k d).den w.a w.b (get_or uppers j e).num (get_or uppers j e).den (p k d lt) w.positive (q j e ln) (w.above k d lt) (w.below j e ln))))

-- ---- a slope that suits each two spots and keeps the rate
pub record SomeSlope (axis : Axis) (tol rate : ℤ) (spots : List SpotData) : Type 0 where
  pub a : ℤ
  pub b : ℤ
  pub positive : pos 0 <ℤ b
  pub from : IsAtMost (per_tick (neg_ℤ rate)) a b
  pub to : IsAtLeast (per_tick rate) a b
  pub suits : EachTwo (Suits axis tol a b) spots

abbrev lowers : Axis → ℤ → ℤ → List SpotData → List FracData
lowers axis tol rate spots = per_tick (neg_ℤ rate) ∷ map (least_slope axis tol) (each_two spots)

abbrev uppers : Axis → ℤ → ℤ → List SpotData → List FracData
uppers axis tol rate spots = per_tick rate ∷ map (greatest_slope axis tol) (each_two spots)

lowers_proper : (axis : Axis) (tol rate : ℤ) (spots : List SpotData) → HaveRisingEpochs spots → All IsProper (lowers axis tol rate spots)
lowers_proper axis tol rate spots rise =
    All-cons IsProper (per_tick (neg_ℤ rate)) (map (least_slope axis tol) (each_two spots)) (omega (arith, ints))
    (All-map IsProper (least_slope axis tol) (each_two spots) (all_of_two (λ x y. pos 0 <ℤ (y.epoch -ℤ x.epoch)) spots (λ i j d ij jn. let r = rise i j d ij jn in omega (arith, ints, r))))

uppers_proper : (axis : Axis) (tol rate : ℤ) (spots : List SpotData) → HaveRisingEpochs spots → All IsProper (uppers axis tol rate spots)
uppers_proper axis tol rate spots rise =
    All-cons IsProper (per_tick rate) (map (greatest_slope axis tol) (each_two spots)) (omega (arith, ints))
    (All-map IsProper (greatest_slope axis tol) (each_two spots) (all_of_two (λ x y. pos 0 <ℤ (y.epoch -ℤ x.epoch)) spots (λ i j d ij jn. let r = rise i j d ij jn in omega (arith, ints, r))))

pub some_slope_of_meets : (axis : Axis) (tol rate : ℤ) (spots : List SpotData) → HaveRisingEpochs spots → slopes_meet axis tol rate spots ≡ true → SomeSlope axis tol rate spots
some_slope_of_meets axis tol rate spots rise h =
    let w = between_of_meets (per_tick (neg_ℤ rate)) (map (least_slope axis tol) (each_two spots)) (uppers axis tol rate spots) (lowers_proper axis tol rate spots rise) h in
    let low = two_of_all (λ x y. IsAtMost (least_slope axis tol (x, y)) w.a w.b) spots (all_unmapped (λ f. IsAtMost f w.a w.b) (least_slope axis tol) (each_two spots) (all_rest (λ f. IsAtMost f w.a w.b) (per_tick (neg_ℤ rate)) (map (least_slope axis tol) (each_two spots)) w.above)) in
    let high = two_of_all (λ x y. IsAtLeast (greatest_slope axis tol (x, y)) w.a w.b) spots (all_unmapped (λ f. IsAtLeast f w.a w.b) (greatest_slope axis tol) (each_two spots) (all_rest (λ f. IsAtLeast f w.a w.b) (per_tick rate) (map (greatest_slope axis tol) (each_two spots)) w.below)) in
    record {
      a = w.a;
      b = w.b;
      positive = w.positive;
      from = w.above zero (per_tick rate) (omega arith);
      to = w.below zero (per_tick rate) (omega arith);
      suits = λ i j d ij jn. (low i j d ij jn, high i j d ij jn);
    }

pub meets_of_some_slope : (axis : Axis) (tol rate : ℤ) (spots : List SpotData) → HaveRisingEpochs spots → SomeSlope axis tol rate spots → slopes_meet axis tol rate spots ≡ true
meets_of_some_slope axis tol rate spots rise w =
    meets_of_between (lowers axis tol rate spots) (uppers axis tol rate spots) (lowers_proper axis tol rate spots rise) (uppers_proper axis tol rate spots rise) record {
      a = w.a;
      b = w.b;
      positive = w.positive;
      above = All-cons (λ f. IsAtMost f w.a w.b) (per_tick (neg_ℤ rate)) (map (least_slope axis tol) (each_two spots)) w.from
          (All-map (λ f. IsAtMost f w.a w.b) (least_slope axis tol) (each_two spots) (all_of_two (λ x y. IsAtMost (least_slope axis tol (x, y)) w.a w.b) spots (λ i j d ij jn. (w.suits i j d ij jn).0)));
      below = All-cons (λ f. IsAtLeast f w.a w.b) (per_tick rate) (map (greatest_slope axis tol) (each_two spots)) w.to
          (All-map (λ f. IsAtLeast f w.a w.b) (greatest_slope axis tol) (each_two spots) (all_of_two (λ x y. IsAtLeast (greatest_slope axis tol (x, y)) w.a w.b) spots (λ i j d ij jn. (w.suits i j d ij jn).1)));
    }

-- ---- a slope that suits each two spots is that of a line near all, and only such a one is
near_at : (t b a p yk sk ym sm : ℤ) → p ≡ ((ym *ℤ b) -ℤ (a *ℤ sm)) -ℤ (t *ℤ b) → ((yk *ℤ b) -ℤ (a *ℤ sk)) ≤ℤ ((ym *ℤ b) -ℤ (a *ℤ sm)) → (((ym *ℤ b) -ℤ (a *ℤ sm)) -ℤ ((yk *ℤ b) -ℤ (a *ℤ sk))) ≤ℤ ((t *ℤ b) +ℤ (t *ℤ b)) → IsWithin (t *ℤ b) ((p +ℤ (a *ℤ sk)) -ℤ (yk *ℤ b))
near_at t b a p yk sk ym sm e h k = (omega (arith, linear, e, h, k), omega (arith, linear, e, h, k))

gap_before : (t b a o e yk sk ym sm : ℤ) → o ≡ yk -ℤ ym → e ≡ sk -ℤ sm → (a *ℤ e) ≤ℤ ((o +ℤ (t +ℤ t)) *ℤ b) → (((ym *ℤ b) -ℤ (a *ℤ sm)) -ℤ ((yk *ℤ b) -ℤ (a *ℤ sk))) ≤ℤ ((t *ℤ b) +ℤ (t *ℤ b))
gap_before t b a o e yk sk ym sm p q h = let r = simp (p, q, add_mul, mul_sub, neg_mul) at h in omega (arith, linear, r)

gap_after : (t b a o e yk sk ym sm : ℤ) → o ≡ ym -ℤ yk → e ≡ sm -ℤ sk → ((o -ℤ (t +ℤ t)) *ℤ b) ≤ℤ (a *ℤ e) → (((ym *ℤ b) -ℤ (a *ℤ sm)) -ℤ ((yk *ℤ b) -ℤ (a *ℤ sk))) ≤ℤ ((t *ℤ b) +ℤ (t *ℤ b))
gap_after t b a o e yk sk ym sm p q h = let r = simp (p, q, add_mul, mul_sub, neg_mul) at h in omega (arith, linear, r)

suits_between : (t v d p o e yi si yj sj : ℤ) → o ≡ yj -ℤ yi → e ≡ sj -ℤ si → IsWithin (t *ℤ d) ((p +ℤ (v *ℤ si)) -ℤ (yi *ℤ d)) → IsWithin (t *ℤ d) ((p +ℤ (v *ℤ sj)) -ℤ (yj *ℤ d)) →
    (((o -ℤ (t +ℤ t)) *ℤ d) ≤ℤ (v *ℤ e)) × ((v *ℤ e) ≤ℤ ((o +ℤ (t +ℤ t)) *ℤ d))
suits_between t v d p o e yi si yj sj eo ee h k = rw (eo, ee) (simp (add_mul, mul_sub, neg_mul) (omega (arith, linear, h, k)), simp (add_mul, mul_sub, neg_mul) (omega (arith, linear, h, k)))

-- each two spots are near on an axis
near_on : (axis : Axis) (spots : List SpotData) → MeetSpreadRule spots → EachTwo (AreNear axis) spots
near_on Ra spots s = λ i j d ij jn. (s i j d ij jn).0
near_on Dec spots s = λ i j d ij jn. (s i j d ij jn).1

itself : (axis : Axis) (a : SpotData) → AreNear axis a a
itself Ra a = let z : a.ra -ℤ a.ra ≡ pos 0 = omega (arith, ints) in rw z (omega (arith, ints), omega (arith, ints))
itself Dec a = (omega (arith, ints), omega (arith, ints))

near_first : (axis : Axis) (first : SpotData) (rest : List SpotData) → MeetSpreadRule (first ∷ rest) → (k : ℕ) → k < length (first ∷ rest) → AreNear axis first (get_or (first ∷ rest) k first)
near_first axis first rest s zero h = itself axis first
near_first axis first rest s (suc k) h = near_on axis (first ∷ rest) s zero (suc k) first (omega arith) h

pub record LineOfSlope (tol a b : ℤ) (xs : List Point) : Type 0 where
  pub p : ℤ
  pub near : All (IsNearPoint tol record { p = p; v = a; d = b }) xs

pub line_of_slope : (axis : Axis) (tol a b : ℤ) (spots : List SpotData) → pos 0 ≤ℤ tol → pos 0 <ℤ b → MeetSpreadRule spots → EachTwo (Suits axis tol a b) spots → LineOfSlope tol a b (points axis spots)
line_of_slope axis tol a b [] t pb s suits = record { p = pos 0; near = λ k d h. absurd (omega arith) }
line_of_slope axis tol a b (first ∷ rest) t pb s suits =
    let spots : List SpotData = first ∷ rest in
    let at : ℕ → SpotData = λ k. get_or spots k first in
    let time : ℕ → ℤ = λ k. (at k).epoch -ℤ first.epoch in
    let place : ℕ → ℤ = λ k. offset axis first (at k) in
    let back : ℕ → ℤ = λ k. (place k *ℤ b) -ℤ (a *ℤ time k) in
    let top = greatest (λ (x y : ℤ). x ≤ℤ y) (λ (x : ℤ). x ≤ℤ x) (record { same = λ x. omega (arith, ints); total = λ x y p q. by_lt_z {P = (x ≤ℤ y) ⊎ (y ≤ℤ x)} x y (λ l. inl (omega (arith, ints, l))) (λ l. inr l); chain = λ x y z p q r h k. omega (arith, ints, h, k) }) back (length rest) (λ i h. omega (arith, ints)) in
    let m : ℕ = top.top in
    let within : m < suc (length rest) = top.within in
    let wide : pos 0 ≤ℤ (tol *ℤ b) = mul_not_negative tol b t (omega (arith, linear)) in
    let gap : (k : ℕ) → k < length spots → (back m -ℤ back k) ≤ℤ ((tol *ℤ b) +ℤ (tol *ℤ b)) = λ k h. elim (cases_order m k) as (λ _. (back m -ℤ back k) ≤ℤ ((tol *ℤ b) +ℤ (tol *ℤ b))) [
      | inl e ↦ rw e (omega (arith, linear, wide))
      | inr (inl l) ↦ gap_before tol b a (offset axis (at m) (at k)) ((at k).epoch -ℤ (at m).epoch) (place k) (time k) (place m) (time m) (offset_between axis first (at m) (at k) (near_first axis first rest s m (omega arith)) (near_first axis first rest s k h)) (omega (arith, ints)) (suits m k first l h).1
      | inr (inr l) ↦ gap_after tol b a (offset axis (at k) (at m)) ((at m).epoch -ℤ (at k).epoch) (place k) (time k) (place m) (time m) (offset_between axis first (at k) (at m) (near_first axis first rest s k h) (near_first axis first rest s m (omega arith))) (omega (arith, ints)) (suits k m first l (omega arith)).0
    ] in
    record {
      p = back m -ℤ (tol *ℤ b);
      near = λ k d h.
          let lk : k < length spots = omega (arith, length-map spots (point_from axis first)) in
          let e : get_or (map (point_from axis first) spots) k d ≡ point_from axis first (at k) = get_or-map (point_from axis first) spots k first d lk in
          rw e (near_at tol b a (back m -ℤ (tol *ℤ b)) (place k) (time k) (place m) (time m) refl (top.upper k (omega arith)) (gap k lk));
    }

pub suits_of_line : (axis : Axis) (tol : ℤ) (f : Line) (spots : List SpotData) → MeetSpreadRule spots → All (IsNearPoint tol f) (points axis spots) → EachTwo (Suits axis tol f.v f.d) spots
suits_of_line axis tol f [] s near = λ i j d ij jn. absurd (omega arith)
suits_of_line axis tol f (first ∷ rest) s near = λ i j d ij jn.
    let spots : List SpotData = first ∷ rest in
    let at : ℕ → SpotData = λ k. get_or spots k first in
    let n = length-map spots (point_from axis first) in
    let ni = near i (point_from axis first first) (omega (arith, n)) in
    let nj = near j (point_from axis first first) (omega (arith, n)) in
    let ei : get_or (map (point_from axis first) spots) i (point_from axis first first) ≡ point_from axis first (at i) = get_or-map (point_from axis first) spots i first (point_from axis first first) (omega arith) in
    let ej : get_or (map (point_from axis first) spots) j (point_from axis first first) ≡ point_from axis first (at j) = get_or-map (point_from axis first) spots j first (point_from axis first first) jn in
    let hi = rw ei at ni in
    let hj = rw ej at nj in
    let o = offset_between axis first (at i) (at j) (near_first axis first rest s i (omega arith)) (near_first axis first rest s j jn) in
    let di : get_or spots i d ≡ at i = get_or_default spots i d first (omega arith) in
    let dj : get_or spots j d ≡ at j = get_or_default spots j d first jn in
    rw (di, dj) (suits_between tol f.v f.d f.p (offset axis (at i) (at j)) ((at j).epoch -ℤ (at i).epoch) (offset axis first (at i)) ((at i).epoch -ℤ first.epoch) (offset axis first (at j)) ((at j).epoch -ℤ first.epoch) o (omega (arith, ints)) hi hj)

-- ---- lines of a bounded rate
rate_of : (rate v d : ℤ) → IsWithin (rate *ℤ d) (v *ℤ pos 1000000) → ((neg_ℤ rate *ℤ d) ≤ℤ (v *ℤ pos 1000000)) × ((v *ℤ pos 1000000) ≤ℤ (rate *ℤ d))
rate_of rate v d h = (rw (neg_mul) h.0, h.1)

within_of : (rate v d : ℤ) → (neg_ℤ rate *ℤ d) ≤ℤ (v *ℤ pos 1000000) → (v *ℤ pos 1000000) ≤ℤ (rate *ℤ d) → IsWithin (rate *ℤ d) (v *ℤ pos 1000000)
within_of rate v d h k = (rw (neg_mul) at h, k)

pub line_of_some_slope : (axis : Axis) (tol rate : ℤ) (spots : List SpotData) → pos 0 ≤ℤ tol → MeetSpreadRule spots → SomeSlope axis tol rate spots → HasLine tol rate (points axis spots)
line_of_some_slope axis tol rate spots t s w =
    let l = line_of_slope axis tol w.a w.b spots t w.positive s w.suits in
    (record { p = l.p; v = w.a; d = w.b }, (w.positive, within_of rate w.a w.b w.from w.to), l.near)

pub some_slope_of_line : (axis : Axis) (tol rate : ℤ) (spots : List SpotData) → MeetSpreadRule spots → HasLine tol rate (points axis spots) → SomeSlope axis tol rate spots
some_slope_of_line axis tol rate spots s w =
    let k = rate_of rate w.0.v w.0.d w.1.1 in
    record { a = w.0.v; b = w.0.d; positive = w.1.0; from = k.0; to = k.1; suits = suits_of_line axis tol w.0 spots s w.2 }

-- ---- whether each spot follows nearby
record FollowsNear (x y : SpotData) : Type 0 where
  pub later : x.epoch <ℤ y.epoch
  pub near : AreNear Ra x y × AreNear Dec x y

follows_of_test : (p : SpotData × SpotData) → follows_near p ≡ true → FollowsNear p.0 p.1
follows_of_test p h =
    let u = both _ _ h in
    let v = both _ _ u.0 in
    let ra = both _ _ v.1 in
    let dec = both _ _ u.1 in
    record { later = lt_of_test _ _ v.0; near = ((lt_of_test _ _ ra.0, lt_of_test _ _ ra.1), (lt_of_test _ _ dec.0, lt_of_test _ _ dec.1)) }

test_of_follows : (p : SpotData × SpotData) → FollowsNear p.0 p.1 → follows_near p ≡ true
test_of_follows p f =
    and_of _ _ (and_of _ _ (test_of_lt _ _ f.later) (and_of _ _ (test_of_lt _ _ f.near.0.0) (test_of_lt _ _ f.near.0.1))) (and_of _ _ (test_of_lt _ _ f.near.1.0) (test_of_lt _ _ f.near.1.1))

pub follow_of_test : (spots : List SpotData) → list_all follows_near (each_two spots) ≡ true → HaveRisingEpochs spots × MeetSpreadRule spots
follow_of_test spots h =
    let all = AllPass-from_list_all follows_near (each_two spots) h in
    let each = two_of_all FollowsNear spots (λ k d lt. follows_of_test (get_or (each_two spots) k d) (all k d lt)) in
    (λ i j d ij jn. (each i j d ij jn).later, λ i j d ij jn. (each i j d ij jn).near)

pub test_of_follow : (spots : List SpotData) → HaveRisingEpochs spots → MeetSpreadRule spots → list_all follows_near (each_two spots) ≡ true
test_of_follow spots rise spread =
    let each = all_of_two FollowsNear spots (λ i j d ij jn. record { later = rise i j d ij jn; near = spread i j d ij jn }) in
    list_all-from_AllPass follows_near (each_two spots) (λ k d lt. test_of_follows (get_or (each_two spots) k d) (each k d lt))

-- ---- the law
below : (x y : ℤ) → x ≤ℤ y → (x ≡ y → ⊥) → x <ℤ y
below x y h n = by_lt_z x y (λ l. l) (λ l. absurd (n (omega (arith, ints, h, l))))

above : (x y : ℤ) → x <ℤ y → x ≡ y → ⊥
above x y l e = absurd (omega (arith, ints, l, e))

pub tells : (tol rate_ra rate_dec : ℤ) (spots : List SpotData) → pos 0 ≤ℤ tol → EpochsDontFall spots → IsTrue (lies_on_line tol rate_ra rate_dec spots) ↔ AreOnLine tol rate_ra rate_dec spots
tells tol rate_ra rate_dec spots t rising = (
  λ h.
      let u = both (list_all follows_near (each_two spots) && slopes_meet Ra tol rate_ra spots) (slopes_meet Dec tol rate_dec spots) h in
      let v = both (list_all follows_near (each_two spots)) (slopes_meet Ra tol rate_ra spots) u.0 in
      let f = follow_of_test spots v.0 in
      record {
        differ = λ i j d ij jn. above (get_or spots i d).epoch (get_or spots j d).epoch (f.0 i j d ij jn);
        spread = f.1;
        ra = line_of_some_slope Ra tol rate_ra spots t f.1 (some_slope_of_meets Ra tol rate_ra spots f.0 v.1);
        dec = line_of_some_slope Dec tol rate_dec spots t f.1 (some_slope_of_meets Dec tol rate_dec spots f.0 u.1);
      },
  λ w.
      let rise : HaveRisingEpochs spots = λ i j d ij jn. below (get_or spots i d).epoch (get_or spots j d).epoch (rising i j d ij jn) (w.differ i j d ij jn) in
      and_of _ _ (and_of _ _ (test_of_follow spots rise w.spread) (meets_of_some_slope Ra tol rate_ra spots rise (some_slope_of_line Ra tol rate_ra spots w.spread w.ra)))
      (meets_of_some_slope Dec tol rate_dec spots rise (some_slope_of_line Dec tol rate_dec spots w.spread w.dec)),
)
