-- Whether an arc fits is decided by whole numbers alone: the interval of the greatest acceleration is narrowed by that of each triple, until nothing is left of it or every triple was seen.
use Rattle.std.proofs.Common.{◌≡◌, ℕ, ◌<◌, ℤ, pos, neg_ℤ, ◌+ℤ◌, ◌-ℤ◌, ◌*ℤ◌, ◌≤ℤ◌, ◌<ℤ◌, ◌↔◌, Bool, true, List, [], ◌∷◌, length, map, get_or, sym, subst, ◌∙◌, arith}
use Rattle.std.proofs.lemmas.Bool.{cases_Bool, cases_lt, false≢true}
use Rattle.std.proofs.lemmas.Int.{by_lt_z}
use Rattle.std.proofs.lemmas.List.{get_or_default}
use Rattle.std.specs.Prelude.{Option, Some, None, IsTrue, is_some}
use Prim.Native.Nat.{zero, suc}
use mathlib.Core.Logic.{◌⊎◌, inl, inr}
use borrow.Author.Differences.{same_in, product_is}
use Rattle.sky_math.proofs.Order.{linear, mul_lt, mul_positive, mul_not_negative}
use Rattle.sky_math.proofs.Ring.{mul_comm}
use Rattle.sky_math.specs.Lists.{EachThree}
use Rattle.sky_math.specs.Quadratics.{Point, Admits, IsWithin}
use Rattle.sky_math.specs.Triples.{Suits, bend, slack, stretch}
use Rattle.sky_units.specs.Arcs.{HaveRisingEpochs}
use Rattle.sky_units.specs.FracData.{FracData}
use Rattle.sky_units.specs.Motion.{AxisAdmits, Fits, acceleration, point_from, tolerance}
use Rattle.sky_units.specs.SettingsData.{SettingsData}
use Rattle.sky_units.specs.SpotData.{SpotData}
use Rattle.sky_units.specs.declared.axis.Axis.{Axis}
use Rattle.sky_units.specs.declared.axis.Axis.TheVariants.{Ra, Dec}
use Rattle.quad_fit.proofs.Intervals.{Interval, Holds, HoldsExactly, IsAtLeast, IsAtMost, IsFilled, IsNarrowed}
use Rattle.quad_fit.specs.MarkRanges.{RiseInTime}
use Rattle.quad_fit.proofs.Admitted.{admitted_exactly, none_admitted}
use Rattle.quad_fit.proofs.Ends.{at_least_of_higher, at_most_of_lower, ends_of_suits, ends_of_within, filled_of_between, narrowed_by, narrowed_start, narrowed_then, scale_filled, suits_of_ends, triple_filled, within_of_ends}
use Rattle.quad_fit.proofs.MarkLists.{times_rise}

-- ---- what two intervals have in common
-- a fraction that bounds exactly what two fractions bound
record Bound (Bounds : FracData → ℤ → ℤ → Type 0) (f g : FracData) : Type 0 where
  pub frac : FracData
  pub positive : pos 0 <ℤ frac.den
  pub bounds : (a b : ℤ) → pos 0 <ℤ b → Bounds frac a b ↔ (Bounds f a b × Bounds g a b)

greater_of : (f g : FracData) → pos 0 <ℤ f.den → pos 0 <ℤ g.den → Bound IsAtMost f g
greater_of f g p q = by_lt_z (f.num *ℤ g.den) (g.num *ℤ f.den)
    (λ l. record { frac = g; positive = q; bounds = λ a b r. (λ h. (at_most_of_lower f g a b p q r (omega (arith, linear, l)) h, h), λ h. h.1) })
    (λ l. record { frac = f; positive = p; bounds = λ a b r. (λ h. (h, at_most_of_lower g f a b q p r l h), λ h. h.0) })

lesser_of : (f g : FracData) → pos 0 <ℤ f.den → pos 0 <ℤ g.den → Bound IsAtLeast f g
lesser_of f g p q = by_lt_z (f.num *ℤ g.den) (g.num *ℤ f.den)
    (λ l. record { frac = f; positive = p; bounds = λ a b r. (λ h. (h, at_least_of_higher g f a b q p r (omega (arith, linear, l)) h), λ h. h.0) })
    (λ l. record { frac = g; positive = q; bounds = λ a b r. (λ h. (at_least_of_higher f g a b p q r l h, h), λ h. h.1) })

-- what is left of an interval: a filled one, or nothing
record Narrowing (from : Interval) (Wanted : ℤ → ℤ → Type 0) : Type 0 where
  pub left : Option Interval
  pub is : IsNarrowed from Wanted left

met : (one other : Interval) → IsFilled one → IsFilled other → Narrowing one (Holds other)
met one other p q =
    let low = greater_of one.low other.low p.1 q.1 in
    let high = lesser_of one.high other.high p.2 q.2 in
    let f : FracData = low.frac in
    let g : FracData = high.frac in
    by_lt_z (g.num *ℤ f.den) (f.num *ℤ g.den)
    (λ l. record {
      left = None;
      is = λ a b r h k.
          let filled : (f.num *ℤ g.den) ≤ℤ (g.num *ℤ f.den) = filled_of_between f g a b low.positive high.positive r ((low.bounds a b r).1 (h.0, k.0)) ((high.bounds a b r).1 (h.1, k.1)) in
          absurd (omega (arith, linear, l, filled));
    })
    (λ l. record {
      left = Some record { low = f; high = g };
      is = (
        (l, low.positive, high.positive),
        λ a b r. (
          λ h. let above = (low.bounds a b r).0 h.0 in let below = (high.bounds a b r).0 h.1 in ((above.0, below.0), (above.1, below.1)),
          λ h. ((low.bounds a b r).1 (h.0.0, h.1.0), (high.bounds a b r).1 (h.0.1, h.1.1)),
        ),
      );
    })

-- ---- one triple
abbrev triple_interval : ℤ → Point → Point → Point → Interval
triple_interval tol x y z = record {
  low = record { num = bend x y z -ℤ slack tol x z; den = stretch x y z };
  high = record { num = bend x y z +ℤ slack tol x z; den = stretch x y z };
}

triple_is_filled : (tol : ℤ) (x y z : Point) → pos 0 ≤ℤ tol → x.time <ℤ y.time → y.time <ℤ z.time → IsFilled (triple_interval tol x y z)
triple_is_filled tol x y z t xy yz =
    let a : ℤ = y.time -ℤ x.time in
    let c : ℤ = z.time -ℤ y.time in
    let m : ℤ = z.time -ℤ x.time in
    let two : pos 0 <ℤ (a *ℤ c) = mul_positive a c (omega (arith, linear)) (omega (arith, linear)) in
    triple_filled (bend x y z) (slack tol x z) (stretch x y z)
    (mul_not_negative (tol +ℤ tol) m (omega (arith, linear)) (omega (arith, linear)))
    (mul_positive (a *ℤ c) m two (omega (arith, linear)))

triple_is_exact : (tol : ℤ) (x y z : Point) → HoldsExactly (λ a b. Suits tol a b x y z) (triple_interval tol x y z)
triple_is_exact tol x y z = λ a b p. (
  λ h. suits_of_ends (bend x y z) (slack tol x z) (stretch x y z) a b h.0 h.1,
  λ h. ends_of_suits (bend x y z) (slack tol x z) (stretch x y z) a b h,
)

by_triple : (tol : ℤ) (x y z : Point) (from : Interval) → IsFilled from → pos 0 ≤ℤ tol → x.time <ℤ y.time → y.time <ℤ z.time → Narrowing from (λ a b. Suits tol a b x y z)
by_triple tol x y z from filled t xy yz =
    let n = met from (triple_interval tol x y z) filled (triple_is_filled tol x y z t xy yz) in
    record { left = n.left; is = narrowed_by from (triple_interval tol x y z) (λ a b. Suits tol a b x y z) n.left (triple_is_exact tol x y z) n.is }

-- ---- one after the other
-- the same asked in other words
reworded : (from : Interval) (Before Whole : ℤ → ℤ → Type 0) (result : Option Interval) → ((a b : ℤ) → Before a b → Whole a b) → ((a b : ℤ) → Whole a b → Before a b) → IsNarrowed from Before result → IsNarrowed from Whole result
reworded from Before Whole None there back n = λ a b p h w. n a b p h (back a b w)
reworded from Before Whole (Some r) there back n = (n.0, λ a b p. (λ h. let f = (n.1 a b p).0 h in (f.0, there a b f.1), λ h. (n.1 a b p).1 (h.0, back a b h.1)))

in_other_words : (from : Interval) (Before Whole : ℤ → ℤ → Type 0) → ((a b : ℤ) → Before a b → Whole a b) → ((a b : ℤ) → Whole a b → Before a b) → Narrowing from Before → Narrowing from Whole
in_other_words from Before Whole there back n = record { left = n.left; is = reworded from Before Whole n.left there back n.is }

-- what holds of each place below n
abbrev Below : (ℕ → ℤ → ℤ → Type 0) → ℕ → ℤ → ℤ → Type 0
Below Wanted n a b = (i : ℕ) → i < n → Wanted i a b

one_more : (Wanted : ℕ → ℤ → ℤ → Type 0) (n : ℕ) (a b : ℤ) → Below Wanted n a b → Wanted n a b → Below Wanted (suc n) a b
one_more Wanted n a b before last = λ i h. elim (cases_lt i n) as (λ _. Wanted i a b) [
  | inl l ↦ before i l
  | inr l ↦ let e : n ≡ i = omega arith in subst (λ (k : ℕ). Wanted k a b) e last
]

then_last : (Wanted : ℕ → ℤ → ℤ → Type 0) (n : ℕ) (from : Interval) (before : Option Interval) → IsNarrowed from (Below Wanted n) before → ((left : Interval) → IsFilled left → Narrowing left (Wanted n)) → Narrowing from (Below Wanted (suc n))
then_last Wanted n from None before step = record { left = None; is = λ a b p h w. before a b p h (λ i l. w i (omega arith)) }
then_last Wanted n from (Some left) before step =
    let last = step left before.0 in
    record {
      left = last.left;
      is = narrowed_then from left (Below Wanted n) (Wanted n) (Below Wanted (suc n)) last.left before last.is (one_more Wanted n) (λ a b w. (λ i l. w i (omega arith), w n (omega arith)));
    }

by_each : (Wanted : ℕ → ℤ → ℤ → Type 0) (n : ℕ) (from : Interval) → IsFilled from → ((i : ℕ) → i < n → (left : Interval) → IsFilled left → Narrowing left (Wanted i)) → Narrowing from (Below Wanted n)
by_each Wanted zero from filled step = record { left = Some from; is = narrowed_start from (Below Wanted zero) filled (λ a b i h. absurd (omega arith)) }
by_each Wanted (suc n) from filled step =
    let before = by_each Wanted n from filled (λ i h. step i (omega arith)) in
    then_last Wanted n from before.left before.is (step n (omega arith))

-- ---- all triples
abbrev SuitsAt : ℤ → List Point → Point → ℕ → ℕ → ℕ → ℤ → ℤ → Type 0
SuitsAt tol xs d i j k a b = i < j → j < k → Suits tol a b (get_or xs i d) (get_or xs j d) (get_or xs k d)

nothing_asked : (from : Interval) (Wanted : ℤ → ℤ → Type 0) → IsFilled from → ((a b : ℤ) → Wanted a b) → Narrowing from Wanted
nothing_asked from Wanted filled all = record { left = Some from; is = narrowed_start from Wanted filled all }

by_places : (tol : ℤ) (xs : List Point) (d : Point) (i j k : ℕ) → pos 0 ≤ℤ tol → RiseInTime xs → k < length xs → (from : Interval) → IsFilled from → Narrowing from (SuitsAt tol xs d i j k)
by_places tol xs d i j k t rise kn from filled = elim (cases_lt i j) as (λ _. Narrowing from (SuitsAt tol xs d i j k)) [
  | inl ij ↦ elim (cases_lt j k) as (λ _. Narrowing from (SuitsAt tol xs d i j k)) [
    | inl jk ↦ in_other_words from (λ a b. Suits tol a b (get_or xs i d) (get_or xs j d) (get_or xs k d)) (SuitsAt tol xs d i j k) (λ a b s p q. s) (λ a b s. s ij jk)
        (by_triple tol (get_or xs i d) (get_or xs j d) (get_or xs k d) from filled t (rise i j d ij (omega arith)) (rise j k d jk kn))
    | inr l ↦ nothing_asked from (SuitsAt tol xs d i j k) filled (λ a b p q. absurd (omega arith))
  ]
  | inr l ↦ nothing_asked from (SuitsAt tol xs d i j k) filled (λ a b p q. absurd (omega arith))
]

abbrev SuitsAll : ℤ → List Point → Point → ℤ → ℤ → Type 0
SuitsAll tol xs d = Below (λ i. Below (λ j. Below (λ k. SuitsAt tol xs d i j k) (length xs)) (length xs)) (length xs)

by_all : (tol : ℤ) (xs : List Point) (d : Point) → pos 0 ≤ℤ tol → RiseInTime xs → (from : Interval) → IsFilled from → Narrowing from (SuitsAll tol xs d)
by_all tol xs d t rise from filled =
    by_each (λ i. Below (λ j. Below (λ k. SuitsAt tol xs d i j k) (length xs)) (length xs)) (length xs) from filled (λ i il one p.
    by_each (λ j. Below (λ k. SuitsAt tol xs d i j k) (length xs)) (length xs) one p (λ j jl two q.
    by_each (λ k. SuitsAt tol xs d i j k) (length xs) two q (λ k kl. by_places tol xs d i j k t rise kl)))

each_three_of_all : (tol : ℤ) (xs : List Point) (d : Point) (a b : ℤ) → SuitsAll tol xs d a b → EachThree (Suits tol a b) xs
each_three_of_all tol xs d a b h = λ i j k e ij jk kn.
    let s : Suits tol a b (get_or xs i d) (get_or xs j d) (get_or xs k d) = h i (omega arith) j (omega arith) k kn ij jk in
    let x : get_or xs i e ≡ get_or xs i d = get_or_default xs i e d (omega arith) in
    let y : get_or xs j e ≡ get_or xs j d = get_or_default xs j e d (omega arith) in
    let z : get_or xs k e ≡ get_or xs k d = get_or_default xs k e d kn in
    rw (x, y, z) s

by_each_three : (tol : ℤ) (xs : List Point) (d : Point) → pos 0 ≤ℤ tol → RiseInTime xs → (from : Interval) → IsFilled from → Narrowing from (λ a b. EachThree (Suits tol a b) xs)
by_each_three tol xs d t rise from filled = in_other_words from (SuitsAll tol xs d) (λ a b. EachThree (Suits tol a b) xs)
    (λ a b h. each_three_of_all tol xs d a b h)
    (λ a b h i il j jl k kl ij jk. h i j k d ij jk kl)
    (by_all tol xs d t rise from filled)

-- ---- the acceleration
abbrev acceleration_interval : ℤ → Interval
acceleration_interval acc = record {
  low = record { num = neg_ℤ acc; den = pos 2000000000000 };
  high = record { num = acc; den = pos 2000000000000 };
}

acceleration_is_exact : (acc : ℤ) → HoldsExactly (λ a b. IsWithin (acc *ℤ b) (pos 2000000000000 *ℤ a)) (acceleration_interval acc)
acceleration_is_exact acc = λ a b p. (λ h. within_of_ends acc a b h.0 h.1, λ h. ends_of_within acc a b h)

-- ---- an axis
-- what is so where a test says yes, and only there
told : {P : Type 0} (b : Bool) → IsTrue b ↔ P → P ⊎ (¬ P)
told b t = elim (cases_Bool b) [ inl e ↦ inl (t.0 e) | inr e ↦ inr (λ p. let yes : b ≡ true = t.1 p in absurd (false≢true (sym e ∙ yes))) ]

-- nothing lies within less than nothing
never_within : (bound d x : ℤ) → pos 0 <ℤ d → bound <ℤ pos 0 → IsWithin (bound *ℤ d) x → ⊥
never_within bound d x p below h =
    let m = mul_lt d bound (pos 0) p below in
    let z : d *ℤ pos 0 ≡ pos 0 = same_in _ _ (omega (arith, product_is d (pos 0))) in
    let c : d *ℤ bound ≡ bound *ℤ d = mul_comm d bound in
    omega (arith, linear, m, h)

-- points of rising times are admitted or not
admits_or_not : (acc tol : ℤ) (x : Point) (xs : List Point) → RiseInTime (x ∷ xs) → Admits acc tol (x ∷ xs) ⊎ (¬ Admits acc tol (x ∷ xs))
admits_or_not acc tol x xs rise =
    by_lt_z acc (pos 0) (λ l. inr (λ w. never_within acc w.0.d (pos 2000000000000 *ℤ w.0.q) w.1.0 l w.1.1)) (λ p.
    by_lt_z tol (pos 0) (λ l. inr (λ w. never_within tol w.0.d _ w.1.0 l (w.2 0 x (omega arith)))) (λ t.
    let limit : Interval = acceleration_interval acc in
    let n = by_each_three tol (x ∷ xs) x t rise limit (scale_filled acc p) in
    told (is_some n.left) (admitted_exactly acc tol (x ∷ xs) limit n.left t rise (acceleration_is_exact acc) n.is)))

axis_or_not : (axis : Axis) (settings : SettingsData) (spots : List SpotData) → HaveRisingEpochs spots → AxisAdmits axis settings spots ⊎ (¬ AxisAdmits axis settings spots)
axis_or_not axis settings [] rising = by_lt_z (acceleration axis settings) (pos 0)
    (λ l. inr (λ w. never_within (acceleration axis settings) w.0.d (pos 2000000000000 *ℤ w.0.q) w.1.0 l w.1.1))
    (λ p. inl (none_admitted (acceleration axis settings) (tolerance axis settings) p))
axis_or_not axis settings (first ∷ rest) rising =
    admits_or_not (acceleration axis settings) (tolerance axis settings) (point_from axis first first) (map (point_from axis first) rest) (times_rise axis first (first ∷ rest) rising)

both : {P Q : Type 0} → P ⊎ (¬ P) → Q ⊎ (¬ Q) → (P × Q) ⊎ (¬ (P × Q))
both (inl p) (inl q) = inl (p, q)
both (inl p) (inr n) = inr (λ h. n h.1)
both (inr n) q = inr (λ h. n h.0)

-- spots of rising epochs fit or don't
pub fits_or_not : (settings : SettingsData) (spots : List SpotData) → HaveRisingEpochs spots → Fits settings spots ⊎ (¬ Fits settings spots)
fits_or_not settings spots rising = both (axis_or_not Ra settings spots rising) (axis_or_not Dec settings spots rising)
