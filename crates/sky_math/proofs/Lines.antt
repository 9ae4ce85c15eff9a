-- A line through the pair of the greatest lower slope is within the tolerance of all points, where each three have a line.
-- A point has the time s and the position z, and the tolerance is w. Slopes and intercepts are over whole denominators.
use Rattle.std.proofs.Common.{◌≡◌, ℕ, ◌<◌, arith}
use Rattle.std.proofs.lemmas.Bool.{cases_order}
use Rattle.std.proofs.lemmas.Int.{by_lt_z}
use Rattle.std.specs.Prelude.{ℤ, pos, ◌+ℤ◌, ◌-ℤ◌, ◌*ℤ◌, ◌≤ℤ◌, ◌<ℤ◌, neg_ℤ}
use Prim.Native.Nat.{suc}
use mathlib.Core.Logic.{◌⊎◌, inl, inr}
use Rattle.sky_math.proofs.Greatest.{IsOrder, greatest_pair}
use Rattle.sky_math.proofs.Order.{linear, mul_le, mul_not_negative, le_cancel}
use Rattle.sky_math.proofs.Ring.{ring}
use Rattle.sky_math.specs.Quadratics.{IsWithin}

-- the least slope of a line within w of two points, times the time between them
abbrev pub lower : ℤ → ℤ → ℤ → ℤ
lower w zi zj = (zj -ℤ zi) -ℤ (w +ℤ w)

-- the line that lies w above the point i and w below the point j, less the point k, all times the time between i and j
abbrev pub off : (w si zi sj zj sk zk : ℤ) → ℤ
off w si zi sj zj sk zk = ((((zi +ℤ w) *ℤ (sj -ℤ si)) -ℤ (lower w zi zj *ℤ si)) +ℤ (lower w zi zj *ℤ sk)) -ℤ (zk *ℤ (sj -ℤ si))

-- what the second slope of three points exceeds the first by, times both stretches of time
abbrev pub turn : (si zi sj zj sk zk : ℤ) → ℤ
turn si zi sj zj sk zk = ((zk -ℤ zj) *ℤ (sj -ℤ si)) -ℤ ((zj -ℤ zi) *ℤ (sk -ℤ sj))

low_after : (w si zi sj zj sk zk : ℤ) → (lower w zi zk *ℤ (sj -ℤ si)) ≤ℤ (lower w zi zj *ℤ (sk -ℤ si)) → neg_ℤ (w *ℤ (sj -ℤ si)) ≤ℤ off w si zi sj zj sk zk
low_after w si zi sj zj sk zk h = let r = simp ring at h in simp ring (omega (arith, linear, r))

high_before : (w si zi sj zj sk zk : ℤ) → (lower w zk zj *ℤ (sj -ℤ si)) ≤ℤ (lower w zi zj *ℤ (sj -ℤ sk)) → off w si zi sj zj sk zk ≤ℤ (w *ℤ (sj -ℤ si))
high_before w si zi sj zj sk zk h = let r = simp ring at h in simp ring (omega (arith, linear, r))

low_before : (w si zi sj zj sk zk : ℤ) → turn sk zk si zi sj zj ≤ℤ ((w +ℤ w) *ℤ (sj -ℤ sk)) → neg_ℤ (w *ℤ (sj -ℤ si)) ≤ℤ off w si zi sj zj sk zk
low_before w si zi sj zj sk zk h = let r = simp ring at h in simp ring (omega (arith, linear, r))

high_after : (w si zi sj zj sk zk : ℤ) → neg_ℤ ((w +ℤ w) *ℤ (sk -ℤ si)) ≤ℤ turn si zi sj zj sk zk → off w si zi sj zj sk zk ≤ℤ (w *ℤ (sj -ℤ si))
high_after w si zi sj zj sk zk h = let r = simp ring at h in simp ring (omega (arith, linear, r))

at_left : (w si zi sj zj : ℤ) → off w si zi sj zj si zi ≡ w *ℤ (sj -ℤ si)
at_left w si zi sj zj = simp ring (omega (arith, linear))

at_right : (w si zi sj zj : ℤ) → off w si zi sj zj sj zj ≡ neg_ℤ (w *ℤ (sj -ℤ si))
at_right w si zi sj zj = simp ring (omega (arith, linear))

-- a quotient with a denominator above 0
pub record Slope : Type 0 where
  pub num : ℤ
  pub den : ℤ

abbrev pub AtMost : Slope → Slope → Type 0
AtMost a b = (a.num *ℤ b.den) ≤ℤ (b.num *ℤ a.den)

abbrev pub IsProper : Slope → Type 0
IsProper a = pos 0 <ℤ a.den

pub at_most_chain : (an ad bn bd cn cd : ℤ) → pos 0 <ℤ ad → pos 0 <ℤ bd → pos 0 <ℤ cd → (an *ℤ bd) ≤ℤ (bn *ℤ ad) → (bn *ℤ cd) ≤ℤ (cn *ℤ bd) → (an *ℤ cd) ≤ℤ (cn *ℤ ad)
at_most_chain an ad bn bd cn cd pa pb pc h k =
    let u = mul_le cd (an *ℤ bd) (bn *ℤ ad) (omega (arith, linear)) h in
    let v = mul_le ad (bn *ℤ cd) (cn *ℤ bd) (omega (arith, linear)) k in
    let u' = simp ring at u in
    let v' = simp ring at v in
    let r : (bd *ℤ (an *ℤ cd)) ≤ℤ (bd *ℤ (cn *ℤ ad)) = simp ring (omega (arith, linear, u', v')) in
    le_cancel bd (an *ℤ cd) (cn *ℤ ad) pb r

pub slope_order : IsOrder AtMost IsProper
slope_order = record {
  same = λ a. omega (arith, linear);
  total = λ a b p q. by_lt_z {P = AtMost a b ⊎ AtMost b a} (a.num *ℤ b.den) (b.num *ℤ a.den) (λ l. inl (omega (arith, linear, l))) (λ l. inr l);
  chain = λ a b c p q r h k. at_most_chain a.num a.den b.num b.den c.num c.den p q r h k;
}

-- a pair of points whose line, w above the first and w below the second, is within w of all
pub record LineOfPair (w : ℤ) (s z : ℕ → ℤ) (n : ℕ) : Type 0 where
  pub left : ℕ
  pub right : ℕ
  pub rising : left < right
  pub within : right < n
  pub fits : (k : ℕ) → k < n → IsWithin (w *ℤ (s right -ℤ s left)) (off w (s left) (z left) (s right) (z right) (s k) (z k))

pub line_of_pair : (w : ℤ) (s z : ℕ → ℤ) (n : ℕ) → pos 0 ≤ℤ w → ((i j : ℕ) → i < j → j < suc (suc n) → s i <ℤ s j) →
    ((i j k : ℕ) → i < j → j < k → k < suc (suc n) → IsWithin ((w +ℤ w) *ℤ (s k -ℤ s i)) (turn (s i) (z i) (s j) (z j) (s k) (z k))) → LineOfPair w s z (suc (suc n))
line_of_pair w s z n p rising three =
    let g : ℕ → ℕ → Slope = λ i j. record { num = lower w (z i) (z j); den = s j -ℤ s i } in
    let top = greatest_pair AtMost IsProper slope_order g n (λ i j h m. let r = rising i j h m in omega (arith, linear, r)) in
    let i : ℕ = top.left in
    let j : ℕ = top.right in
    let ij : i < j = top.rising in
    let jn : j < suc (suc n) = top.within in
    let step : pos 0 ≤ℤ (w *ℤ (s j -ℤ s i)) = mul_not_negative w (s j -ℤ s i) p (let r = rising i j ij jn in omega (arith, linear, r)) in
    record {
      left = i;
      right = j;
      rising = ij;
      within = jn;
      fits = λ k h. (
        elim (cases_order k i) as (λ _. neg_ℤ (w *ℤ (s j -ℤ s i)) ≤ℤ off w (s i) (z i) (s j) (z j) (s k) (z k)) [
          | inl e ↦ rw e (rw (at_left w (s i) (z i) (s j) (z j)) (omega (arith, linear, step)))
          | inr c ↦ elim c as (λ _. neg_ℤ (w *ℤ (s j -ℤ s i)) ≤ℤ off w (s i) (z i) (s j) (z j) (s k) (z k)) [
            | inl l ↦ low_before w (s i) (z i) (s j) (z j) (s k) (z k) ((three k i j l ij jn).1)
            | inr l ↦ low_after w (s i) (z i) (s j) (z j) (s k) (z k) (top.upper i k l h)
          ]
        ],
        elim (cases_order k j) as (λ _. off w (s i) (z i) (s j) (z j) (s k) (z k) ≤ℤ (w *ℤ (s j -ℤ s i))) [
          | inl e ↦ rw e (rw (at_right w (s i) (z i) (s j) (z j)) (omega (arith, linear, step)))
          | inr c ↦ elim c as (λ _. off w (s i) (z i) (s j) (z j) (s k) (z k) ≤ℤ (w *ℤ (s j -ℤ s i))) [
            | inl l ↦ high_before w (s i) (z i) (s j) (z j) (s k) (z k) (top.upper k j l jn)
            | inr l ↦ high_after w (s i) (z i) (s j) (z j) (s k) (z k) ((three i j k ij l h).0)
          ]
        ],
      );
    }
