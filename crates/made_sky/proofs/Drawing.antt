-- The motion of an object, from its six draws.
use Rattle.std.proofs.Common.{◌≡◌, ℕ, ◌+◌, ◌*◌, ◌%◌, ◌^◌, ◌<◌, ◌≤◌, refl, arith, pos, ◌-ℤ◌, to_z, of_z, w64}
use Rattle.std.proofs.Common.{add-one}
use Rattle.std.proofs.Math.Nat.{mul-le-mul}
use Rattle.std.proofs.lemmas.Int.{ints}
use Rattle.made_sky.specs.Draws.{drawn, share, after_draws}
use Rattle.made_sky.specs.Motions.{motion_from, state_before, IsMotion}
use Rattle.made_sky.specs.declared.motions.Motion.{Motion}

drawn_below : (x : ℕ) → drawn x < 2 ^ 31
unfolding drawn
drawn_below x = omega arith

share_below : (count x : ℕ) → 0 < count → x < 2 ^ 31 → share count x < count
unfolding share
share_below count x some below = let most : x * count ≤ 2147483647 * count = mul-le-mul (omega arith) (omega arith) in omega (arith, most)

-- a motion of six drawn numbers, as the code has them
abbrev pub motion_by : ℕ → ℕ → ℕ → ℕ → ℕ → ℕ → Motion
motion_by a b c d e f = record {
  ra = to_z w64 ((355000000 + a) % 360000000);
  dec = to_z w64 (of_z w64 (to_z w64 b -ℤ pos 5000000));
  ra_rate = to_z w64 (of_z w64 (to_z w64 c -ℤ pos 300000));
  dec_rate = to_z w64 (of_z w64 (to_z w64 d -ℤ pos 100000));
  ra_acceleration = to_z w64 (of_z w64 (to_z w64 e -ℤ pos 10000));
  dec_acceleration = to_z w64 (of_z w64 (to_z w64 f -ℤ pos 10000));
}

plain : (a : ℕ) → a < 10000000 → to_z w64 ((355000000 + a) % 360000000) ≡ pos ((355000000 + a) % 360000000)
plain a h = omega (arith, ints)

lowered : (a low : ℕ) → a < 10000000 → low ≤ 5000000 → to_z w64 (of_z w64 (to_z w64 a -ℤ pos low)) ≡ pos a -ℤ pos low
lowered a low h k = omega (arith, ints)

pub motion_is : (x a b c d e f : ℕ) → a ≡ share 10000000 (after_draws 1 x) → b ≡ share 10000000 (after_draws 2 x) → c ≡ share 600001 (after_draws 3 x)
    → d ≡ share 200001 (after_draws 4 x) → e ≡ share 20001 (after_draws 5 x) → f ≡ share 20001 (after_draws 6 x)
    → a < 10000000 → b < 10000000 → c < 600001 → d < 200001 → e < 20001 → f < 20001 → motion_by a b c d e f ≡ motion_from x
unfolding motion_from
motion_is x a b c d e f ea eb ec ed ee ef ha hb hc hd he hf =
    rw (
      plain a ha,
      lowered b 5000000 hb (omega arith),
      lowered c 300000 (omega arith) (omega arith),
      lowered d 100000 (omega arith) (omega arith),
      lowered e 10000 (omega arith) (omega arith),
      lowered f 10000 (omega arith) (omega arith),
      ea,
      eb,
      ec,
      ed,
      ee,
      ef,
    ) refl

pub motion_holds : (x : ℕ) → IsMotion (motion_from x)
unfolding motion_from
motion_holds x =
    let a = share_below 10000000 (after_draws 2 x) (omega arith) (drawn_below _) in
    let b = share_below 600001 (after_draws 3 x) (omega arith) (drawn_below _) in
    let c = share_below 200001 (after_draws 4 x) (omega arith) (drawn_below _) in
    let d = share_below 20001 (after_draws 5 x) (omega arith) (drawn_below _) in
    let e = share_below 20001 (after_draws 6 x) (omega arith) (drawn_below _) in
    record {
      ra = record { from = omega (arith, ints); to = omega (arith, ints) };
      dec = record { from = omega (arith, ints, a); to = omega (arith, ints, a) };
      ra_rate = record { from = omega (arith, ints, b); to = omega (arith, ints, b) };
      dec_rate = record { from = omega (arith, ints, c); to = omega (arith, ints, c) };
      ra_acceleration = record { from = omega (arith, ints, d); to = omega (arith, ints, d) };
      dec_acceleration = record { from = omega (arith, ints, e); to = omega (arith, ints, e) };
    }

-- the draws of one object more
pub state_more : (number object state : ℕ) → state ≡ state_before number object → after_draws 6 state ≡ state_before number (object + 1)
state_more number object state is = rw (is, add-one) refl
