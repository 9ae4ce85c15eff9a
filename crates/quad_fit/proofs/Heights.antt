-- Fractions of bounded numbers lie on a grid so fine that a greater one lies on a higher place: an exchange ends.
use Rattle.std.proofs.Common.{◌≡◌, ℕ, ◌+◌, ◌-◌, ◌*◌, ◌/◌, ◌^◌, ◌≤◌, ◌<◌, ℤ, pos, ◌+ℤ◌, ◌*ℤ◌, ◌≤ℤ◌, ◌<ℤ◌, arith}
use Rattle.std.proofs.Math.Nat.{mul-le-mul, div-mul-le_self, div-le_of_le-mul, le-div_iff_mul-le}
use Rattle.std.proofs.lemmas.Int.{ints}
use Rattle.std.specs.Int.RustNames.{unsigned_abs}
use Rattle.sky_math.proofs.Order.{linear, mul_le, le_cancel}
use Rattle.sky_math.proofs.Ring.{ring, mul_add}
use borrow.Author.Differences.{same_in, product_is}
use Rattle.sky_units.specs.Ranges.{IsBetween}

-- the place of a fraction on the grid
abbrev pub height : ℤ → ℤ → ℕ
height n d = unsigned_abs ((pos (10 ^ 24) *ℤ d) +ℤ n) * 10 ^ 44 / unsigned_abs d

-- what is left above it
abbrev pub headroom : ℤ → ℤ → ℕ
headroom n d = 2 * 10 ^ 68 - height n d

pub record IsBounded (n d : ℤ) : Type 0 where
  pub num : unsigned_abs n ≤ 2 * 10 ^ 23
  pub den : IsBetween (pos 1) (pos (10 ^ 22)) d

whole : (n : ℤ) → pos 0 ≤ℤ n → pos (unsigned_abs n) ≡ n
whole n p = omega (arith, ints)

next_fits : (q n n' d d' h : ℤ) → pos 0 <ℤ d → pos 0 ≤ℤ d' → pos 0 ≤ℤ h → (q *ℤ d) ≤ℤ (n *ℤ h) → (d *ℤ d') ≤ℤ h → (n *ℤ d') <ℤ (n' *ℤ d) → ((q *ℤ d') +ℤ d') ≤ℤ (n' *ℤ h)
next_fits q n n' d d' h pd pd' ph hq hh less =
    let m1 = mul_le d' (q *ℤ d) (n *ℤ h) pd' hq in
    let m2 = mul_le h ((n *ℤ d') +ℤ pos 1) (n' *ℤ d) ph (omega (arith, linear, less)) in
    let e1 : d *ℤ ((q *ℤ d') +ℤ d') ≡ (d' *ℤ (q *ℤ d)) +ℤ (d *ℤ d') = simp ring in
    let o : h *ℤ pos 1 ≡ h = same_in _ _ (omega (arith, product_is h (pos 1))) in
    let a : h *ℤ ((n *ℤ d') +ℤ pos 1) ≡ (h *ℤ (n *ℤ d')) +ℤ (h *ℤ pos 1) = mul_add h (n *ℤ d') (pos 1) in
    let e2 : h *ℤ (n *ℤ d') ≡ d' *ℤ (n *ℤ h) = simp ring in
    let e3 : h *ℤ (n' *ℤ d) ≡ d *ℤ (n' *ℤ h) = simp ring in
    le_cancel d ((q *ℤ d') +ℤ d') (n' *ℤ h) pd (omega (arith, linear, m1, m2, e1, e2, e3, o, a, hh))

-- the same of natural numbers
climbs : (n n' d d' h : ℕ) → 0 < d → 0 < d' → d * d' ≤ h → n * d' < n' * d → n * h / d < n' * h / d'
climbs n n' d d' h pd pd' hh less =
    let q : ℕ = n * h / d in
    let hq : q * d ≤ n * h = div-mul-le_self (n * h) d in
    let zq : (pos q *ℤ pos d) ≤ℤ (pos n *ℤ pos h) = at_most_of (q * d) (n * h) hq in
    let zh : (pos d *ℤ pos d') ≤ℤ pos h = at_most_of (d * d') h hh in
    let zl : (pos n *ℤ pos d') <ℤ (pos n' *ℤ pos d) = less_of (n * d') (n' * d) less in
    let r : ((pos q *ℤ pos d') +ℤ pos d') ≤ℤ (pos n' *ℤ pos h) = next_fits (pos q) (pos n) (pos n') (pos d) (pos d') (pos h) (less_of 0 d pd) (at_most_of 0 d' (omega arith)) (at_most_of 0 h (omega arith)) zq zh zl in
    let k : q * d' + d' ≤ n' * h = from_at_most (q * d' + d') (n' * h) r in
    let t : (q + 1) * d' ≤ n' * h = rw (one_more q d') k in
    let u : q + 1 ≤ n' * h / d' = (le-div_iff_mul-le {k = d'} {x = q + 1} {y = n' * h} pd').1 t in
    omega arith
  where
    at_most_of : (a b : ℕ) → a ≤ b → pos a ≤ℤ pos b
    at_most_of a b h = omega (arith, ints)

    less_of : (a b : ℕ) → a < b → pos a <ℤ pos b
    less_of a b h = omega (arith, ints)

    from_at_most : (a b : ℕ) → pos a ≤ℤ pos b → a ≤ b
    from_at_most a b h = omega (arith, ints)

    one_more : (q d : ℕ) → (q + 1) * d ≡ q * d + d
    one_more q d = omega arith

-- the numerator over the base of the grid
lifted : (n d : ℤ) → IsBounded n d → pos (unsigned_abs ((pos (10 ^ 24) *ℤ d) +ℤ n)) ≡ (pos (10 ^ 24) *ℤ d) +ℤ n
lifted n d b = let bn = b.num in let bd = b.den in whole ((pos (10 ^ 24) *ℤ d) +ℤ n) (omega (arith, ints))

lifted_less : (b n n' d d' : ℤ) → (n *ℤ d') <ℤ (n' *ℤ d) → (((b *ℤ d) +ℤ n) *ℤ d') <ℤ (((b *ℤ d') +ℤ n') *ℤ d)
lifted_less b n n' d d' h = simp ring (omega (arith, linear, h))

carried : (a b c d a' b' c' d' : ℤ) → a ≡ a' → b ≡ b' → c ≡ c' → d ≡ d' → (a' *ℤ b') <ℤ (c' *ℤ d') → (a *ℤ b) <ℤ (c *ℤ d)
carried a b c d a' b' c' d' ea eb ec ed h = rw (ea, eb, ec, ed) h

pub rises : (n d n' d' : ℤ) → IsBounded n d → IsBounded n' d' → (n *ℤ d') <ℤ (n' *ℤ d) → height n d < height n' d'
rises n d n' d' b b' less =
    let bd = b.den in
    let bd' = b'.den in
    let u : ℕ = unsigned_abs ((pos (10 ^ 24) *ℤ d) +ℤ n) in
    let u' : ℕ = unsigned_abs ((pos (10 ^ 24) *ℤ d') +ℤ n') in
    let v : ℕ = unsigned_abs d in
    let v' : ℕ = unsigned_abs d' in
    let eu : pos u ≡ (pos (10 ^ 24) *ℤ d) +ℤ n = lifted n d b in
    let eu' : pos u' ≡ (pos (10 ^ 24) *ℤ d') +ℤ n' = lifted n' d' b' in
    let ev : pos v ≡ d = whole d (omega (arith, ints)) in
    let ev' : pos v' ≡ d' = whole d' (omega (arith, ints)) in
    let l : (pos u *ℤ pos v') <ℤ (pos u' *ℤ pos v) = carried (pos u) (pos v') (pos u') (pos v) ((pos (10 ^ 24) *ℤ d) +ℤ n) d' ((pos (10 ^ 24) *ℤ d') +ℤ n') d eu ev' eu' ev (lifted_less (pos (10 ^ 24)) n n' d d' less) in
    let m : v * v' ≤ 10 ^ 22 * 10 ^ 22 = mul-le-mul (most d bd) (most d' bd') in
    climbs u u' v v' (10 ^ 44) (least d bd) (least d' bd') m (below (u * v') (u' * v) l)
  where
    most : (d : ℤ) → IsBetween (pos 1) (pos (10 ^ 22)) d → unsigned_abs d ≤ 10 ^ 22
    most d h = omega (arith, ints)

    least : (d : ℤ) → IsBetween (pos 1) (pos (10 ^ 22)) d → 0 < unsigned_abs d
    least d h = omega (arith, ints)

    below : (a b : ℕ) → pos a <ℤ pos b → a < b
    below a b h = omega (arith, ints)

-- the grid has a top
pub tops : (n d : ℤ) → IsBounded n d → height n d ≤ 2 * 10 ^ 68
tops n d b =
    let bn = b.num in
    let bd = b.den in
    let v : ℕ = unsigned_abs d in
    let ev : pos v ≡ d = whole d (omega (arith, ints)) in
    let m : unsigned_abs ((pos (10 ^ 24) *ℤ d) +ℤ n) ≤ 2 * 10 ^ 24 * v = omega (arith, ints) in
    div-le_of_le-mul v {m = unsigned_abs ((pos (10 ^ 24) *ℤ d) +ℤ n) * 10 ^ 44} {n = 2 * 10 ^ 68} (scaled (unsigned_abs ((pos (10 ^ 24) *ℤ d) +ℤ n)) v m)
  where
    scaled : (u v : ℕ) → u ≤ 2 * 10 ^ 24 * v → u * 10 ^ 44 ≤ v * (2 * 10 ^ 68)
    scaled u v h = omega arith

pub sinks : (n d n' d' : ℤ) → IsBounded n d → IsBounded n' d' → (n *ℤ d') <ℤ (n' *ℤ d) → headroom n' d' < headroom n d
sinks n d n' d' b b' less = let r = rises n d n' d' b b' less in let t = tops n' d' b' in omega arith
