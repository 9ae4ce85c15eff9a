use Rattle.std.proofs.Common.{◌≡◌, ◌≤◌, ℤ, pos, neg_ℤ, ◌-ℤ◌, ◌*ℤ◌, true, false, ◌&&◌, to_z, of_z, SFits, w64, arith, refl, lit<, mul-le-mul}
use Rattle.std.specs.Int.Signed.{le_z}
use Rattle.std.specs.Int.RustNames.{unsigned_abs}
use Rattle.std.proofs.lemmas.Int.{ints, to_z-of_z, fits_signed_mul, unsigned_abs-mul}
use Rattle.pair_finder.proofs.rates.keeps_rate.Goals as goal

-- what the machine computes of two products that fit
reach_is : (a b : ℤ) → SFits w64 a → SFits w64 b → SFits w64 (a *ℤ b) → to_z w64 (of_z w64 (to_z w64 (of_z w64 a) *ℤ to_z w64 (of_z w64 b))) ≡ a *ℤ b
reach_is a b f g h = simp to_z-of_z

moved_is : (a : ℤ) → SFits w64 a → SFits w64 (a *ℤ pos 1000000) → to_z w64 (of_z w64 (to_z w64 (of_z w64 a) *ℤ pos 1000000)) ≡ a *ℤ pos 1000000
moved_is a f h = simp to_z-of_z

opposite : (b : ℤ) → unsigned_abs b ≤ 10000000000000 → to_z w64 (of_z w64 (pos 0 -ℤ b)) ≡ neg_ℤ b
opposite b f = omega (arith, ints)

product_within : (a b : ℤ) → unsigned_abs a ≤ 10000000 → unsigned_abs b ≤ 1000000 → unsigned_abs (a *ℤ b) ≤ 10000000000000
product_within a b h k = rw unsigned_abs-mul (mul-le-mul h k)

-- the two tests of the code, by what the machine computes, are those of the definition
both : (low moved high l m h : ℤ) → l ≡ low → m ≡ moved → h ≡ high → le_z l m ≡ true → le_z m h ≡ (le_z low moved && le_z moved high)
both low moved high l m h el em eh t = rw (← el, ← em, ← eh, t) refl

not_low : (low moved high l m h : ℤ) → l ≡ low → m ≡ moved → le_z l m ≡ false → le_z l m ≡ (le_z low moved && le_z moved high)
not_low low moved high l m h el em t = rw (← el, ← em, t) refl

pub returns-then-reach-moved : goal.returns-then-reach-moved
returns-then-reach-moved c =
    let d : unsigned_abs c.args.difference ≤ 180000000 = omega (arith, ints) in
    let r : unsigned_abs c.args.rate ≤ 10000000 = omega (arith, ints) in
    let t : unsigned_abs c.args.ticks ≤ 1000000 = omega (arith, ints) in
    let fits = fits_signed_mul w64 c.args.rate c.args.ticks 10000000 1000000 r t (lit< tt) in
    let reach = reach_is c.args.rate c.args.ticks c.ranges.rate c.ranges.ticks fits in
    let moved = moved_is c.args.difference c.ranges.difference (fits_signed_mul w64 c.args.difference (pos 1000000) 180000000 1000000 d (omega arith) (lit< tt)) in
    both (neg_ℤ (c.args.rate *ℤ c.args.ticks)) (c.args.difference *ℤ pos 1000000) (c.args.rate *ℤ c.args.ticks) _ _ _ (rw reach (opposite _ (product_within c.args.rate c.args.ticks r t))) moved reach c.if-reach-moved.true

pub returns-else-reach-moved : goal.returns-else-reach-moved
returns-else-reach-moved c =
    let d : unsigned_abs c.args.difference ≤ 180000000 = omega (arith, ints) in
    let r : unsigned_abs c.args.rate ≤ 10000000 = omega (arith, ints) in
    let t : unsigned_abs c.args.ticks ≤ 1000000 = omega (arith, ints) in
    let fits = fits_signed_mul w64 c.args.rate c.args.ticks 10000000 1000000 r t (lit< tt) in
    let reach = reach_is c.args.rate c.args.ticks c.ranges.rate c.ranges.ticks fits in
    let moved = moved_is c.args.difference c.ranges.difference (fits_signed_mul w64 c.args.difference (pos 1000000) 180000000 1000000 d (omega arith) (lit< tt)) in
    not_low (neg_ℤ (c.args.rate *ℤ c.args.ticks)) (c.args.difference *ℤ pos 1000000) (c.args.rate *ℤ c.args.ticks) _ _ (pos 0) (rw reach (opposite _ (product_within c.args.rate c.args.ticks r t))) moved c.if-reach-moved.false
