-- The remainder by a whole turn is what is left after whole turns are taken away.
use Rattle.std.proofs.Common.{◌≡◌, ◌/◌, ℤ, pos, negsuc, ◌+ℤ◌, ◌-ℤ◌, ◌*ℤ◌, ◌≤ℤ◌, ◌<ℤ◌, arith}
use Rattle.std.specs.Int.{int_rem_euclid}
use Rattle.std.proofs.lemmas.Int.{ints}
use Rattle.sky_math.specs.Circle.{wrapped, IsWrapped, half_turn, full_turn}

-- how many turns a moved position has behind it
turns : (z : ℤ) → (k : ℤ) × (z -ℤ half_turn ≡ (int_rem_euclid z full_turn -ℤ half_turn) +ℤ (k *ℤ full_turn))
turns (pos a) = (pos (a / 360000000), omega (arith, ints))
turns (negsuc a) = (negsuc (a / 360000000), omega (arith, ints))

lowest : (z : ℤ) → negsuc 179999999 ≤ℤ (int_rem_euclid z full_turn -ℤ half_turn)
lowest (pos a) = omega (arith, ints)
lowest (negsuc a) = omega (arith, ints)

highest : (z : ℤ) → (int_rem_euclid z full_turn -ℤ half_turn) <ℤ half_turn
highest (pos a) = omega (arith, ints)
highest (negsuc a) = omega (arith, ints)

pub wrapped-is : (d : ℤ) → IsWrapped d (wrapped d)
wrapped-is d =
    let back : (d +ℤ half_turn) -ℤ half_turn ≡ d = omega (arith, ints) in
    let w = turns (d +ℤ half_turn) in
    let same : d ≡ wrapped d +ℤ (w.0 *ℤ full_turn) = rw back at w.1 in
    record { turns = (w.0, same); lowest = lowest (d +ℤ half_turn); highest = highest (d +ℤ half_turn) }
