-- Right ascension goes round the circle, so two right ascensions differ by the short way.
use Rattle.std.specs.Prelude.{◌≡◌, ℤ, pos, negsuc, ◌+ℤ◌, ◌-ℤ◌, ◌*ℤ◌, ◌≤ℤ◌, ◌<ℤ◌}
use Rattle.std.specs.Int.{int_rem_euclid}

-- one turn, in 10^-6 degree
abbrev pub full_turn : ℤ
full_turn = pos 360000000

-- half a turn, in 10^-6 degree
abbrev pub half_turn : ℤ
half_turn = pos 180000000

-- the wrapped difference: d less whole turns, from half a turn back to just under half a turn ahead
abbrev pub wrapped : ℤ → ℤ
wrapped d = int_rem_euclid (d +ℤ half_turn) full_turn -ℤ half_turn

-- what wrapping is for: w is d less a number of whole turns, and from -half_turn to just under half_turn
pub record IsWrapped (d w : ℤ) : Type 0 where
  pub turns : (k : ℤ) × (d ≡ w +ℤ (k *ℤ full_turn))
  pub lowest : negsuc 179999999 ≤ℤ w
  pub highest : w <ℤ half_turn

-- the lifted right ascension: where `ra` lies as seen from `base`, not reduced to the circle
abbrev pub lifted : ℤ → ℤ → ℤ
lifted base ra = base +ℤ wrapped (ra -ℤ base)
