-- How the objects of a made sky move, and how they are detected.
use Rattle.std.specs.Prelude.{ℕ, ◌+◌, ◌*◌, ◌%◌, ◌^◌, ◌++◌, codes, decimal, zero, suc, List, ℤ, pos, neg_ℤ, ◌+ℤ◌, ◌-ℤ◌, ◌*ℤ◌}
use Rattle.std.specs.Int.{int_div_euclid, int_rem_euclid}
use Rattle.sky_math.specs.Circle.{full_turn}
use Rattle.sky_units.specs.Ranges.{IsBetween, IsRightAscension}
use Rattle.miti_text.specs.Observation.{Observation}
use Rattle.made_sky.specs.Draws.{share, after_draws}
use Rattle.made_sky.specs.declared.motions.Motion.{Motion}

-- the motion that six draws make of the state before them
unfoldable pub motion_from : ℕ → Motion
motion_from x = record {
  ra = pos ((355000000 + share 10000000 (after_draws 1 x)) % 360000000);
  dec = pos (share 10000000 (after_draws 2 x)) -ℤ pos 5000000;
  ra_rate = pos (share 600001 (after_draws 3 x)) -ℤ pos 300000;
  dec_rate = pos (share 200001 (after_draws 4 x)) -ℤ pos 100000;
  ra_acceleration = pos (share 20001 (after_draws 5 x)) -ℤ pos 10000;
  dec_acceleration = pos (share 20001 (after_draws 6 x)) -ℤ pos 10000;
}

-- the state before the draws of an object, in the sky of a number
abbrev pub state_before : ℕ → ℕ → ℕ
state_before number zero = number % 2 ^ 31
state_before number (suc object) = after_draws 6 (state_before number object)

-- the motion of an object
abbrev pub motion_of : ℕ → ℕ → Motion
motion_of number object = motion_from (state_before number object)

-- a rate: at most 0.3 degree a day; an acceleration: at most 0.01 degree a day and day
abbrev pub IsRate : ℤ → Type 0
IsRate = IsBetween (neg_ℤ (pos 300000)) (pos 300000)

abbrev pub IsAcceleration : ℤ → Type 0
IsAcceleration = IsBetween (neg_ℤ (pos 10000)) (pos 10000)

-- what each motion keeps
pub record IsMotion (m : Motion) : Type 0 where
  pub ra : IsRightAscension m.ra
  pub dec : IsBetween (neg_ℤ (pos 5000000)) (pos 5000000) m.dec
  pub ra_rate : IsRate m.ra_rate
  pub dec_rate : IsRate m.dec_rate
  pub ra_acceleration : IsAcceleration m.ra_acceleration
  pub dec_acceleration : IsAcceleration m.dec_acceleration

-- the ticks from the first exposure of the sky to an exposure of a night
abbrev pub since : ℕ → ℕ → ℕ
since night exposure = 1000000 * night + 20000 * exposure

-- such ticks in a sky of at most thirty nights
abbrev pub AreTicks : ℤ → Type 0
AreTicks = IsBetween (pos 0) (pos 29020000)

-- how far a rate a day and an acceleration a day and day lead in some ticks: two floors of exact quotients
abbrev pub moved : ℤ → ℤ → ℤ → ℤ
moved rate acceleration ticks =
    int_div_euclid (rate *ℤ ticks) (pos 1000000) +ℤ int_div_euclid (acceleration *ℤ (ticks *ℤ ticks)) (pos 2000000000000)

-- where an object is after some ticks
abbrev pub ra_at : Motion → ℤ → ℤ
ra_at m ticks = int_rem_euclid (m.ra +ℤ moved m.ra_rate m.ra_acceleration ticks) full_turn

abbrev pub dec_at : Motion → ℤ → ℤ
dec_at m ticks = m.dec +ℤ moved m.dec_rate m.dec_acceleration ticks

-- the id of a detection, and the name of an object
abbrev pub id_of : ℕ → ℕ → ℕ → List ℕ
id_of night exposure object = codes "g" ++ decimal object ++ codes "n" ++ decimal night ++ codes "e" ++ decimal exposure

abbrev pub name_of : ℕ → List ℕ
name_of object = codes "obj" ++ decimal object

-- the detection of an object in an exposure of a night
unfoldable pub sighted : Motion → ℕ → ℕ → ℕ → Observation
sighted m night exposure object = record {
  id = id_of night exposure object;
  epoch = pos (59000250000 + since night exposure);
  ra = ra_at m (pos (since night exposure));
  dec = dec_at m (pos (since night exposure));
  mag = pos 20000;
  site = codes "500";
  name = name_of object;
}
