-- A night begins at its number of whole days, and ends a day later; so a night is no later than that of a later epoch.
use Rattle.std.proofs.Common.{ℤ, pos, negsuc, ◌+ℤ◌, ◌*ℤ◌, ◌≤ℤ◌, ◌<ℤ◌, arith}
use Rattle.std.specs.Int.{int_div_euclid}
use Rattle.std.proofs.lemmas.Int.{ints}
use Rattle.sky_math.specs.Night.{night_at}

pub record IsDayOf (time day : ℤ) : Type 0 where
  pub from : (day *ℤ pos 1000000) ≤ℤ time
  pub until : time <ℤ ((day *ℤ pos 1000000) +ℤ pos 1000000)

pub day_of : (time : ℤ) → IsDayOf time (int_div_euclid time (pos 1000000))
day_of (pos a) = record { from = omega (arith, ints); until = omega (arith, ints) }
day_of (negsuc a) = record { from = omega (arith, ints); until = omega (arith, ints) }

pub time_of_night : (shift epoch : ℤ) → IsDayOf (epoch +ℤ shift) (night_at shift epoch)
time_of_night shift epoch = day_of (epoch +ℤ shift)

no_later_day : (a b m n : ℤ) → IsDayOf a m → IsDayOf b n → a ≤ℤ b → m ≤ℤ n
no_later_day a b m n p q h = omega (arith, ints, p.from, q.until)

pub nights_dont_fall : (shift a b : ℤ) → a ≤ℤ b → night_at shift a ≤ℤ night_at shift b
nights_dont_fall shift a b h = no_later_day (a +ℤ shift) (b +ℤ shift) (night_at shift a) (night_at shift b) (time_of_night shift a) (time_of_night shift b) (omega (arith, ints))
