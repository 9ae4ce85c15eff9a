-- Times are counted in ticks, 10^-6 day; a night is a whole number of days of the shifted time.
use Rattle.std.specs.Prelude.{ℤ, pos, ◌+ℤ◌}
use Rattle.std.specs.Int.{int_div_euclid}

-- a day, in ticks
abbrev pub ticks_per_day : ℤ
ticks_per_day = pos 1000000

-- the night of an epoch: the whole days in the epoch moved by the night shift, rounded down
abbrev pub night_at : ℤ → ℤ → ℤ
night_at shift epoch = int_div_euclid (epoch +ℤ shift) ticks_per_day
