-- The sizes of the numbers of a least-squares line over points of one day: of different times there are at most 2^20.
use Rattle.std.specs.Prelude.{◌≤◌, ◌^◌, ℤ}
use Rattle.std.specs.Int.RustNames.{unsigned_abs}

-- a time is at most 2^20, a position at most 2^28
pub record IsSmallPoint (time position : ℤ) : Type 0 where
  pub time_size : unsigned_abs time ≤ 1048576
  pub position_size : unsigned_abs position ≤ 268435456

pub record AreSmallSums (count times squares positions products : ℤ) : Type 0 where
  pub count_size : unsigned_abs count ≤ 2 ^ 20
  pub times_size : unsigned_abs times ≤ 2 ^ 40
  pub squares_size : unsigned_abs squares ≤ 2 ^ 60
  pub positions_size : unsigned_abs positions ≤ 2 ^ 48
  pub products_size : unsigned_abs products ≤ 2 ^ 68

pub record IsSmallLine (scale slope level : ℤ) : Type 0 where
  pub scale_size : unsigned_abs scale ≤ 2 ^ 81
  pub slope_size : unsigned_abs slope ≤ 2 ^ 89
  pub level_size : unsigned_abs level ≤ 2 ^ 109
