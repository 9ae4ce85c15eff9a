-- What a spot is: a label, a time and a position.
use Rattle.std.specs.Prelude.{ℕ, ℤ}

-- `num` is a label; `epoch` is in ticks, `ra` and `dec` in 10^-6 degree
pub record SpotData : Type 0 where
  pub num : ℕ
  pub epoch : ℤ
  pub ra : ℤ
  pub dec : ℤ
