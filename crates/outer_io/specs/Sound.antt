-- What the fields of a line reader keep to.
use Rattle.std.specs.Prelude.{◌≡◌, ℕ, ◌-◌, ◌^◌, ◌≤◌, ◌<◌, Bool, true, false}

-- the places lie in the buffer, the bytes held back were taken, none are once a read answered the end,
-- and only a reader that has stopped took more than an input may have
pub record IsSound (size start end line_start line_end took : ℕ) (ended stopped : Bool) : Type 0 where
  pub room : size ≡ 66562
  pub order : start ≤ end
  pub within : end ≤ size
  pub line_order : line_start ≤ line_end
  pub line_within : line_end ≤ size
  pub counted : end - start ≤ took
  pub limit : took ≤ 2 ^ 32
  pub unstopped : stopped ≡ false → took < 2 ^ 32
  pub none_held : ended ≡ true → start ≡ end
