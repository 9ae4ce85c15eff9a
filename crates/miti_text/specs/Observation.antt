-- What a detection says, and the rules of its fields.
use Rattle.std.specs.Prelude.{ℕ, Bool, not, ◌&&◌, ◌||◌, ◌==◌, nat_lt, nat_le, List, length, slice_index, ℤ, IsTrue}
use Rattle.std.specs.List.{list_all}
use Rattle.sky_units.specs.Ranges.{IsEpoch, IsRightAscension, IsDeclination}
use Rattle.miti_text.specs.Quantities.{IsMagnitude}

-- a detection: its times and places in whole units
pub record Observation : Type 0 where
  pub id : List ℕ
  pub epoch : ℤ
  pub ra : ℤ
  pub dec : ℤ
  pub mag : ℤ
  pub site : List ℕ
  pub name : List ℕ

-- a byte that is seen: no blank and no control
abbrev pub is_visible : ℕ → Bool
is_visible byte = nat_le 33 byte && nat_le byte 126

-- one visible byte or more, and nothing else
abbrev pub is_shown : List ℕ → Bool
is_shown word = nat_lt 0 (length word) && list_all is_visible word

-- one to `most` visible bytes
abbrev pub is_word : ℕ → List ℕ → Bool
is_word most word = is_shown word && nat_le (length word) most

-- `!` and `#` begin other lines
abbrev pub begins_other_line : List ℕ → Bool
begins_other_line text = (slice_index text 0 == 33) || (slice_index text 0 == 35)

abbrev pub is_id : List ℕ → Bool
is_id word = is_word 64 word && not (begins_other_line word)

abbrev pub is_site : List ℕ → Bool
is_site = is_word 8

abbrev pub is_name : List ℕ → Bool
is_name = is_word 64

-- each field keeps its rule
pub record IsDetection (d : Observation) : Type 0 where
  pub id : IsTrue (is_id d.id)
  pub epoch : IsEpoch d.epoch
  pub ra : IsRightAscension d.ra
  pub dec : IsDeclination d.dec
  pub mag : IsMagnitude d.mag
  pub site : IsTrue (is_site d.site)
  pub name : IsTrue (is_name d.name)
