use Rattle.std.proofs.Common.{◌≡◌, ◌^◌, true, take, min}
use Rattle.std.specs.List.{list_all}
use Rattle.std.specs.Char.{is_ascii_digit}
use Rattle.std.specs.Str.Parse.{digits_value}
use Rattle.miti_text.proofs.numerals.read_digits.Given as goal

abbrev pub invariant-loop-byte : goal.invariant-loop-byte
invariant-loop-byte l =
    (list_all is_ascii_digit (take l.byte-index l.text) ≡ true)
    × (l.value ≡ min (digits_value 10 (take l.byte-index l.text)) (10 ^ 18))
