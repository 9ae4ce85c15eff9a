use Rattle.std.proofs.Common.{◌≡◌, take}
use Rattle.number_register.specs.IdNumbers.{id_hash}
use Rattle.number_register.proofs.id_numbers.hash_of.Given as goal

abbrev pub invariant-loop-byte : goal.invariant-loop-byte
invariant-loop-byte l = l.hash ≡ id_hash (take l.byte-index l.id)
