use Rattle.std.proofs.Common.{◌≡◌, ◌+◌, length}
use Rattle.std.specs.List.{sum_by}
use Rattle.exposure_log.specs.Nights.{listed_of}
use Rattle.exposure_log.proofs.nights.HeldNights.len.Given as goal

abbrev pub invariant-loop-listed : goal.invariant-loop-listed
invariant-loop-listed l = l.total + sum_by (λ listed. length listed.items) l.listed-iterator ≡ length (listed_of l.self)
