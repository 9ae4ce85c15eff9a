use Rattle.std.proofs.Common.{◌-◌, ◌^◌, take}
use Rattle.outer_io.proofs.Begun.{BegunSo}
use Rattle.outer_io.proofs.line_reader.read_to_feed.Given as goal

abbrev pub invariant-loop-count : goal.invariant-loop-count
invariant-loop-count g l = BegunSo (take l.fn.begun l.fn.buffer) l.buffer l.kept l.fn.took l.took (g.S.Source.supply l.fn.source) (g.S.Source.supply l.source)

-- the bytes that an input may still have
abbrev pub decreases-loop-count : goal.decreases-loop-count
decreases-loop-count g l = 2 ^ 32 - l.took
