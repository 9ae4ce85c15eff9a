use Rattle.std.proofs.Common.{◌+◌, ◌-◌, ◌≤◌, ℕ, length, drop, ◌∙◌, arith, length-take-le}
use Rattle.outer_io.proofs.Pieces.{given_then_rest}
use Rattle.outer_io.proofs.mem_source.give.Goals as goal

pub returns-clause-bytes : goal.returns-clause-bytes
returns-clause-bytes c =
    let n : ℕ = c.min-count.result in
    let fits : n ≤ length c.args.buf.now = omega arith in
    given_then_rest c.args.bytes.now c.copy_from_slice.new.self (drop n c.args.buf.now) c.args.at n ((c.args.at + n) - c.args.at)
    (c.copy_from_slice.ensures.len ∙ length-take-le n c.args.buf.now fits) (omega arith) c.copy_from_slice.ensures.after
