use Rattle.std.proofs.Common.{arith}
use Rattle.refusal_cert.proofs.tests.are_numbered.Goals as goal

pub returns : goal.returns
returns c = λ h. λ i j d ij jn e.
    let a = c.loop-place.invariant i d (omega arith) in
    let b = c.loop-place.invariant j d (omega arith) in
    absurd (omega (arith, a, b, e))
