use Rattle.std.proofs.Common.{length}
use Rattle.refusal_cert.proofs.Searching.{ArePassed}
use Rattle.refusal_cert.specs.Certificates.{AdmitsAt}
use Rattle.refusal_cert.proofs.threes.first_three.Given as goal

-- the axis admits the choices that go on with an earlier place
abbrev pub invariant-loop-i : goal.invariant-loop-i
invariant-loop-i l = ArePassed (AdmitsAt l.axis l.settings l.spots) 0 (length l.spots) 2 l.i
