use Rattle.std.proofs.Common.{◌+◌, ◌∷◌, length}
use Rattle.refusal_cert.proofs.Searching.{ArePassed}
use Rattle.refusal_cert.specs.Certificates.{AdmitsAt}
use Rattle.refusal_cert.proofs.fours.first_two_after.Given as goal

-- the axis admits the choices that go on with an earlier place
abbrev pub invariant-loop-k : goal.invariant-loop-k
invariant-loop-k l = ArePassed (λ rest. AdmitsAt l.axis l.settings l.spots (l.i ∷ l.j ∷ rest)) (l.j + 1) (length l.spots) 1 l.k
