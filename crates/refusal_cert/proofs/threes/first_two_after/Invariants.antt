use Rattle.std.proofs.Common.{◌+◌, ◌∷◌, length}
use Rattle.refusal_cert.proofs.Searching.{ArePassed}
use Rattle.refusal_cert.specs.Certificates.{AdmitsAt}
use Rattle.refusal_cert.proofs.threes.first_two_after.Given as goal

-- the axis admits the choices that go on with an earlier place
abbrev pub invariant-loop-j : goal.invariant-loop-j
invariant-loop-j l = ArePassed (λ rest. AdmitsAt l.axis l.settings l.spots (l.i ∷ rest)) (l.i + 1) (length l.spots) 1 l.j
