use Rattle.std.proofs.Common.{◌+◌, ◌∷◌, length}
use Rattle.refusal_cert.proofs.Searching.{ArePassed}
use Rattle.refusal_cert.specs.Certificates.{AdmitsAt}
use Rattle.refusal_cert.proofs.threes.first_one_after.Given as goal

-- the axis admits the three that end before this place
abbrev pub invariant-loop-k : goal.invariant-loop-k
invariant-loop-k l = ArePassed (λ rest. AdmitsAt l.axis l.settings l.spots (l.i ∷ l.j ∷ rest)) (l.j + 1) (length l.spots) 0 l.k
