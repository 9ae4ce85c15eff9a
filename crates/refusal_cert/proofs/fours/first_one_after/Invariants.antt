use Rattle.std.proofs.Common.{◌+◌, ◌∷◌, length}
use Rattle.refusal_cert.proofs.Searching.{ArePassed}
use Rattle.refusal_cert.specs.Certificates.{AdmitsAt}
use Rattle.refusal_cert.proofs.fours.first_one_after.Given as goal

-- the axis admits the four that end before this place
abbrev pub invariant-loop-l : goal.invariant-loop-l
invariant-loop-l l = ArePassed (λ rest. AdmitsAt l.axis l.settings l.spots (l.i ∷ l.j ∷ l.k ∷ rest)) (l.k + 1) (length l.spots) 0 l.l
