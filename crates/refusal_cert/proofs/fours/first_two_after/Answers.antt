use Rattle.std.proofs.Common.{◌+◌, [], ◌∷◌, length, arith}
use Rattle.refusal_cert.specs.Certificates.{AdmitsAt}
use Rattle.refusal_cert.proofs.Searching.{all_passed, first_found, none_passed, none_told, one_passed}
use Rattle.refusal_cert.proofs.fours.first_two_after.Goals as goal

pub loop-k-init : goal.loop-k-init
loop-k-init c = none_passed (λ rest. AdmitsAt c.args.axis c.args.settings.now c.args.spots.now (c.args.i ∷ c.args.j ∷ rest)) (c.args.j + 1) (length c.args.spots.now) 1

pub returns-in-Some : goal.returns-in-Some
returns-in-Some c = first_found (λ rest. AdmitsAt c.args.axis c.args.settings.now c.args.spots.now (c.args.i ∷ c.args.j ∷ rest)) (c.args.j + 1) (length c.args.spots.now) 1 c.loop-k.k (c.in-Some.l ∷ []) (omega arith) c.loop-k-test.true c.loop-k.invariant c.in-Some.ensures

pub loop-k-preserved : goal.loop-k-preserved
loop-k-preserved c = one_passed (λ rest. AdmitsAt c.args.axis c.args.settings.now c.args.spots.now (c.args.i ∷ c.args.j ∷ rest)) (c.args.j + 1) (length c.args.spots.now) 1 c.loop-k.k c.loop-k.invariant (none_told _ _ c.first_one_after.result c.first_one_after.ensures c.in_default.is)

pub returns : goal.returns
returns c = all_passed (λ rest. AdmitsAt c.args.axis c.args.settings.now c.args.spots.now (c.args.i ∷ c.args.j ∷ rest)) (c.args.j + 1) (length c.args.spots.now) 1 c.loop-k.k (omega arith) c.loop-k.invariant
