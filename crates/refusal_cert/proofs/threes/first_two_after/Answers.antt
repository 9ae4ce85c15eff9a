use Rattle.std.proofs.Common.{◌+◌, [], ◌∷◌, length, arith}
use Rattle.refusal_cert.specs.Certificates.{AdmitsAt}
use Rattle.refusal_cert.proofs.Searching.{all_passed, first_found, none_passed, none_told, one_passed}
use Rattle.refusal_cert.proofs.threes.first_two_after.Goals as goal

pub loop-j-init : goal.loop-j-init
loop-j-init c = none_passed (λ rest. AdmitsAt c.args.axis c.args.settings.now c.args.spots.now (c.args.i ∷ rest)) (c.args.i + 1) (length c.args.spots.now) 1

pub returns-in-Some : goal.returns-in-Some
returns-in-Some c = first_found (λ rest. AdmitsAt c.args.axis c.args.settings.now c.args.spots.now (c.args.i ∷ rest)) (c.args.i + 1) (length c.args.spots.now) 1 c.loop-j.j (c.in-Some.k ∷ []) (omega arith) c.loop-j-test.true c.loop-j.invariant c.in-Some.ensures

pub loop-j-preserved : goal.loop-j-preserved
loop-j-preserved c = one_passed (λ rest. AdmitsAt c.args.axis c.args.settings.now c.args.spots.now (c.args.i ∷ rest)) (c.args.i + 1) (length c.args.spots.now) 1 c.loop-j.j c.loop-j.invariant (none_told _ _ c.first_one_after.result c.first_one_after.ensures c.in_default.is)

pub returns : goal.returns
returns c = all_passed (λ rest. AdmitsAt c.args.axis c.args.settings.now c.args.spots.now (c.args.i ∷ rest)) (c.args.i + 1) (length c.args.spots.now) 1 c.loop-j.j (omega arith) c.loop-j.invariant
