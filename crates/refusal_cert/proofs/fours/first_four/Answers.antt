use Rattle.std.proofs.Common.{[], ◌∷◌, length, arith}
use Rattle.refusal_cert.specs.Certificates.{AdmitsAt}
use Rattle.refusal_cert.proofs.Searching.{all_passed, first_found, none_passed, none_told, one_passed}
use Rattle.refusal_cert.proofs.fours.first_four.Goals as goal

pub loop-i-init : goal.loop-i-init
loop-i-init c = none_passed (AdmitsAt c.args.axis c.args.settings.now c.args.spots.now) 0 (length c.args.spots.now) 3

pub returns-in-Some : goal.returns-in-Some
returns-in-Some c = first_found (AdmitsAt c.args.axis c.args.settings.now c.args.spots.now) 0 (length c.args.spots.now) 3 c.loop-i.i (c.in-Some.j ∷ c.in-Some.k ∷ c.in-Some.l ∷ []) (omega arith) c.loop-i-test.true c.loop-i.invariant c.in-Some.ensures

pub loop-i-preserved : goal.loop-i-preserved
loop-i-preserved c = one_passed (AdmitsAt c.args.axis c.args.settings.now c.args.spots.now) 0 (length c.args.spots.now) 3 c.loop-i.i c.loop-i.invariant (none_told _ _ c.first_three_after.result c.first_three_after.ensures c.in_default.is)

pub returns : goal.returns
returns c = all_passed (AdmitsAt c.args.axis c.args.settings.now c.args.spots.now) 0 (length c.args.spots.now) 3 c.loop-i.i (omega arith) c.loop-i.invariant
