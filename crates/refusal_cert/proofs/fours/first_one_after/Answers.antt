use Rattle.std.proofs.Common.{◌≡◌, ◌+◌, ◌<◌, [], ◌∷◌, length, true, w64, sym, subst, ◌∙◌, arith}
use Rattle.std.proofs.lemmas.Bool.{false≢true}
use Rattle.std.proofs.lemmas.Int.{ints, to_z-of_z}
use Rattle.sky_units.specs.Arcs.{IsArc}
use Rattle.sky_units.specs.Motion.{tolerance}
use Rattle.quad_fit.proofs.Sizes.{held}
use Rattle.refusal_cert.specs.Certificates.{AdmitsAt}
use Rattle.refusal_cert.proofs.FoursAt.{AreFour, arc_of_four, four_told_at, front_passed}
use Rattle.refusal_cert.proofs.Parts.{rest_of}
use Rattle.refusal_cert.proofs.Places.{arc_at, three_at}
use Rattle.refusal_cert.proofs.Searching.{all_passed, first_found, last_admitted, last_refused, one_passed}
use Rattle.refusal_cert.proofs.Suffices.{AreLimits, three_places}
use Rattle.refusal_cert.specs.Coefficients.{AreEnds}
use Rattle.refusal_cert.proofs.fours.first_one_after.Goals as goal

pub coefficients_of-before-requires-clause-arc : goal.coefficients_of-before-requires-clause-arc
coefficients_of-before-requires-clause-arc c =
    let ij = c.requires.first_step in
    let jk = c.requires.second_step in
    let kn = c.requires.within in
    let at = three_at c.args.spots.now c.args.i c.args.j c.args.k c.index-spots-i.result c.index-spots-j.result c.index-spots-k.result (omega arith) (omega arith) kn c.index-spots-i.is c.index-spots-j.is c.index-spots-k.is in
    subst IsArc at (arc_at c.args.spots.now 0 (c.args.i ∷ c.args.j ∷ c.args.k ∷ []) c.index-spots-i.result c.requires.arc (three_places (length c.args.spots.now) c.args.i c.args.j c.args.k ij jk kn).0)

pub loop-l-init : goal.loop-l-init
loop-l-init c = front_passed c.args.axis c.args.settings.now c.args.spots.now c.args.front c.max-l.result c.args.i c.args.j c.args.k c.index-spots-j.result c.requires.arc c.requires.front c.requires.first_step c.requires.second_step c.max-l.ensures

pub coefficients_of-after-requires-clause-arc : goal.coefficients_of-after-requires-clause-arc
coefficients_of-after-requires-clause-arc c =
    let kl : c.args.k < c.loop-l.l = omega (arith, c.max-l.ensures) in
    let four : AreFour c.args.spots.now c.args.i c.args.j c.args.k c.loop-l.l c.index-spots-i.result c.index-spots-j.result c.index-spots-k.result c.index-spots-l.result = record {
      first_step = c.requires.first_step;
      second_step = c.requires.second_step;
      third_step = kl;
      within = c.loop-l-test.true;
      first = c.index-spots-i.is;
      second = c.index-spots-j.is;
      third = c.index-spots-k.is;
      fourth = c.index-spots-l.is;
    } in
    rest_of c.index-spots-i.result (c.index-spots-j.result ∷ c.index-spots-k.result ∷ c.index-spots-l.result ∷ []) (arc_of_four c.args.spots.now c.args.i c.args.j c.args.k c.loop-l.l c.index-spots-i.result c.index-spots-j.result c.index-spots-k.result c.index-spots-l.result c.requires.arc four)

pub returns-then-not-meet : goal.returns-then-not-meet
returns-then-not-meet c =
    let kl : c.args.k < c.loop-l.l = omega (arith, c.max-l.ensures) in
    let four : AreFour c.args.spots.now c.args.i c.args.j c.args.k c.loop-l.l c.index-spots-i.result c.index-spots-j.result c.index-spots-k.result c.index-spots-l.result = record {
      first_step = c.requires.first_step;
      second_step = c.requires.second_step;
      third_step = kl;
      within = c.loop-l-test.true;
      first = c.index-spots-i.is;
      second = c.index-spots-j.is;
      third = c.index-spots-k.is;
      fourth = c.index-spots-l.is;
    } in
    let room = c.limits_of-tol.ensures.tol_range in
    let tol : held c.limits_of-tol.result.1 ≡ tolerance c.args.axis c.args.settings.now = to_z-of_z w64 c.limits_of-tol.result.1 (omega (arith, ints, room)) ∙ c.limits_of-tol.ensures.tol in
    let limits : AreLimits c.args.axis c.args.settings.now = record { acc = (rw c.limits_of-tol.ensures.acc at c.limits_of-tol.ensures.acc_range).from; tol = rw c.limits_of-tol.ensures.tol at room } in
    let before : AreEnds c.args.axis (tolerance c.args.axis c.args.settings.now) c.index-spots-i.result c.index-spots-j.result c.index-spots-k.result c.coefficients_of-before.result.low c.coefficients_of-before.result.high = rw tol at c.coefficients_of-before.ensures in
    let after : AreEnds c.args.axis (tolerance c.args.axis c.args.settings.now) c.index-spots-j.result c.index-spots-k.result c.index-spots-l.result c.coefficients_of-after.result.low c.coefficients_of-after.result.high = rw tol at c.coefficients_of-after.ensures in
    let told = four_told_at c.args.axis c.args.settings.now c.args.spots.now c.args.i c.args.j c.args.k c.loop-l.l c.index-spots-i.result c.index-spots-j.result c.index-spots-k.result c.index-spots-l.result c.coefficients_of-before.result.low c.coefficients_of-before.result.high c.coefficients_of-after.result.low c.coefficients_of-after.result.high limits c.requires.arc c.requires.threes four before after in
    first_found (λ rest. AdmitsAt c.args.axis c.args.settings.now c.args.spots.now (c.args.i ∷ c.args.j ∷ c.args.k ∷ rest)) (c.args.k + 1) (length c.args.spots.now) 0 c.loop-l.l [] (omega arith) c.loop-l-test.true c.loop-l.invariant
    (last_refused (λ rest. AdmitsAt c.args.axis c.args.settings.now c.args.spots.now (c.args.i ∷ c.args.j ∷ c.args.k ∷ rest)) (length c.args.spots.now) c.loop-l.l
    (λ w.
    let yes : c.meet.result ≡ true = c.meet.ensures.1 (told.1 w) in
    absurd (false≢true (sym c.if-not-meet.true ∙ yes))))

pub loop-l-preserved : goal.loop-l-preserved
loop-l-preserved c =
    let kl : c.args.k < c.loop-l.l = omega (arith, c.max-l.ensures) in
    let four : AreFour c.args.spots.now c.args.i c.args.j c.args.k c.loop-l.l c.index-spots-i.result c.index-spots-j.result c.index-spots-k.result c.index-spots-l.result = record {
      first_step = c.requires.first_step;
      second_step = c.requires.second_step;
      third_step = kl;
      within = c.loop-l-test.true;
      first = c.index-spots-i.is;
      second = c.index-spots-j.is;
      third = c.index-spots-k.is;
      fourth = c.index-spots-l.is;
    } in
    let room = c.limits_of-tol.ensures.tol_range in
    let tol : held c.limits_of-tol.result.1 ≡ tolerance c.args.axis c.args.settings.now = to_z-of_z w64 c.limits_of-tol.result.1 (omega (arith, ints, room)) ∙ c.limits_of-tol.ensures.tol in
    let limits : AreLimits c.args.axis c.args.settings.now = record { acc = (rw c.limits_of-tol.ensures.acc at c.limits_of-tol.ensures.acc_range).from; tol = rw c.limits_of-tol.ensures.tol at room } in
    let before : AreEnds c.args.axis (tolerance c.args.axis c.args.settings.now) c.index-spots-i.result c.index-spots-j.result c.index-spots-k.result c.coefficients_of-before.result.low c.coefficients_of-before.result.high = rw tol at c.coefficients_of-before.ensures in
    let after : AreEnds c.args.axis (tolerance c.args.axis c.args.settings.now) c.index-spots-j.result c.index-spots-k.result c.index-spots-l.result c.coefficients_of-after.result.low c.coefficients_of-after.result.high = rw tol at c.coefficients_of-after.ensures in
    let told = four_told_at c.args.axis c.args.settings.now c.args.spots.now c.args.i c.args.j c.args.k c.loop-l.l c.index-spots-i.result c.index-spots-j.result c.index-spots-k.result c.index-spots-l.result c.coefficients_of-before.result.low c.coefficients_of-before.result.high c.coefficients_of-after.result.low c.coefficients_of-after.result.high limits c.requires.arc c.requires.threes four before after in
    one_passed (λ rest. AdmitsAt c.args.axis c.args.settings.now c.args.spots.now (c.args.i ∷ c.args.j ∷ c.args.k ∷ rest)) (c.args.k + 1) (length c.args.spots.now) 0 c.loop-l.l c.loop-l.invariant
    (last_admitted (λ rest. AdmitsAt c.args.axis c.args.settings.now c.args.spots.now (c.args.i ∷ c.args.j ∷ c.args.k ∷ rest)) (length c.args.spots.now) c.loop-l.l (told.0 (c.meet.ensures.0 c.if-not-meet.false)))

pub returns : goal.returns
returns c = all_passed (λ rest. AdmitsAt c.args.axis c.args.settings.now c.args.spots.now (c.args.i ∷ c.args.j ∷ c.args.k ∷ rest)) (c.args.k + 1) (length c.args.spots.now) 0 c.loop-l.l (omega arith) c.loop-l.invariant
