use Rattle.std.proofs.Common.{◌≡◌, ◌+◌, ◌<◌, [], ◌∷◌, length, sym, subst, ◌∙◌, true, arith}
use Rattle.std.proofs.lemmas.Bool.{false≢true}
use Rattle.sky_units.specs.Arcs.{IsArc}
use Rattle.sky_units.specs.Motion.{AxisAdmits}
use Rattle.refusal_cert.specs.Certificates.{AdmitsAt}
use Rattle.refusal_cert.proofs.Places.{arc_at, three_at}
use Rattle.refusal_cert.proofs.Searching.{all_passed, first_found, last_admitted, last_refused, none_passed, one_passed}
use Rattle.refusal_cert.proofs.Suffices.{three_places}
use Rattle.refusal_cert.proofs.threes.first_one_after.Goals as goal

pub loop-k-init : goal.loop-k-init
loop-k-init c = none_passed (λ rest. AdmitsAt c.args.axis c.args.settings.now c.args.spots.now (c.args.i ∷ c.args.j ∷ rest)) (c.args.j + 1) (length c.args.spots.now) 0

pub admits_three-requires : goal.admits_three-requires
admits_three-requires c =
    let ij = c.requires.rising in
    let jk : c.args.j < c.loop-k.k = omega arith in
    let kn = c.loop-k-test.true in
    let at = three_at c.args.spots.now c.args.i c.args.j c.loop-k.k c.index-spots-i.result c.index-spots-j.result c.index-spots-k.result (omega arith) (omega arith) kn c.index-spots-i.is c.index-spots-j.is c.index-spots-k.is in
    subst IsArc at (arc_at c.args.spots.now 0 (c.args.i ∷ c.args.j ∷ c.loop-k.k ∷ []) c.index-spots-i.result c.requires.arc (three_places (length c.args.spots.now) c.args.i c.args.j c.loop-k.k ij jk kn).0)

pub returns-then-not-admits_three : goal.returns-then-not-admits_three
returns-then-not-admits_three c =
    let ij = c.requires.rising in
    let jk : c.args.j < c.loop-k.k = omega arith in
    let kn = c.loop-k-test.true in
    let at = three_at c.args.spots.now c.args.i c.args.j c.loop-k.k c.index-spots-i.result c.index-spots-j.result c.index-spots-k.result (omega arith) (omega arith) kn c.index-spots-i.is c.index-spots-j.is c.index-spots-k.is in
    first_found (λ rest. AdmitsAt c.args.axis c.args.settings.now c.args.spots.now (c.args.i ∷ c.args.j ∷ rest)) (c.args.j + 1) (length c.args.spots.now) 0 c.loop-k.k [] (omega arith) kn c.loop-k.invariant
    (last_refused (λ rest. AdmitsAt c.args.axis c.args.settings.now c.args.spots.now (c.args.i ∷ c.args.j ∷ rest)) (length c.args.spots.now) c.loop-k.k
    (λ w.
    let yes : c.admits_three.result ≡ true = c.admits_three.ensures.1 (subst (AxisAdmits c.args.axis c.args.settings.now) at w) in
    absurd (false≢true (sym c.if-not-admits_three.true ∙ yes))))

pub loop-k-preserved : goal.loop-k-preserved
loop-k-preserved c =
    let ij = c.requires.rising in
    let jk : c.args.j < c.loop-k.k = omega arith in
    let kn = c.loop-k-test.true in
    let at = three_at c.args.spots.now c.args.i c.args.j c.loop-k.k c.index-spots-i.result c.index-spots-j.result c.index-spots-k.result (omega arith) (omega arith) kn c.index-spots-i.is c.index-spots-j.is c.index-spots-k.is in
    one_passed (λ rest. AdmitsAt c.args.axis c.args.settings.now c.args.spots.now (c.args.i ∷ c.args.j ∷ rest)) (c.args.j + 1) (length c.args.spots.now) 0 c.loop-k.k c.loop-k.invariant
    (last_admitted (λ rest. AdmitsAt c.args.axis c.args.settings.now c.args.spots.now (c.args.i ∷ c.args.j ∷ rest)) (length c.args.spots.now) c.loop-k.k
    (subst (AxisAdmits c.args.axis c.args.settings.now) (sym at) (c.admits_three.ensures.0 c.if-not-admits_three.false)))

pub returns : goal.returns
returns c = all_passed (λ rest. AdmitsAt c.args.axis c.args.settings.now c.args.spots.now (c.args.i ∷ c.args.j ∷ rest)) (c.args.j + 1) (length c.args.spots.now) 0 c.loop-k.k (omega arith) c.loop-k.invariant
