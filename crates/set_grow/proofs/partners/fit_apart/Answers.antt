use Rattle.std.proofs.Common.{◌≡◌, ◌<◌, ◌↔◌, ◌∙◌, IsTrue, ap, refl, sym, subst, arith}
use Rattle.std.proofs.lemmas.Bool.{false≢true}
use Rattle.closed_sets.proofs.Paying.{paid_none, paid_once}
use Rattle.set_grow.specs.Ends.{MayGo}
use Rattle.set_grow.specs.Nights.{AreInPlace}
use Rattle.set_grow.specs.Partners.{IsTestedOf, ordered}
use Rattle.set_grow.specs.SkyData.{SkyData}
use Rattle.set_grow.proofs.Pairing.{apart_of_rising, fit_apart_by, fit_back_by, may_where_fit}
use Rattle.set_grow.proofs.Partnering.{not_beside}
use Rattle.set_grow.proofs.partners.fit_apart.Goals as goal

pub returns-then-not-may_go-clause-fits : goal.returns-then-not-may_go-clause-fits
returns-then-not-may_go-clause-fits c =
    let settings : c.sky.inside.settings.now ≡ c.args.sky.now.settings = ap (λ (s : SkyData). s.settings) c.sky.view_is in
    let says : IsTrue c.may_go.result ↔ MayGo c.args.sky.now.settings c.args.one.now.seat.night c.args.one.now.ends c.args.other.now.seat.night c.args.other.now.ends = rw settings at c.may_go.ensures in
    let p : AreInPlace c.args.sky.now.nights c.args.sky.now.table = subst (λ (s : SkyData). AreInPlace s.nights s.table) c.sky.view_is c.sky.invariant.0 in
    let differ = apart_of_rising c.args.item.now.number c.args.one.now.number c.args.other.now.number c.requires.rising in
    (λ t. absurd (false≢true t), λ f. absurd (false≢true (sym c.if-not-may_go.true ∙ says.1 (may_where_fit c.args.sky.now c.args.item.now.number c.args.one.now c.args.other.now p c.requires.one.is c.requires.other.is differ f))))

pub returns-then-one-other-clause-fits : goal.returns-then-one-other-clause-fits
returns-then-one-other-clause-fits c =
    let less : c.args.one.now.seat.night < c.args.other.now.seat.night = c.if-one-other.true in
    fit_apart_by c.args.sky.now c.args.item.now.number c.args.one.now c.args.other.now c.fit_around.result (λ e. omega (arith, less, e)) c.fit_around.ensures.fits

pub returns-clause-fits : goal.returns-clause-fits
returns-clause-fits c =
    let settings : c.sky.inside.settings.now ≡ c.args.sky.now.settings = ap (λ (s : SkyData). s.settings) c.sky.view_is in
    let says : IsTrue c.may_go.result ↔ MayGo c.args.sky.now.settings c.args.one.now.seat.night c.args.one.now.ends c.args.other.now.seat.night c.args.other.now.ends = rw settings at c.may_go.ensures in
    let may : IsTrue c.may_go.result = c.if-not-may_go.false in
    let apart = not_beside c.args.sky.now.settings c.args.one.now.seat.night c.args.other.now.seat.night c.args.one.now.ends c.args.other.now.ends (says.0 may) in
    fit_back_by c.args.sky.now c.args.item.now.number c.args.one.now c.args.other.now c.fit_around-2.result apart c.fit_around-2.ensures.fits

pub returns-then-not-may_go-clause-paid : goal.returns-then-not-may_go-clause-paid
returns-then-not-may_go-clause-paid c = paid_none (IsTestedOf c.args.sky.now c.args.one.now c.args.other.now) 1 c.args.tally.now.tests c.args.tally.now.tests refl

pub returns-then-one-other-clause-paid : goal.returns-then-one-other-clause-paid
returns-then-one-other-clause-paid c =
    let settings : c.sky.inside.settings.now ≡ c.args.sky.now.settings = ap (λ (s : SkyData). s.settings) c.sky.view_is in
    let says : IsTrue c.may_go.result ↔ MayGo c.args.sky.now.settings c.args.one.now.seat.night c.args.one.now.ends c.args.other.now.seat.night c.args.other.now.ends = rw settings at c.may_go.ensures in
    let may : IsTrue c.may_go.result = c.if-not-may_go.false in
    paid_once (IsTestedOf c.args.sky.now c.args.one.now c.args.other.now) (ordered c.args.one.now.number c.args.other.now.number) 1 1 c.args.tally.now.tests c.fit_around.new.tally.tests (omega arith) (record { may = says.0 may; is = refl }) c.fit_around.ensures.tests

pub returns-clause-paid : goal.returns-clause-paid
returns-clause-paid c =
    let settings : c.sky.inside.settings.now ≡ c.args.sky.now.settings = ap (λ (s : SkyData). s.settings) c.sky.view_is in
    let says : IsTrue c.may_go.result ↔ MayGo c.args.sky.now.settings c.args.one.now.seat.night c.args.one.now.ends c.args.other.now.seat.night c.args.other.now.ends = rw settings at c.may_go.ensures in
    let may : IsTrue c.may_go.result = c.if-not-may_go.false in
    paid_once (IsTestedOf c.args.sky.now c.args.one.now c.args.other.now) (ordered c.args.one.now.number c.args.other.now.number) 1 1 c.args.tally.now.tests c.fit_around-2.new.tally.tests (omega arith) (record { may = says.0 may; is = refl }) c.fit_around-2.ensures.tests
