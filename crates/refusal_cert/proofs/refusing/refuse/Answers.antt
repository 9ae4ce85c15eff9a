use Rattle.std.proofs.Common.{◌∷◌, [], subst}
use Rattle.sky_units.specs.SettingsData.{AreSettings}
use Rattle.refusal_cert.proofs.Named.{named_four, named_three, nowhere}
use Rattle.refusal_cert.proofs.Searching.{none_told}
use Rattle.refusal_cert.proofs.Suffices.{each_admitted, limits_are, suffice}
use Rattle.refusal_cert.proofs.refusing.refuse.Goals as goal

pub returns-then-axis_admits-clause-certificate : goal.returns-then-axis_admits-clause-certificate
returns-then-axis_admits-clause-certificate c =
    let w = c.axis_admits.ensures.0 c.if-axis_admits.true in
    (each_admitted 3 c.args.axis c.args.settings.now c.args.spots.now c.requires w, each_admitted 4 c.args.axis c.args.settings.now c.args.spots.now c.requires w)

pub returns-in-Some-clause-certificate : goal.returns-in-Some-clause-certificate
returns-in-Some-clause-certificate c =
    let at = c.in-Some.ensures.choice.0 in (
      c.in-Some.i ∷ c.in-Some.j ∷ c.in-Some.k ∷ [],
      c.in-Some.ensures,
      named_three c.args.spots.now c.in-Some.i c.in-Some.j c.in-Some.k c.number_at.result c.number_at-in-Some.result c.number_at-in-Some-2.result at.1 at.2.1 at.2.2.1 (c.number_at.ensures nowhere) (c.number_at-in-Some.ensures nowhere) (c.number_at-in-Some-2.ensures nowhere),
    )

pub returns-in_err-i-clause-none : goal.returns-in_err-i-clause-none
returns-in_err-i-clause-none c =
    let settings : AreSettings c.args.settings.now = subst AreSettings c.settings.view_is c.settings.invariant in
    let threes = none_told _ _ c.first_three.result c.first_three.ensures c.in_default.is in
    (λ e. suffice c.args.axis c.args.settings.now c.args.spots.now (limits_are c.args.axis c.args.settings.now settings) c.requires threes c.in_err-i.ensures, λ w. c.from_residual.ensures)

pub returns-clause-certificate : goal.returns-clause-certificate
returns-clause-certificate c =
    let threes = none_told _ _ c.first_three.result c.first_three.ensures c.in_default.is in
    let at = c.in_ok-i.ensures.choice.0 in (
      threes,
      (
        c.in_ok-i.i ∷ c.in_ok-i.j ∷ c.in_ok-i.k ∷ c.in_ok-i.l ∷ [],
        c.in_ok-i.ensures,
        named_four c.args.spots.now c.in_ok-i.i c.in_ok-i.j c.in_ok-i.k c.in_ok-i.l c.number_at-2.result c.number_at-3.result c.number_at-4.result c.number_at-5.result at.1 at.2.1 at.2.2.1 at.2.2.2.1
            (c.number_at-2.ensures nowhere) (c.number_at-3.ensures nowhere) (c.number_at-4.ensures nowhere) (c.number_at-5.ensures nowhere),
      ),
    )
