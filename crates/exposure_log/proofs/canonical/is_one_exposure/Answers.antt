use Rattle.std.proofs.Common.{◌≡◌, ◌∷◌, ◌∙◌, sym, subst}
use Rattle.std.specs.List.{AllPairs, list_all}
use Rattle.exposure_log.specs.Gathered.{IsOfOneExposure}
use Rattle.exposure_log.proofs.OneExposure.{is_of_one, one_exposure_decides}
use Rattle.exposure_log.proofs.canonical.is_one_exposure.Goals as goal

pub returns-in-Some : goal.returns-in-Some
returns-in-Some c =
    let decides = one_exposure_decides c.in-Some.first.now c.in-Some.rest.now in
    let whole : c.args.list.now ≡ c.in-Some.first.now ∷ c.in-Some.rest.now = c.in-Some.ensures.cases.0 in
    let is : c.are_of_exposure_of.result ≡ list_all (is_of_one c.in-Some.first.now) c.in-Some.rest.now = c.are_of_exposure_of.ensures in
    (λ h. subst (AllPairs IsOfOneExposure) (sym whole) (decides.0 (sym is ∙ h)), λ h. is ∙ decides.1 (subst (AllPairs IsOfOneExposure) whole h))
