use Rattle.std.proofs.Common.{◌≡◌, ◌<◌, length, sym, ◌∙◌, rules}
use Rattle.std.proofs.lemmas.Bool.Decides.{Decides-int_eq}
use Rattle.exposure_log.proofs.OneEpoch.{by_ends, ends_agree}
use Rattle.exposure_log.proofs.numbered.are_of_one_epoch.Goals as goal

pub returns : goal.returns
returns c =
    let some : 0 < length c.args.listed.now = search rules in
    let decides = Decides-int_eq c.index-listed-0.result.epoch c.index-listed-listed.result.epoch in (
      λ h. by_ends c.args.listed.now c.index-listed-0.result c.index-listed-listed.result c.requires some c.index-listed-0.is c.index-listed-listed.is (decides.0 (sym c.is_of_epoch_of.ensures ∙ h)),
      λ same. c.is_of_epoch_of.ensures ∙ decides.1 (ends_agree c.args.listed.now c.index-listed-0.result c.index-listed-listed.result some c.index-listed-0.is c.index-listed-listed.is same),
    )
