use Rattle.std.proofs.Common.{◌≡◌, ◌-◌, ◌∙◌, sym, ap, arith, length, get_or, to_z, of_z, w64, refl, rules}
use Rattle.std.proofs.lemmas.Int.{ints}
use Rattle.miti_text.specs.Observation.{Observation}
use Rattle.exposure_log.proofs.exposures.exposure_of.Goals as goal

pub invariant_of-result : goal.invariant_of-result
invariant_of-result c =
    let fits : to_z w64 (of_z w64 c.last.inside.epoch) ≡ c.last.inside.epoch = omega (arith, ints, c.last.invariant.epoch.from, c.last.invariant.epoch.to) in
    let epoch : to_z w64 (of_z w64 c.last.inside.epoch) ≡ c.index-last.result.now.epoch = fits ∙ ap (λ (x : Observation). x.epoch) c.last.view_is in
    let site : c.in_ok-site.site ≡ c.index-last.result.now.site = c.in_ok-site.ensures ∙ (c.bytes.ensures ∙ ap (λ (x : Observation). x.site) c.last.view_is) in
    let at_end : get_or c.args.detections.items (length c.args.detections.items - 1) c.index-last.result.now ≡ c.index-last.result.now = search rules in
    record {
      some = omega (arith, c.requires.some, c.args.detections.ok.0);
      few = omega (arith, c.requires.few, c.args.detections.ok.0);
      epoch_in_range = rw fits c.last.invariant.epoch;
      one_epoch = λ k d h. (c.requires.one_exposure c.index-last.result.now k d h).0 ∙ (ap (λ (x : Observation). x.epoch) at_end ∙ sym epoch);
      one_site = λ k d h. (c.requires.one_exposure c.index-last.result.now k d h).1 ∙ (ap (λ (x : Observation). x.site) at_end ∙ sym site);
      by_id = c.requires.order;
    }

pub returns : goal.returns
returns c = (refl, invariant_of-result c)
