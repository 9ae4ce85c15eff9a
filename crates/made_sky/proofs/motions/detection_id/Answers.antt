use Rattle.std.proofs.Common.{◌≡◌, ◌∙◌, subst, IsTrue, IfOk, sym}
use Rattle.miti_text.specs.Observation.{is_id}
use Rattle.made_sky.specs.Motions.{id_of}
use Rattle.made_sky.proofs.Naming.{id_is, id_written, if_ok_is}
use Rattle.made_sky.proofs.motions.detection_id.Goals as goal

pub returns-clause-value : goal.returns-clause-value
returns-clause-value c =
    let text : c.as_bytes.result.now ≡ id_of c.args.night c.args.exposure c.args.object = c.as_bytes.ensures.value ∙ c.in_ok-text.ensures.ok ∙ id_written c.args.night c.args.exposure c.args.object in
    subst (λ z. IfOk c.new.result (λ id. id ≡ z)) text c.new.ensures

pub returns-clause-rule : goal.returns-clause-rule
returns-clause-rule c =
    let text : c.as_bytes.result.now ≡ id_of c.args.night c.args.exposure c.args.object = c.as_bytes.ensures.value ∙ c.in_ok-text.ensures.ok ∙ id_written c.args.night c.args.exposure c.args.object in
    let keeps = id_is c.args.night c.args.exposure c.args.object c.ranges.night.fits c.ranges.exposure.fits c.ranges.object.fits in
    if_ok_is (λ id. IsTrue (is_id id)) c.new.result _ (subst (λ id. IsTrue (is_id id)) (sym text) keeps) c.new.ensures
