use Rattle.std.proofs.Common.{◌≡◌, ◌∙◌, subst, IsTrue, sym}
use Rattle.miti_text.specs.Observation.{is_name}
use Rattle.made_sky.specs.Motions.{name_of}
use Rattle.made_sky.proofs.Naming.{name_is, if_ok_is}
use Rattle.made_sky.proofs.motions.object_name.Goals as goal

pub returns-clause-rule : goal.returns-clause-rule
returns-clause-rule c =
    let text : c.as_bytes.result.now ≡ name_of c.args.object = c.as_bytes.ensures.value ∙ c.in_ok-text.ensures.ok in
    if_ok_is (λ name. IsTrue (is_name name)) c.new.result _ (subst (λ name. IsTrue (is_name name)) (sym text) (name_is c.args.object c.ranges.object.fits)) c.new.ensures
