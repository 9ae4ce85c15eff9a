use Rattle.std.proofs.Common.{◌∙◌, ap}
use Rattle.std.specs.Prelude.{Err}
use Rattle.mops_run.proofs.TextByLines.{WroteSome-of_sky, WroteSome-line, Writes-failed, with_next}
use Rattle.mops_run.proofs.generating.write_lines.Goals as goal

pub loop-sighting-init : goal.loop-sighting-init
loop-sighting-init g c = (
  c.sightings-sightings.ensures.nights,
  c.sightings-sightings.ensures.objects,
  WroteSome-of_sky _ c.args.sky.now _ c.sightings-sightings.ensures.left,
)

pub loop-sighting-preserved : goal.loop-sighting-preserved
loop-sighting-preserved g c = (
  c.in-Some.ensures.nights ∙ c.loop-sighting.invariant.0,
  c.in-Some.ensures.objects ∙ c.loop-sighting.invariant.1,
  WroteSome-line _ _ _ _ _ _ (with_next _ _ _ c.args.sky.now _ _ c.in-Some.sighting c.in-Some.ensures.left c.loop-sighting.invariant.2) c.in-Ok.ensures.ok,
)

pub returns-in-Err-WriteFault : goal.returns-in-Err-WriteFault
returns-in-Err-WriteFault g c =
    Writes-failed _ _ _ _ _ _ (with_next _ _ _ c.args.sky.now _ _ c.in-Some.sighting c.in-Some.ensures.left c.loop-sighting.invariant.2)
    (c.write_sighting.ensures.fault (c.in-Err-WriteFault.is ∙ ap (λ e. Err e) c.in-Err-WriteFault.field-0-is))
