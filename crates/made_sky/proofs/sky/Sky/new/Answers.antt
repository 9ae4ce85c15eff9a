use Rattle.std.proofs.Common.{◌∙◌}
use Rattle.made_sky.proofs.Drawing.{state_more}
use Rattle.made_sky.proofs.Holding.{held_more}
use Rattle.made_sky.proofs.sky.Sky.new.Goals as goal

pub loop-preserved : goal.loop-preserved
loop-preserved c = (
  c.drawn.ensures.draws ∙ state_more c.args.number c.loop.counter c.loop.draws c.loop.invariant.0,
  c.in_ok-push.ensures.items
      ∙ held_more c.loop.motions.items c.args.number c.loop.counter c.loop.draws c.drawn.result c.loop.invariant.0 c.drawn.ensures.motion c.loop.invariant.1,
)
