use Rattle.std.proofs.Common.{◌≡◌, ap, ◌∙◌}
use Rattle.made_sky.specs.Draws.{drawn, share, after_draws}
use Rattle.made_sky.proofs.Drawing.{motion_is}
use Rattle.made_sky.proofs.motions.Motion.drawn.Goals as goal

pub returns-clause-motion : goal.returns-clause-motion
returns-clause-motion c =
    let x = c.args.draws.now in
    let one : c.draw.new.self ≡ after_draws 1 x = c.draw.ensures.state in
    let two : c.draw-2.new.self ≡ after_draws 2 x = c.draw-2.ensures.state ∙ ap drawn one in
    let three : c.draw-3.new.self ≡ after_draws 3 x = c.draw-3.ensures.state ∙ ap drawn two in
    let four : c.draw-4.new.self ≡ after_draws 4 x = c.draw-4.ensures.state ∙ ap drawn three in
    let five : c.draw-5.new.self ≡ after_draws 5 x = c.draw-5.ensures.state ∙ ap drawn four in
    let six : c.draw-6.new.self ≡ after_draws 6 x = c.draw-6.ensures.state ∙ ap drawn five in
    motion_is x c.draw.result c.draw-2.result c.draw-3.result c.draw-4.result c.draw-5.result c.draw-6.result (c.draw.ensures.drawn ∙ ap (share 10000000) one)
    (c.draw-2.ensures.drawn ∙ ap (share 10000000) two) (c.draw-3.ensures.drawn ∙ ap (share 600001) three) (c.draw-4.ensures.drawn ∙ ap (share 200001) four)
    (c.draw-5.ensures.drawn ∙ ap (share 20001) five) (c.draw-6.ensures.drawn ∙ ap (share 20001) six)
    c.draw.ensures.below c.draw-2.ensures.below c.draw-3.ensures.below c.draw-4.ensures.below c.draw-5.ensures.below c.draw-6.ensures.below
