use Rattle.std.proofs.Common.{◌≡◌, ◌<◌, ap, ◌∙◌, sym, IfOk, subst, length, rules}
use Rattle.made_sky.specs.MadeSky.{MadeSky}
use Rattle.made_sky.specs.Motions.{IsMotion, motion_of, sighted, state_before}
use Rattle.made_sky.specs.declared.motions.Motion.{Motion}
use Rattle.made_sky.proofs.Drawing.{motion_holds}
use Rattle.made_sky.proofs.Holding.{held_one, held_is}
use Rattle.made_sky.proofs.sky.Sky.detection.Goals as goal

pub index-requires : goal.index-requires
index-requires c =
    let object : c.args.object < c.self.inside.objects = rw (ap (λ (s : MadeSky). s.objects) c.self.view_is) c.requires.object in
    let within : c.args.object < length c.self.inside.motions.items = held_one c.self.inside.motions.items c.self.inside.number c.self.inside.objects c.args.object c.self.invariant.0 object in
    search rules

pub sighted-requires-clause-motion : goal.sighted-requires-clause-motion
sighted-requires-clause-motion c =
    let object : c.args.object < c.self.inside.objects = rw (ap (λ (s : MadeSky). s.objects) c.self.view_is) c.requires.object in
    let is = c.index.ensures ∙ held_is c.self.inside.motions.items c.self.inside.number c.self.inside.objects c.args.object c.index.result.now c.self.invariant.0 object in
    subst IsMotion (sym is) (motion_holds (state_before c.self.inside.number c.args.object))

pub returns : goal.returns
returns c =
    let object : c.args.object < c.self.inside.objects = rw (ap (λ (s : MadeSky). s.objects) c.self.view_is) c.requires.object in
    let is = c.index.ensures ∙ held_is c.self.inside.motions.items c.self.inside.number c.self.inside.objects c.args.object c.index.result.now c.self.invariant.0 object in
    let number : c.self.inside.number ≡ c.args.self.now.number = ap (λ (s : MadeSky). s.number) c.self.view_is in
    let motion : c.index.result.now ≡ motion_of c.args.self.now.number c.args.object = is ∙ ap (λ n. motion_of n c.args.object) number in
    subst (λ (m : Motion). IfOk c.sighted.result (λ detection. detection ≡ sighted m c.args.night c.args.exposure c.args.object)) motion c.sighted.ensures
