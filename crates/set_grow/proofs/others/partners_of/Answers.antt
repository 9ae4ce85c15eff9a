use Rattle.std.proofs.Common.{◌≡◌, length, ap, subst, arith}
use Rattle.set_grow.specs.Nights.{AreInPlace}
use Rattle.set_grow.specs.SkyData.{SkyData}
use Rattle.set_grow.proofs.Partnering.{partners_all}
use Rattle.set_grow.proofs.others.partners_of.Goals as goal

pub returns : goal.returns
returns c =
    let p : AreInPlace c.args.sky.now.nights c.args.sky.now.table = subst (λ (s : SkyData). AreInPlace s.nights s.table) c.sky.view_is c.sky.invariant.0 in
    let nights : length c.sky.inside.nights.now ≡ length c.args.sky.now.nights = ap (λ (s : SkyData). length s.nights) c.sky.view_is in
    let at_most = c.loop-night.auto.night-end in
    let end = c.loop-night-test.false in
    partners_all c.args.sky.now c.args.item.now c.loop-night.night c.loop-night.partners.items p c.requires (omega (arith, at_most, end, nights)) c.loop-night.invariant
