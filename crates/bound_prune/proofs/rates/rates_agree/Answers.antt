use Rattle.std.proofs.Common.{◌≡◌, ◌↔◌, IsTrue, to_z, of_z, w64, arith}
use Rattle.std.proofs.lemmas.Int.{ints}
use Rattle.bound_prune.specs.BoxEnds.{DifferLittle, rates_in}
use Rattle.bound_prune.proofs.Travels.{agree}
use Rattle.bound_prune.proofs.rates.rates_agree.Goals as goal

pub returns : goal.returns
returns c =
    let r = c.requires.range in
    let from = r.from in
    let upto = r.to in
    let long : to_z w64 (of_z w64 c.args.longest) ≡ c.args.longest = omega (arith, ints, from, upto) in
    let told : IsTrue c.differ_little.result ↔ DifferLittle c.args.axis c.args.settings.now (rates_in c.args.axis c.args.a.now) (rates_in c.args.axis c.args.b.now) c.args.longest = rw (long, c.rates_on.ensures, c.rates_on-2.ensures) at c.differ_little.ensures in
    let same = agree c.args.axis c.args.settings.now c.args.a.now c.args.b.now c.args.longest c.requires.value in
    (λ t. same.0 (told.0 t), λ h. told.1 (same.1 h))
