use Rattle.set_grow.specs.SkyData.{FitsWithParts}
use Rattle.set_grow.proofs.Pairing.{last_first, second_first}
use Rattle.set_grow.proofs.partners.fit_around.Goals as goal

pub returns-then-item-second-clause-fits : goal.returns-then-item-second-clause-fits
returns-then-item-second-clause-fits c =
    let same = second_first (FitsWithParts c.args.sky.now) c.args.first.now.number c.args.item.now.number c.args.second.now.number in
    let says = c.three_fit-then-item-second.ensures.fits in
    (λ t. same.0 (says.0 t), λ f. says.1 (same.1 f))

pub returns-clause-fits : goal.returns-clause-fits
returns-clause-fits c =
    let same = last_first (FitsWithParts c.args.sky.now) c.args.first.now.number c.args.second.now.number c.args.item.now.number in
    let says = c.three_fit-2.ensures.fits in
    (λ t. same.0 (says.0 t), λ f. says.1 (same.1 f))
