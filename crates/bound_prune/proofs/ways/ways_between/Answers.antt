use Rattle.bound_prune.specs.BoxEnds.{rates_in}
use Rattle.bound_prune.specs.Times.{IsTravel}
use Rattle.bound_prune.proofs.LedAs.{same_led}
use Rattle.bound_prune.proofs.Travels.{ahead_is, back_is}
use Rattle.bound_prune.proofs.ways.ways_between.Goals as goal

pub returns : goal.returns
returns c =
    let axis = c.args.axis in
    let settings = c.args.settings.now in
    let a = c.args.a.now in
    let b = c.args.b.now in
    let travel : IsTravel axis settings (rates_in axis a) (rates_in axis b) c.args.times.now c.farthest_ways.result = rw (c.rates_on-from.ensures, c.rates_on-to.ensures) at c.farthest_ways.ensures in
    record {
      ahead = same_led _ _ (ahead_is axis settings a b c.args.times.now c.farthest_ways.result c.requires travel);
      back = same_led _ _ (back_is axis settings a b c.args.times.now c.farthest_ways.result c.requires travel);
    }
