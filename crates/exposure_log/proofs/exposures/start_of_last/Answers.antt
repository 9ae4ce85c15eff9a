use Rattle.std.proofs.Common.{rules}
use Rattle.exposure_log.specs.Gathered.{IsOfOneExposure}
use Rattle.exposure_log.proofs.Cutting.{all_of_one}
use Rattle.exposure_log.proofs.exposures.start_of_last.Goals as goal

pub returns-then-are_of_one_exposure-clause-last : goal.returns-then-are_of_one_exposure-clause-last
returns-then-are_of_one_exposure-clause-last c =
    let one : IsOfOneExposure c.index-list-0.result c.index-list-list.result = search rules in
    all_of_one c.args.list.now c.index-list-0.result c.index-list-list.result c.requires.order c.index-list-0.is c.index-list-list.is one
