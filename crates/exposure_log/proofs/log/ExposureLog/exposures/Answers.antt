use Rattle.std.proofs.Common.{arith}
use Rattle.exposure_log.specs.Nights.{listed_of}
use Rattle.exposure_log.proofs.HeldList.{few_listed}
use Rattle.exposure_log.proofs.log.ExposureLog.exposures.Goals as goal

pub len-requires : goal.len-requires
len-requires c =
    let few = few_listed c.self.inside.register (listed_of c.self.inside.nights) c.self.invariant.1.each in
    omega (arith, few, c.self.invariant.1.count, c.self.invariant.1.few)

pub overflow_cast-result : goal.overflow_cast-result
overflow_cast-result c =
    let few = few_listed c.self.inside.register (listed_of c.self.inside.nights) c.self.invariant.1.each in
    omega (arith, few, c.self.invariant.1.count, c.self.invariant.1.few, c.len.ensures)
