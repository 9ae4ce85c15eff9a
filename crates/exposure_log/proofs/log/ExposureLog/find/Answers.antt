use Rattle.std.proofs.Common.{◌∙◌, sym}
use Rattle.exposure_log.proofs.HeldList.{held_is}
use Rattle.exposure_log.specs.Nights.{listed_of}
use Rattle.exposure_log.proofs.log.ExposureLog.find.Goals as goal

pub returns-clause-none : goal.returns-clause-none
returns-clause-none c = rw (← c.self.view_is) (λ e n d held. c.find.ensures.none e n d (sym (held_is c.self.inside.register (listed_of c.self.inside.nights) c.self.invariant.1 n) ∙ held))

pub returns-clause-some : goal.returns-clause-some
returns-clause-some c = rw (← c.self.view_is) (λ n e.
    let found = c.find.ensures.some n e in
    (found.0, held_is c.self.inside.register (listed_of c.self.inside.nights) c.self.invariant.1 n ∙ found.1, found.2))
