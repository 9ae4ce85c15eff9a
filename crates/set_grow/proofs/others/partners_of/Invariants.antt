use Rattle.set_grow.specs.Partners.{HoldPartners}
use Rattle.set_grow.proofs.others.partners_of.Given as goal

abbrev pub invariant-loop-night : goal.invariant-loop-night
invariant-loop-night l = HoldPartners l.fn.sky l.fn.item l.night 0 l.partners.items
