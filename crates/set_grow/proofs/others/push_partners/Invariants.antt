use Rattle.set_grow.specs.Partners.{HoldPartners}
use Rattle.set_grow.proofs.others.push_partners.Given as goal

abbrev pub invariant-loop-place : goal.invariant-loop-place
invariant-loop-place l = HoldPartners l.fn.sky l.fn.item l.fn.night l.place l.partners.items
