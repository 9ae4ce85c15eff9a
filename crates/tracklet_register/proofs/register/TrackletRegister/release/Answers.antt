use Rattle.std.proofs.Common.{ℕ, ℤ, sym, subst}
use Rattle.std.specs.List.{Contains}
use Rattle.tracklet_register.proofs.Replaced.{freed, released}
use Rattle.tracklet_register.specs.Registers.{RegisterData, numbers_of}
use Rattle.tracklet_register.proofs.register.TrackletRegister.release.Goals as goal

pub invariant_of-self : goal.invariant_of-self
invariant_of-self c =
    released c.self.inside.nights.items c.self.inside.table.items c.self.inside.taken.items c.mark.new.taken.items c.args.went.now c.self.invariant
    (subst (λ (r : RegisterData). (night : ℤ) (number : ℕ) → Contains c.args.went.now number → ¬ (Contains (numbers_of r.nights night) number)) (sym c.self.view_is) c.requires)
    (λ number d. freed c.self.inside.taken.items c.mark.new.taken.items c.args.went.now number c.mark.ensures.len c.mark.ensures.listed d)
    c.mark.ensures.others

pub returns-clause-went : goal.returns-clause-went
returns-clause-went c = λ number d. freed c.self.inside.taken.items c.mark.new.taken.items c.args.went.now number c.mark.ensures.len c.mark.ensures.listed d
