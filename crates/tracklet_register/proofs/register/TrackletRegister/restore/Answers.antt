use Rattle.std.proofs.Common.{◌≡◌, ℕ, List, sym, subst, ◌∙◌, w64}
use Rattle.std.proofs.lemmas.Int.{to_z-of_z}
use Rattle.std.specs.List.{Contains}
use Rattle.tracklet_register.proofs.Replaced.{freed, returned}
use Rattle.tracklet_register.specs.Registers.{RegisterData, numbers_of}
use Rattle.tracklet_register.specs.Replacing.{CanReturn}
use Rattle.tracklet_register.proofs.register.TrackletRegister.restore.Goals as goal

pub put-requires-clause-within : goal.put-requires-clause-within
put-requires-clause-within c =
    let can : CanReturn (record { nights = c.self.inside.nights.items; taken = c.self.inside.taken.items }) c.args.night c.args.exchange.before.items c.args.exchange.came.items = subst (λ (r : RegisterData). CanReturn r c.args.night c.args.exchange.before.items c.args.exchange.came.items) (sym c.self.view_is) c.requires in
    λ number d. c.self.invariant.within number (can.held number d)

pub put-requires-clause-apart : goal.put-requires-clause-apart
put-requires-clause-apart c =
    let can : CanReturn (record { nights = c.self.inside.nights.items; taken = c.self.inside.taken.items }) c.args.night c.args.exchange.before.items c.args.exchange.came.items = subst (λ (r : RegisterData). CanReturn r c.args.night c.args.exchange.before.items c.args.exchange.came.items) (sym c.self.view_is) c.requires in
    λ other number differ d. can.apart other number (λ e. differ (e ∙ sym (to_z-of_z w64 c.args.night c.ranges.night))) d

pub invariant_of-self : goal.invariant_of-self
invariant_of-self c =
    let plain = to_z-of_z w64 c.args.night c.ranges.night in
    let can : CanReturn (record { nights = c.self.inside.nights.items; taken = c.self.inside.taken.items }) c.args.night c.args.exchange.before.items c.args.exchange.came.items = subst (λ (r : RegisterData). CanReturn r c.args.night c.args.exchange.before.items c.args.exchange.came.items) (sym c.self.view_is) c.requires in
    returned c.self.inside.nights.items c.put.new.nights.items c.self.inside.table.items c.put.new.table.items c.self.inside.taken.items c.mark.new.taken.items c.args.night c.args.exchange.before.items c.args.exchange.came.items c.self.invariant can
    (subst (λ n. numbers_of c.put.new.nights.items n ≡ c.args.exchange.before.items) plain c.put.ensures.here)
    (λ other differ. c.put.ensures.others other (λ e. differ (e ∙ plain)))
    c.put.ensures.leads
    c.put.ensures.len
    (λ number d. freed c.self.inside.taken.items c.mark.new.taken.items c.as_slice.result.now number c.mark.ensures.len c.mark.ensures.listed (subst (λ (list : List ℕ). Contains list number) (sym c.as_slice.ensures.value) d))
    (λ number n. c.mark.ensures.others number (λ d. n (subst (λ (list : List ℕ). Contains list number) c.as_slice.ensures.value d)))
