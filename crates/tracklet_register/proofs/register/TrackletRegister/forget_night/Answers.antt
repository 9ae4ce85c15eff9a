use Rattle.std.proofs.Common.{◌≡◌, List, filter, sym, subst, ap, ◌∙◌, w64}
use Rattle.std.proofs.lemmas.Int.{to_z-of_z}
use Rattle.tracklet_register.proofs.Entries.{left_gone, left_kept}
use Rattle.tracklet_register.proofs.Replaced.{left_register}
use Rattle.tracklet_register.specs.Entries.{isnt_of}
use Rattle.tracklet_register.specs.Registers.{IsRegister, RegisterData, numbers_of}
use Rattle.tracklet_register.specs.declared.nights.NightNumbers.{NightNumbers}
use Rattle.tracklet_register.proofs.register.TrackletRegister.forget_night.Goals as goal

pub invariant_of-self : goal.invariant_of-self
invariant_of-self c = subst (λ (nights : List NightNumbers). IsRegister nights c.self.inside.table.items c.self.inside.taken.items) (sym c.forget_night.ensures) (left_register c.self.inside.nights.items c.self.inside.table.items c.self.inside.taken.items _ c.self.invariant)

pub returns-clause-gone : goal.returns-clause-gone
returns-clause-gone c =
    let left = c.forget_night.ensures ∙ ap (λ n. filter (isnt_of n) c.self.inside.nights.items) (to_z-of_z w64 c.args.night c.ranges.night) in
    ap (λ (nights : List NightNumbers). numbers_of nights c.args.night) left ∙ left_gone c.self.inside.nights.items c.args.night

pub returns-clause-kept : goal.returns-clause-kept
returns-clause-kept c =
    let left = c.forget_night.ensures ∙ ap (λ n. filter (isnt_of n) c.self.inside.nights.items) (to_z-of_z w64 c.args.night c.ranges.night) in
    λ other differ. ap (λ (nights : List NightNumbers). numbers_of nights other) left ∙ (left_kept c.self.inside.nights.items c.args.night other differ ∙ ap (λ (r : RegisterData). numbers_of r.nights other) c.self.view_is)
