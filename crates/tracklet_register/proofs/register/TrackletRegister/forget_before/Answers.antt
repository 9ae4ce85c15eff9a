use Rattle.std.proofs.Common.{List, filter, sym, subst, ap, ◌∙◌, w64}
use Rattle.std.proofs.lemmas.Int.{to_z-of_z}
use Rattle.tracklet_register.proofs.Entries.{cut_gone, cut_kept}
use Rattle.tracklet_register.proofs.Replaced.{cut_register}
use Rattle.tracklet_register.specs.Entries.{isnt_before}
use Rattle.tracklet_register.specs.Registers.{IsRegister, RegisterData, numbers_of}
use Rattle.tracklet_register.specs.declared.nights.NightNumbers.{NightNumbers}
use Rattle.tracklet_register.proofs.register.TrackletRegister.forget_before.Goals as goal

pub invariant_of-self : goal.invariant_of-self
invariant_of-self c = subst (λ (nights : List NightNumbers). IsRegister nights c.self.inside.table.items c.self.inside.taken.items) (sym c.forget_before.ensures) (cut_register c.self.inside.nights.items c.self.inside.table.items c.self.inside.taken.items _ c.self.invariant)

pub returns-clause-gone : goal.returns-clause-gone
returns-clause-gone c =
    let left = c.forget_before.ensures ∙ ap (λ n. filter (isnt_before n) c.self.inside.nights.items) (to_z-of_z w64 c.args.first c.ranges.first) in
    λ night l. ap (λ (nights : List NightNumbers). numbers_of nights night) left ∙ cut_gone c.self.inside.nights.items c.args.first night l

pub returns-clause-kept : goal.returns-clause-kept
returns-clause-kept c =
    let left = c.forget_before.ensures ∙ ap (λ n. filter (isnt_before n) c.self.inside.nights.items) (to_z-of_z w64 c.args.first c.ranges.first) in
    λ night l. ap (λ (nights : List NightNumbers). numbers_of nights night) left ∙ (cut_kept c.self.inside.nights.items c.args.first night l ∙ ap (λ (r : RegisterData). numbers_of r.nights night) c.self.view_is)
