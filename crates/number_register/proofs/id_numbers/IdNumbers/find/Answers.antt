use Rattle.std.proofs.Common.{◌≡◌, ℕ, Some, None, sym, ap, ◌∙◌}
use Rattle.number_register.specs.Numbering.{slot}
use Rattle.number_register.specs.IdNumbers.{id_hash, under_hash, under_id}
use Rattle.number_register.proofs.Ids.{none_found}
use Rattle.number_register.proofs.id_numbers.IdNumbers.find.Goals as goal
use Rattle.number_register.proofs.id_numbers.IdNumbers.find.Goals.{in-Some+else-is_id_of, in_default}

same_number : (n k : ℕ) → Some n ≡ Some k → n ≡ k
same_number n k h = cc

pub returns-clause-none : goal.returns-clause-none
returns-clause-none c = λ e.
    let under : under_hash c.args.self.now.by_hash.entries (id_hash c.args.id.now) ≡ c.number_by_hash.result = sym c.number_by_hash.ensures in
    let none : under_id c.args.self.now.by_id.entries c.args.id.now ≡ None = sym c.number_under.ensures ∙ e in
    none_found c.args.slots.now c.args.self.now.by_hash.entries c.args.self.now.by_id.entries c.args.id.now c.requires
    (elim c.match-number_by_hash.branch [
      | in-Some+else-is_id_of w ↦ λ k d h held. w.is_id_of.ensures.no w.if-is_id_of.false d (ap (slot c.args.slots.now) (same_number w.in-Some.number k (sym w.in-Some.is ∙ (sym under ∙ h))) ∙ held)
      | in_default w ↦ λ k d h held. absurd (w.in_default.not-Some k (sym under ∙ h))
    ]) none
