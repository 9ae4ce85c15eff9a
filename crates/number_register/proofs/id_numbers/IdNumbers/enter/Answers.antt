use Rattle.std.proofs.Common.{◌≡◌, ◌∙◌, sym, refl, rules, Some, inl, inr}
use Rattle.number_register.specs.IdNumbers.{under_hash}
use Rattle.number_register.proofs.Answered.{on_err}
use Rattle.number_register.proofs.Ids.{hash_changed, id_changed, put_back}
use Rattle.number_register.proofs.id_numbers.IdNumbers.enter.Goals as goal

pub returns-in_err-from_slice-in-Some-clause-err : goal.returns-in_err-from_slice-in-Some-clause-err
returns-in_err-from_slice-in-Some-clause-err c =
    let back = put_back c.args.self.now.by_hash c.insert.new.self c.insert-in-Some.new.self c.hash_of-hash.result c.in-Some.other c.args.number c.insert-in-Some.result
    (sym c.in_ok-insert.ensures.old ∙ c.in-Some.is) c.in_ok-insert.ensures.updates c.insert-in-Some.ensures.absent c.insert-in-Some.ensures.updates in
    on_err c.from_residual-in_err-from_slice-in-Some.result _ (back, refl)

pub returns-in_err-insert-in-Some-clause-err : goal.returns-in_err-insert-in-Some-clause-err
returns-in_err-insert-in-Some-clause-err c =
    let back = put_back c.args.self.now.by_hash c.insert.new.self c.insert-in-Some.new.self c.hash_of-hash.result c.in-Some.other c.args.number c.insert-in-Some.result
    (sym c.in_ok-insert.ensures.old ∙ c.in-Some.is) c.in_ok-insert.ensures.updates c.insert-in-Some.ensures.absent c.insert-in-Some.ensures.updates in
    on_err c.from_residual-in_err-insert-in-Some.result _ (back, search rules)

pub returns-in-None-clause-ok : goal.returns-in-None-clause-ok
returns-in-None-clause-ok c =
    let absent = sym c.in_ok-insert.ensures.old ∙ c.in-None.is in
    let says = hash_changed c.args.self.now.by_hash c.insert.new.self c.hash_of-hash.result (Some c.args.number) c.in_ok-insert.ensures.updates in
    inl (rw c.hash_of-hash.ensures at absent, rw c.hash_of-hash.ensures at says, refl)

pub returns-in_ok-insert-in-Some-clause-ok : goal.returns-in_ok-insert-in-Some-clause-ok
returns-in_ok-insert-in-Some-clause-ok c =
    let stood : under_hash c.args.self.now.by_hash.entries c.hash_of-hash.result ≡ Some c.in-Some.other = sym c.in_ok-insert.ensures.old ∙ c.in-Some.is in
    let back = put_back c.args.self.now.by_hash c.insert.new.self c.insert-in-Some.new.self c.hash_of-hash.result c.in-Some.other c.args.number c.insert-in-Some.result
    stood c.in_ok-insert.ensures.updates c.insert-in-Some.ensures.absent c.insert-in-Some.ensures.updates in
    let says = id_changed c.args.self.now.by_id c.insert-in-Some-2.new.self c.in_ok-from_slice-in-Some.field-0.items (Some c.args.number) c.in_ok-insert-in-Some.ensures.updates in
    inr (c.in-Some.other, rw c.hash_of-hash.ensures at stood, back, rw c.in_ok-from_slice-in-Some.ensures.items at says)
