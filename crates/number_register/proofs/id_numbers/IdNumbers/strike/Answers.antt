use Rattle.std.proofs.Common.{◌≡◌, ◌≢◌, Some, None, inl, inr, refl}
use Rattle.number_register.specs.IdNumbers.{under_hash}
use Rattle.number_register.proofs.Ids.{hash_changed, id_changed}
use Rattle.number_register.proofs.id_numbers.IdNumbers.strike.Goals as goal

pub returns-then-stands_under : goal.returns-then-stands_under
returns-then-stands_under c =
    let stood : under_hash c.args.self.now.by_hash.entries c.hash_of-hash.result ≡ Some c.args.number = c.if-stands_under.ensures in
    let says = hash_changed c.args.self.now.by_hash c.swap_remove.new.self c.hash_of-hash.result None c.swap_remove.ensures.updates in
    inl (rw c.hash_of-hash.ensures at stood, rw c.hash_of-hash.ensures at says, refl)

pub returns-else-stands_under : goal.returns-else-stands_under
returns-else-stands_under c =
    let not_there : under_hash c.args.self.now.by_hash.entries c.hash_of-hash.result ≢ Some c.args.number = c.if-stands_under.ensures in
    let says = id_changed c.args.self.now.by_id c.swap_remove-else-stands_under.new.self c.args.id.now None c.swap_remove-else-stands_under.ensures.updates in
    inr (rw c.hash_of-hash.ensures at not_there, refl, says)
