use Rattle.std.proofs.Common.{◌≡◌, sym, ◌∙◌, ap, Some, true, arith, to_z, of_z, w64}
use Rattle.std.specs.Option.{is_some}
use Rattle.std.proofs.lemmas.Int.{ints}
use Rattle.exposure_log.specs.Nights.{list_of}
use Rattle.exposure_log.proofs.NightEdits.{same_insert, under_insert, no_list}
use Rattle.exposure_log.proofs.nights.add_night.Goals as goal

pub returns-in_ok-insert-clause-listed : goal.returns-in_ok-insert-clause-listed
returns-in_ok-insert-clause-listed c =
    let missing = no_list (list_of c.args.by_night.now.entries (to_z w64 (of_z w64 c.args.night))) (sym c.if-not-contains_key.true ∙ c.contains_key.ensures) in
    rw c.in_ok-insert.ensures.entries (same_insert (to_z w64 (of_z w64 c.args.night)) c.args.by_night.now.entries c.new.result c.new.ensures.items missing)

pub returns-in_ok-insert-clause-nights : goal.returns-in_ok-insert-clause-nights
returns-in_ok-insert-clause-nights c = λ shift by. record {
  nights_rise = c.in_ok-insert.ensures.ordered;
  under_their_night = rw c.in_ok-insert.ensures.entries (under_insert shift (to_z w64 (of_z w64 c.args.night)) c.args.by_night.now.entries c.new.result by.under_their_night c.new.ensures.items);
}

pub returns-in_ok-insert-clause-there : goal.returns-in_ok-insert-clause-there
returns-in_ok-insert-clause-there c =
    let night : to_z w64 (of_z w64 c.args.night) ≡ c.args.night = omega (arith, ints) in
    let there : list_of c.insert.new.self.entries (to_z w64 (of_z w64 c.args.night)) ≡ Some c.new.result = c.in_ok-insert.ensures.updates.1 in
    ap is_some (rw night at there)

pub returns-else-not-contains_key-clause-there : goal.returns-else-not-contains_key-clause-there
returns-else-not-contains_key-clause-there c =
    let night : to_z w64 (of_z w64 c.args.night) ≡ c.args.night = omega (arith, ints) in
    let there : is_some (list_of c.args.by_night.now.entries (to_z w64 (of_z w64 c.args.night))) ≡ true = sym c.contains_key.ensures ∙ c.if-not-contains_key.false in
    rw night at there
