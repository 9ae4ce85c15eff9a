use Rattle.std.proofs.Common.{sym, subst, ◌∙◌, w64}
use Rattle.std.proofs.lemmas.Int.{to_z-of_z}
use Rattle.std.specs.List.{All}
use Rattle.tracklet_register.proofs.Entries.{none_of, numbers_at}
use Rattle.tracklet_register.specs.Entries.{IsFirstOf, IsOther}
use Rattle.tracklet_register.proofs.nights.numbers_of.Goals as goal

pub returns-in-Some : goal.returns-in-Some
returns-in-Some c =
    let plain = to_z-of_z w64 c.args.number c.ranges.number in
    let first : IsFirstOf c.args.nights.now c.args.number c.in-Some.index = subst (λ n. IsFirstOf c.args.nights.now n c.in-Some.index) plain c.in-Some.ensures in
    c.as_slice.ensures.value ∙ sym (numbers_at c.args.nights.now c.args.number c.in-Some.index c.index-nights-index.result first)

pub returns-in-None : goal.returns-in-None
returns-in-None c =
    let plain = to_z-of_z w64 c.args.number c.ranges.number in
    sym (none_of c.args.nights.now c.args.number (subst (λ n. All (IsOther n) c.args.nights.now) plain c.in-None.ensures))
