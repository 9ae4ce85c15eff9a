use Rattle.std.proofs.Common.{◌≡◌, length, ap, rules, arith}
use Rattle.std.proofs.lemmas.Result.{IfOk-weaker}
use Rattle.kept_tracks.proofs.SetChanges.{grown_of, none_came}
use Rattle.kept_tracks.proofs.changing.grown_around.Goals as goal

pub returns-then-is_empty-clause-grown : goal.returns-then-is_empty-clause-grown
returns-then-is_empty-clause-grown c =
    let none : length c.args.came.now ≡ 0 = search rules in
    rw c.new.ensures.items (none_came _ c.args.came.now none)

pub returns-then-is_empty-clause-tests : goal.returns-then-is_empty-clause-tests
returns-then-is_empty-clause-tests c = λ numbers triples sets has every each. omega arith

pub returns-clause-grown : goal.returns-clause-grown
returns-clause-grown c = IfOk-weaker c.grow_numbered.result _ _ (λ sets g. grown_of _ _ _ _ g) c.grow_numbered.ensures.sets

pub returns-clause-calm : goal.returns-clause-calm
returns-clause-calm c = λ none.
    let some : length c.args.came.now ≡ 0 → ⊥ = search rules in
    absurd (some (ap length none))
