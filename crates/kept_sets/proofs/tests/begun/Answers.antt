use Rattle.std.proofs.Common.{List, [], Vec, ℕ, Global, map, subst}
use Rattle.kept_sets.specs.Changes.{IsAfter}
use Rattle.kept_sets.proofs.Basics.{no_items}
use Rattle.kept_sets.proofs.Cases.{after_first, ready_first}
use Rattle.kept_sets.proofs.tests.begun.Goals as goal

abbrev items_of : Vec ℕ Global → List ℕ
items_of set = set.items

pub change-requires-clause-ready : goal.change-requires-clause-ready
change-requires-clause-ready c = ready_first c.args.set.now c.new-kept.result (map items_of c.in_ok-sets.sets.items) c.requires.some c.new-kept.ensures (c.in_ok-sets.ensures.one c.requires.some)

pub change-requires-clause-went : goal.change-requires-clause-went
change-requires-clause-went c = no_items

pub change-requires-clause-came : goal.change-requires-clause-came
change-requires-clause-came c = c.requires.rising

pub returns : goal.returns
returns c = λ other d.
    after_first c.args.set.now other (map items_of c.in_ok-sets.sets.items) (c.in_ok-sets.ensures.one c.requires.some)
    (subst (λ l. IsAfter [] c.args.set.now l (map items_of c.in_ok-sets.sets.items) other) c.new-kept.ensures ((c.in_ok-change.ensures.changed other).0 d))
