use Rattle.std.proofs.Common.{◌<◌, length, refl, rules}
use Rattle.std.proofs.lemmas.Bool.{false≢true}
use mathlib.Core.Logic.{inr}
use Rattle.kept_sets.proofs.tests.are_ready.Goals as goal

pub returns : goal.returns
returns c = λ t.
    let some : 0 < length c.args.set.now = search rules in
    (c.if-not-is_rising.ensures refl, c.if-not-is_rising-2.ensures refl, c.if-not-is_rising-3.ensures refl, some, λ h. false≢true (c.if-holds_one.ensures.1 h), inr (c.holds_one-3.ensures.0 t, λ h. false≢true (c.if-holds_one-2.ensures.1 h)))
