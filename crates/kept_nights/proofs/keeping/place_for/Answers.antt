use Rattle.std.proofs.Common.{rules, of_calls}
use Rattle.std.specs.Ordering.{int_cmp}
use Rattle.std.proofs.lemmas.Fn.{always_returns_same}
use Rattle.night_tree.specs.Nights.{NightData}
use Rattle.kept_nights.proofs.WithNight.{found_at, missing_at}
use Rattle.kept_nights.proofs.keeping.place_for.Goals as goal

pub returns-clause-found : goal.returns-clause-found
returns-clause-found c =
    found_at c.args.night.now.number c.args.nights.now c.binary_search_by.result c.binary_search_by.ensures.bound
    (c.binary_search_by.ensures.position (λ (night : NightData). int_cmp night.number c.args.night.now.number) (always_returns_same _ _ _ (λ a r f k. search (rules, of_calls))))

pub returns-clause-missing : goal.returns-clause-missing
returns-clause-missing c =
    missing_at c.args.night.now.number c.args.nights.now c.binary_search_by.result c.requires c.binary_search_by.ensures.bound
    (c.binary_search_by.ensures.position (λ (night : NightData). int_cmp night.number c.args.night.now.number) (always_returns_same _ _ _ (λ a r f k. search (rules, of_calls))))
