use Rattle.std.proofs.Common.{length, subst}
use Rattle.sky_units.specs.SettingsData.{SettingsData}
use Rattle.box_tree.specs.Counts.{Rises}
use Rattle.multi_tree.specs.Triples.{allowed_triples}
use Rattle.multi_tree.proofs.Listing.{fitting_joined, where_ok}
use Rattle.multi_tree.proofs.seeding.seeds.Goals as goal

pub returns-clause-triples : goal.returns-clause-triples
returns-clause-triples c =
    where_ok _ _ c.join_three.result
    (λ found is. fitting_joined c.args.settings.now c.new-prune.result c.args.a.now c.args.b.now c.args.c.now found.items c.new-prune.ensures is) c.join_three.ensures.triples

pub returns-clause-tests : goal.returns-clause-tests
returns-clause-tests c =
    subst (λ (settings : SettingsData). Rises (length (allowed_triples settings c.args.a.now c.args.b.now c.args.c.now)) c.args.tally.now.tests c.join_three.new.tally.tests) c.new-prune.ensures c.join_three.ensures.tests
