use Rattle.std.proofs.Common.{◌≡◌, ◌^◌, ℕ, List, rules, subst, ◌∙◌, sym}
use Rattle.std.specs.Prelude.{IfOk}
use Rattle.sky_units.specs.Pairs.{are_pair}
use Rattle.box_tree.specs.Joins.{pairs_that}
use Rattle.pair_finder.proofs.Found.{are_the_pairs, places_are_small}
use Rattle.pair_finder.proofs.NonePaired.{none_paired}
use Rattle.pair_finder.proofs.pairs.Goals as goal

pub returns-then-are_of_one_epoch : goal.returns-then-are_of_one_epoch
returns-then-are_of_one_epoch c = c.new.ensures.items ∙ sym (none_paired c.args.settings.now c.args.spots.now (c.are_of_one_epoch.ensures c.if-are_of_one_epoch.true))

pub narrowed-requires : goal.narrowed-requires
narrowed-requires c =
    let found : c.as_slice.result.now ≡ pairs_that (are_pair c.args.settings.now) c.args.spots.now c.args.spots.now = search rules in
    rw found (places_are_small (are_pair c.args.settings.now) c.args.spots.now (2 ^ 32) c.requires.few)

pub returns : goal.returns
returns c =
    let found : c.as_slice.result.now ≡ pairs_that (are_pair c.args.settings.now) c.args.spots.now c.args.spots.now = search rules in
    subst (λ (pairs : List (ℕ × ℕ)). IfOk c.narrowed.result (λ narrow. narrow.items ≡ pairs)) (found ∙ are_the_pairs c.args.settings.now c.args.spots.now) c.narrowed.ensures
