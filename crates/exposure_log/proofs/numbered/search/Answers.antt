use Rattle.std.proofs.Common.{rules, of_calls}
use Rattle.std.proofs.lemmas.Fn.{always_returns_same}
use Rattle.exposure_log.specs.Numbered.{numbered_cmp}
use Rattle.exposure_log.proofs.Order.{found_at, missing_at, searchable}
use Rattle.exposure_log.proofs.numbered.search.Goals as goal

pub returns-clause-found : goal.returns-clause-found
returns-clause-found c =
    found_at (numbered_cmp c.args.epoch c.args.site.now) c.args.listed.now c.binary_search_by.result c.binary_search_by.ensures.bound
    (c.binary_search_by.ensures.position (numbered_cmp c.args.epoch c.args.site.now) (always_returns_same _ _ _ (λ a r f k. search (rules, of_calls))))

pub returns-clause-missing : goal.returns-clause-missing
returns-clause-missing c =
    missing_at (numbered_cmp c.args.epoch c.args.site.now) c.args.listed.now c.binary_search_by.result c.binary_search_by.ensures.bound
    (c.binary_search_by.ensures.position (numbered_cmp c.args.epoch c.args.site.now) (always_returns_same _ _ _ (λ a r f k. search (rules, of_calls))))
    (searchable c.args.listed.now c.args.epoch c.args.site.now c.requires)
