use Rattle.std.proofs.Common.{◌+◌, ◌*◌, length}
use Rattle.closed_sets.specs.Around.{IsFittingWith}
use Rattle.closed_sets.proofs.Paying.{bound_with}
use Rattle.closed_sets.proofs.among.closed_sets_among.Goals as goal

pub returns-in_err-found-clause-tests : goal.returns-in_err-found-clause-tests
returns-in_err-found-clause-tests g c = λ all each.
    bound_with (IsFittingWith (g.F.Family.Fits c.args.family.now) c.args.item c.args.done.now) (length c.args.partners.now) ((length c.args.partners.now + 1) * (length c.args.partners.now + 2)) _ _ all c.in_err-found.ensures.paid each

pub returns-clause-sets : goal.returns-clause-sets
returns-clause-sets g c = record {
  in_order = c.in_order.ensures.in_order;
  exactly = λ set. (
    λ d. (c.in_ok-found.ensures.sets set).0 ((c.in_order.ensures.exactly set).0 d),
    λ w. (c.in_order.ensures.exactly set).1 ((c.in_ok-found.ensures.sets set).1 w),
  );
}

pub returns-clause-tests : goal.returns-clause-tests
returns-clause-tests g c = λ all each.
    bound_with (IsFittingWith (g.F.Family.Fits c.args.family.now) c.args.item c.args.done.now) (length c.args.partners.now) ((length c.args.partners.now + 1) * (length c.args.partners.now + 2)) _ _ all c.in_ok-found.ensures.paid each
