use Rattle.std.proofs.Common.{length}
use Rattle.closed_sets.specs.Around.{IsFittingWith}
use Rattle.closed_sets.proofs.Paying.{bound}
use Rattle.closed_sets.proofs.Starts.{no_tests}
use Rattle.closed_sets.proofs.around.closed_sets_with.Goals as goal

pub returns-in_err-found-clause-tests : goal.returns-in_err-found-clause-tests
returns-in_err-found-clause-tests g c = λ partners all h each.
    bound (IsFittingWith (g.F.Family.Fits c.args.family.now) c.args.item c.args.done.now) (length partners) _ _ all (c.in_err-found.ensures.paid partners h) each

pub returns-in_err-found-clause-none : goal.returns-in_err-found-clause-none
returns-in_err-found-clause-none g c =
    no_tests (g.F.Family.Fits c.args.family.now) (g.met.F.Family.hereditary c.args.family.now) c.args.item c.args.pairs.now c.requires.pairs c.args.done.now _ _ c.in_err-found.ensures.paid

pub returns-clause-sets : goal.returns-clause-sets
returns-clause-sets g c = record {
  in_order = c.in_order.ensures.in_order;
  exactly = λ set. (
    λ d. (c.in_ok-found.ensures.sets set).0 ((c.in_order.ensures.exactly set).0 d),
    λ w. (c.in_order.ensures.exactly set).1 ((c.in_ok-found.ensures.sets set).1 w),
  );
}

pub returns-clause-tests : goal.returns-clause-tests
returns-clause-tests g c = λ partners all h each.
    bound (IsFittingWith (g.F.Family.Fits c.args.family.now) c.args.item c.args.done.now) (length partners) _ _ all (c.in_ok-found.ensures.paid partners h) each

pub returns-clause-none : goal.returns-clause-none
returns-clause-none g c =
    no_tests (g.F.Family.Fits c.args.family.now) (g.met.F.Family.hereditary c.args.family.now) c.args.item c.args.pairs.now c.requires.pairs c.args.done.now _ _ c.in_ok-found.ensures.paid
