use Rattle.purge.proofs.Terms.{product_terms, square_terms}
use Rattle.purge.proofs.squares.with_point.Goals as goal

pub overflow_add-result-5 : goal.overflow_add-result-5
overflow_add-result-5 c = (product_terms c.args.sums.products c.args.time c.args.position c.requires.sums.products_size c.requires.point).sum_fits

pub returns-clause-products : goal.returns-clause-products
returns-clause-products c = (product_terms c.args.sums.products c.args.time c.args.position c.requires.sums.products_size c.requires.point).is

pub returns-clause-squares : goal.returns-clause-squares
returns-clause-squares c = (square_terms c.args.sums.squares c.args.time c.args.position c.requires.sums.squares_size c.requires.point).is
