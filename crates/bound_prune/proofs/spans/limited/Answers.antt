use Rattle.std.proofs.Common.{◌≡◌, ◌∙◌, pos, negsuc, to_z, of_z, w64, arith}
use Rattle.std.specs.Int.{int_max, int_min, w128}
use Rattle.std.proofs.lemmas.Int.{ints}
use Rattle.bound_prune.proofs.Cuts.{kept_is}
use Rattle.bound_prune.proofs.spans.limited.Goals as goal

pub returns-clause-value : goal.returns-clause-value
returns-clause-value c =
    let fits = c.ranges.way.sfits in
    let low = c.clamp.ensures.lower_bound in
    let high = c.clamp.ensures.upper_bound in
    let way : to_z w128 (of_z w128 c.args.way) ≡ c.args.way = omega (arith, ints) in
    let is : c.clamp.result ≡ int_max (negsuc 999999999999999999) (int_min c.args.way (pos 1000000000000000000)) = rw way at c.clamp.ensures.value in
    let result : to_z w64 (of_z w64 (to_z w128 (of_z w128 c.clamp.result))) ≡ c.clamp.result = omega (arith, ints) in
    result ∙ (is ∙ kept_is (negsuc 999999999999999999) (pos 1000000000000000000) c.args.way)
