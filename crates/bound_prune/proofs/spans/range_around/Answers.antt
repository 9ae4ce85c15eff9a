use Rattle.std.proofs.Common.{◌≡◌, ◌∙◌, pos, neg_ℤ, ◌+ℤ◌, ◌-ℤ◌, ◌*ℤ◌, ap, subst, sym, to_z, of_z, w64, arith}
use Rattle.std.specs.Prelude.{ℤ}
use Rattle.std.specs.Int.{w128}
use Rattle.std.proofs.lemmas.Int.{ints}
use Rattle.bound_prune.specs.Bounds.{kept_within}
use Rattle.bound_prune.specs.Spans.{HasReached}
use Rattle.bound_prune.proofs.NightSpans.{reached_in_range, same_range}
use Rattle.bound_prune.proofs.spans.range_around.Goals as goal

pub returns : goal.returns
returns c =
    let d = c.requires.dec in
    let t = c.requires.tol in
    let one = c.limited.ensures.range in
    let other = c.limited-2.ensures.range in
    let ahead : to_z w128 (of_z w128 c.args.ahead) ≡ c.args.ahead = omega (arith, ints) in
    let back : to_z w128 (of_z w128 c.args.back) ≡ c.args.back = omega (arith, ints) in
    let one_is : c.limited.result ≡ kept_within (neg_ℤ (pos 1000000000000000000)) (pos 1000000000000000000) c.args.back = rw back at c.limited.ensures.value in
    let other_is : c.limited-2.result ≡ kept_within (neg_ℤ (pos 1000000000000000000)) (pos 1000000000000000000) c.args.ahead = rw ahead at c.limited-2.ensures.value in
    let twice : to_z w64 (of_z w64 (to_z w64 (of_z w64 c.args.tol) +ℤ to_z w64 (of_z w64 c.args.tol))) ≡ c.args.tol +ℤ c.args.tol = omega (arith, ints) in
    let less : to_z w64 (of_z w64 (to_z w64 (of_z w64 c.args.dec) -ℤ to_z w64 (of_z w64 (to_z w64 (of_z w64 c.args.tol) +ℤ to_z w64 (of_z w64 c.args.tol))))) ≡ c.args.dec -ℤ (c.args.tol +ℤ c.args.tol) = omega (arith, ints) in
    let more : to_z w64 (of_z w64 (to_z w64 (of_z w64 c.args.dec) +ℤ to_z w64 (of_z w64 (to_z w64 (of_z w64 c.args.tol) +ℤ to_z w64 (of_z w64 c.args.tol))))) ≡ c.args.dec +ℤ (c.args.tol +ℤ c.args.tol) = omega (arith, ints) in
    let below : to_z w64 (of_z w64 (pos 2000000 *ℤ to_z w64 (of_z w64 (to_z w64 (of_z w64 c.args.dec) -ℤ to_z w64 (of_z w64 (to_z w64 (of_z w64 c.args.tol) +ℤ to_z w64 (of_z w64 c.args.tol))))))) ≡ pos 2000000 *ℤ (c.args.dec -ℤ (c.args.tol +ℤ c.args.tol)) = omega (arith, ints) in
    let above : to_z w64 (of_z w64 (pos 2000000 *ℤ to_z w64 (of_z w64 (to_z w64 (of_z w64 c.args.dec) +ℤ to_z w64 (of_z w64 (to_z w64 (of_z w64 c.args.tol) +ℤ to_z w64 (of_z w64 c.args.tol))))))) ≡ pos 2000000 *ℤ (c.args.dec +ℤ (c.args.tol +ℤ c.args.tol)) = omega (arith, ints) in
    let low : to_z w64 (of_z w64 (to_z w64 (of_z w64 (pos 2000000 *ℤ to_z w64 (of_z w64 (to_z w64 (of_z w64 c.args.dec) -ℤ to_z w64 (of_z w64 (to_z w64 (of_z w64 c.args.tol) +ℤ to_z w64 (of_z w64 c.args.tol))))))) -ℤ to_z w64 (of_z w64 c.limited.result))) ≡ (pos 2000000 *ℤ (c.args.dec -ℤ (c.args.tol +ℤ c.args.tol))) -ℤ c.limited.result = omega (arith, ints) in
    let high : to_z w64 (of_z w64 (to_z w64 (of_z w64 (pos 2000000 *ℤ to_z w64 (of_z w64 (to_z w64 (of_z w64 c.args.dec) +ℤ to_z w64 (of_z w64 (to_z w64 (of_z w64 c.args.tol) +ℤ to_z w64 (of_z w64 c.args.tol))))))) +ℤ to_z w64 (of_z w64 c.limited-2.result))) ≡ (pos 2000000 *ℤ (c.args.dec +ℤ (c.args.tol +ℤ c.args.tol))) +ℤ c.limited-2.result = omega (arith, ints) in
    let made = same_range (to_z w64 (of_z w64 (to_z w64 (of_z w64 (pos 2000000 *ℤ to_z w64 (of_z w64 (to_z w64 (of_z w64 c.args.dec) -ℤ to_z w64 (of_z w64 (to_z w64 (of_z w64 c.args.tol) +ℤ to_z w64 (of_z w64 c.args.tol))))))) -ℤ to_z w64 (of_z w64 c.limited.result)))) (to_z w64 (of_z w64 (to_z w64 (of_z w64 (pos 2000000 *ℤ to_z w64 (of_z w64 (to_z w64 (of_z w64 c.args.dec) +ℤ to_z w64 (of_z w64 (to_z w64 (of_z w64 c.args.tol) +ℤ to_z w64 (of_z w64 c.args.tol))))))) +ℤ to_z w64 (of_z w64 c.limited-2.result))))
    ((pos 2000000 *ℤ (c.args.dec -ℤ (c.args.tol +ℤ c.args.tol))) -ℤ kept_within (neg_ℤ (pos 1000000000000000000)) (pos 1000000000000000000) c.args.back)
    ((pos 2000000 *ℤ (c.args.dec +ℤ (c.args.tol +ℤ c.args.tol))) +ℤ kept_within (neg_ℤ (pos 1000000000000000000)) (pos 1000000000000000000) c.args.ahead)
    (low ∙ ap (λ (z : ℤ). (pos 2000000 *ℤ (c.args.dec -ℤ (c.args.tol +ℤ c.args.tol))) -ℤ z) one_is)
    (high ∙ ap (λ (z : ℤ). (pos 2000000 *ℤ (c.args.dec +ℤ (c.args.tol +ℤ c.args.tol))) +ℤ z) other_is) in
    subst (HasReached c.args.tol c.args.dec c.args.ahead c.args.back) (sym made) (reached_in_range c.args.tol c.args.dec c.args.ahead c.args.back c.requires.dec c.requires.tol)
