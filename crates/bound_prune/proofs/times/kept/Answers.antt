use Rattle.std.proofs.Common.{◌≡◌, pos, ◌∙◌, to_z, of_z, w64, arith}
use Rattle.std.proofs.lemmas.Int.{ints}
use Rattle.bound_prune.proofs.Cuts.{kept_is}
use Rattle.bound_prune.proofs.times.kept.Goals as goal

pub returns-clause-value : goal.returns-clause-value
returns-clause-value c =
    let r = c.requires in
    let from = r.from in
    let upto = r.to in
    let time : to_z w64 (of_z w64 c.args.time) ≡ c.args.time = omega (arith, ints) in
    let most : to_z w64 (of_z w64 c.args.most) ≡ c.args.most = omega (arith, ints) in
    let result : to_z w64 (of_z w64 c.clamp.result) ≡ c.clamp.result = omega (arith, ints) in
    result ∙ ((rw (time, most) at c.clamp.ensures.value) ∙ kept_is (pos 0) c.args.most c.args.time)
