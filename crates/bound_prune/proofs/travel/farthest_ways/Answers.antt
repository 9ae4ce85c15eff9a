use Rattle.std.proofs.Common.{◌≡◌, neg_ℤ, ◌+ℤ◌, ◌-ℤ◌, ◌∙◌, to_z, of_z, w64, arith}
use Rattle.std.specs.Int.{w128}
use Rattle.std.proofs.lemmas.Int.{ints}
use Rattle.bound_prune.proofs.travel.farthest_ways.Goals as goal

pub returns : goal.returns
returns c =
    let g = c.gained-gained.ensures.range in
    let al = c.requires.a.least in
    let ag = c.requires.a.greatest in
    let bl = c.requires.b.least in
    let bg = c.requires.b.greatest in
    let gained = c.gained-gained.ensures.value in
    let times = c.args.times.now in
    let ahead : to_z w64 (of_z w64 (to_z w64 (of_z w64 (to_z w64 (of_z w64 c.args.a.greatest) +ℤ to_z w64 (of_z w64 c.args.b.greatest))) +ℤ to_z w64 (of_z w64 c.gained-gained.result))) ≡ (c.args.a.greatest +ℤ c.args.b.greatest) +ℤ c.gained-gained.result = omega (arith, ints) in
    let back : to_z w64 (of_z w64 (to_z w64 (of_z w64 c.gained-gained.result) -ℤ to_z w64 (of_z w64 (to_z w64 (of_z w64 c.args.a.least) +ℤ to_z w64 (of_z w64 c.args.b.least))))) ≡ neg_ℤ (c.args.a.least +ℤ c.args.b.least) +ℤ c.gained-gained.result = omega (arith, ints) in
    let ahead_kept : to_z w128 (of_z w128 c.farthest.result) ≡ c.farthest.result = omega (arith, ints) in
    let back_kept : to_z w128 (of_z w128 c.farthest-2.result) ≡ c.farthest-2.result = omega (arith, ints) in
    record {
      ahead = ahead_kept ∙ (rw (ahead, gained) at c.farthest.ensures);
      back = back_kept ∙ (rw (back, gained) at c.farthest-2.ensures);
    }
