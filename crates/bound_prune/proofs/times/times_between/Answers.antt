use Rattle.std.proofs.Common.{◌≡◌, refl, ◌∙◌, pos, ◌+ℤ◌, SFits, get_or, rules, to_z, of_z, w64, arith}
use Rattle.std.proofs.lemmas.Int.{ints, to_z-of_z}
use Rattle.bound_prune.specs.Bounds.{lasting, longest, shortest}
use Rattle.bound_prune.proofs.times.times_between.Goals as goal

pub returns : goal.returns
returns c =
    let long = c.kept_difference-longest.ensures.range in
    let short = c.kept_difference.ensures.range in
    let one = c.lasting.ensures.range in
    let other = c.lasting-2.ensures.range in
    let l : to_z w64 (of_z w64 c.kept_difference-longest.result) ≡ c.kept_difference-longest.result = omega (arith, ints) in
    let s : to_z w64 (of_z w64 c.kept_difference.result) ≡ c.kept_difference.result = omega (arith, ints) in
    let m : to_z w64 (of_z w64 (to_z w64 (of_z w64 c.lasting.result) +ℤ to_z w64 (of_z w64 c.lasting-2.result))) ≡ c.lasting.result +ℤ c.lasting-2.result = omega (arith, ints) in
    let a_low : SFits w64 (get_or c.args.a.now.low 2 (pos 0)) = search rules in
    let a_high : SFits w64 (get_or c.args.a.now.high 2 (pos 0)) = search rules in
    let b_low : SFits w64 (get_or c.args.b.now.low 2 (pos 0)) = search rules in
    let b_high : SFits w64 (get_or c.args.b.now.high 2 (pos 0)) = search rules in
    let long_is : c.kept_difference-longest.result ≡ longest c.args.a.now c.args.b.now = simp to_z-of_z at c.kept_difference-longest.ensures.value in
    let short_is : c.kept_difference.result ≡ shortest c.args.a.now c.args.b.now = simp to_z-of_z at (rw (l, long_is) at c.kept_difference.ensures.value) in
    let first_is : c.lasting.result ≡ lasting c.args.a.now = c.lasting.ensures.value in
    let second_is : c.lasting-2.result ≡ lasting c.args.b.now = c.lasting-2.ensures.value in
    record {
      shortest_is = s ∙ short_is;
      longest_is = l ∙ long_is;
      lasting_is = m ∙ rw (first_is, second_is) refl;
      in_order = record { from = omega (arith, ints); order = omega (arith, ints); to = omega (arith, ints) };
      lasts = omega (arith, ints);
      lasts_no_longer = omega (arith, ints);
    }
