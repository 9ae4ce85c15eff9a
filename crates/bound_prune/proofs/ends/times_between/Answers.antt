use Rattle.std.proofs.Common.{◌≡◌, refl, ap, ◌∙◌, ◌+ℤ◌, ◌-ℤ◌, to_z, of_z, w64, arith}
use Rattle.std.proofs.lemmas.Int.{ints}
use Rattle.bound_prune.specs.Bounds.{lasting, longest, shortest}
use Rattle.bound_prune.specs.EndsData.{EndsData, bounds_of}
use Rattle.bound_prune.proofs.ends.times_between.Goals as goal

pub returns : goal.returns
returns c =
    let long = c.kept-longest.ensures.range in
    let short = c.kept.ensures.range in
    let one = c.lasting.ensures.range in
    let other = c.lasting-2.ensures.range in
    let af = c.a.invariant.first_epoch in
    let al = c.a.invariant.last_epoch in
    let bf = c.b.invariant.first_epoch in
    let bl = c.b.invariant.last_epoch in
    let a_first : c.a.inside.first_epoch ≡ c.args.a.now.first_epoch = ap (λ (e : EndsData). e.first_epoch) c.a.view_is in
    let a_last : c.a.inside.last_epoch ≡ c.args.a.now.last_epoch = ap (λ (e : EndsData). e.last_epoch) c.a.view_is in
    let b_first : c.b.inside.first_epoch ≡ c.args.b.now.first_epoch = ap (λ (e : EndsData). e.first_epoch) c.b.view_is in
    let b_last : c.b.inside.last_epoch ≡ c.args.b.now.last_epoch = ap (λ (e : EndsData). e.last_epoch) c.b.view_is in
    let whole : to_z w64 (of_z w64 (to_z w64 (of_z w64 c.b.inside.last_epoch) -ℤ to_z w64 (of_z w64 c.a.inside.first_epoch))) ≡ c.args.b.now.last_epoch -ℤ c.args.a.now.first_epoch = omega (arith, ints) in
    let between : to_z w64 (of_z w64 (to_z w64 (of_z w64 c.b.inside.first_epoch) -ℤ to_z w64 (of_z w64 c.a.inside.last_epoch))) ≡ c.args.b.now.first_epoch -ℤ c.args.a.now.last_epoch = omega (arith, ints) in
    let l : to_z w64 (of_z w64 c.kept-longest.result) ≡ c.kept-longest.result = omega (arith, ints) in
    let s : to_z w64 (of_z w64 c.kept.result) ≡ c.kept.result = omega (arith, ints) in
    let m : to_z w64 (of_z w64 (to_z w64 (of_z w64 c.lasting.result) +ℤ to_z w64 (of_z w64 c.lasting-2.result))) ≡ c.lasting.result +ℤ c.lasting-2.result = omega (arith, ints) in
    let long_is : c.kept-longest.result ≡ longest (bounds_of c.args.a.now) (bounds_of c.args.b.now) = rw whole at c.kept-longest.ensures.value in
    let short_is : c.kept.result ≡ shortest (bounds_of c.args.a.now) (bounds_of c.args.b.now) = rw (between, l, long_is) at c.kept.ensures.value in
    let first_is : c.lasting.result ≡ lasting (bounds_of c.args.a.now) = c.lasting.ensures.value in
    let second_is : c.lasting-2.result ≡ lasting (bounds_of c.args.b.now) = c.lasting-2.ensures.value in
    record {
      shortest_is = s ∙ short_is;
      longest_is = l ∙ long_is;
      lasting_is = m ∙ rw (first_is, second_is) refl;
      in_order = record { from = omega (arith, ints); order = omega (arith, ints); to = omega (arith, ints) };
      lasts = omega (arith, ints);
      lasts_no_longer = omega (arith, ints);
    }
