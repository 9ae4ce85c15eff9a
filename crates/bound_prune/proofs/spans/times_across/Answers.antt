use Rattle.std.proofs.Common.{◌≡◌, ◌∙◌, pos, ◌+ℤ◌, ◌-ℤ◌, ◌≤ℤ◌, ap, to_z, of_z, w64, arith}
use Rattle.std.proofs.lemmas.Int.{ints}
use Rattle.bound_prune.specs.Bounds.{kept_within}
use Rattle.bound_prune.specs.SpanData.{SpanData}
use Rattle.bound_prune.proofs.NightSpans.{kept_order}
use Rattle.bound_prune.proofs.spans.times_across.Goals as goal

pub returns : goal.returns
returns c =
    let from = c.args.from.now in
    let to = c.args.to.now in
    let ff = c.from.invariant.first_epoch in
    let fl = c.from.invariant.last_epoch in
    let fo = c.from.invariant.order in
    let tf = c.to.invariant.first_epoch in
    let tl = c.to.invariant.last_epoch in
    let to_ = c.to.invariant.order in
    let fx = c.from.invariant.lasting in
    let tx = c.to.invariant.lasting in
    let one = c.kept.ensures.range in
    let two = c.kept-2.ensures.range in
    let ff_is : c.from.inside.first_epoch ≡ c.args.from.now.first_epoch = ap (λ (s : SpanData). s.first_epoch) c.from.view_is in
    let fl_is : c.from.inside.last_epoch ≡ c.args.from.now.last_epoch = ap (λ (s : SpanData). s.last_epoch) c.from.view_is in
    let fx_is : c.from.inside.lasting ≡ c.args.from.now.lasting = ap (λ (s : SpanData). s.lasting) c.from.view_is in
    let tf_is : c.to.inside.first_epoch ≡ c.args.to.now.first_epoch = ap (λ (s : SpanData). s.first_epoch) c.to.view_is in
    let tl_is : c.to.inside.last_epoch ≡ c.args.to.now.last_epoch = ap (λ (s : SpanData). s.last_epoch) c.to.view_is in
    let tx_is : c.to.inside.lasting ≡ c.args.to.now.lasting = ap (λ (s : SpanData). s.lasting) c.to.view_is in
    let between : to_z w64 (of_z w64 (to_z w64 (of_z w64 c.to.inside.first_epoch) -ℤ to_z w64 (of_z w64 c.from.inside.last_epoch))) ≡ c.args.to.now.first_epoch -ℤ c.args.from.now.last_epoch = omega (arith, ints) in
    let whole : to_z w64 (of_z w64 (to_z w64 (of_z w64 c.to.inside.last_epoch) -ℤ to_z w64 (of_z w64 c.from.inside.first_epoch))) ≡ c.args.to.now.last_epoch -ℤ c.args.from.now.first_epoch = omega (arith, ints) in
    let short : c.kept.result ≡ kept_within (pos 0) (pos 29999999) (c.args.to.now.first_epoch -ℤ c.args.from.now.last_epoch) = rw between at c.kept.ensures.value in
    let long : c.kept-2.result ≡ kept_within (pos 0) (pos 29999999) (c.args.to.now.last_epoch -ℤ c.args.from.now.first_epoch) = rw whole at c.kept-2.ensures.value in
    let s : to_z w64 (of_z w64 c.kept.result) ≡ c.kept.result = omega (arith, ints) in
    let l : to_z w64 (of_z w64 c.kept-2.result) ≡ c.kept-2.result = omega (arith, ints) in
    let m : to_z w64 (of_z w64 (to_z w64 (of_z w64 c.from.inside.lasting) +ℤ to_z w64 (of_z w64 c.to.inside.lasting))) ≡ c.args.from.now.lasting +ℤ c.args.to.now.lasting = omega (arith, ints) in
    let o : (c.args.to.now.first_epoch -ℤ c.args.from.now.last_epoch) ≤ℤ (c.args.to.now.last_epoch -ℤ c.args.from.now.first_epoch) = omega (arith, ints) in
    let order : c.kept.result ≤ℤ c.kept-2.result = rw (short, long) (kept_order (c.args.to.now.first_epoch -ℤ c.args.from.now.last_epoch) (c.args.to.now.last_epoch -ℤ c.args.from.now.first_epoch) o) in
    record {
      shortest = s ∙ short;
      longest = l ∙ long;
      lasting = m;
      in_order = record { from = omega (arith, ints); order = omega (arith, ints); to = omega (arith, ints) };
      lasts = rw m (record { from = omega (arith, ints); to = omega (arith, ints) });
    }
