use Rattle.std.proofs.Common.{◌≡◌, ◌-ℤ◌, ◌≤ℤ◌, pos, ◌∙◌, ap, subst, sym, to_z, of_z, w64, arith}
use Rattle.std.specs.Int.{int_max, int_min}
use Rattle.std.proofs.lemmas.Int.{ints}
use Rattle.bound_prune.specs.Bounds.{lasting}
use Rattle.bound_prune.specs.EndsData.{AreInRange, EndsData, bounds_of}
use Rattle.bound_prune.specs.SpanData.{LiesIn, SpanData}
use Rattle.bound_prune.proofs.NightSpans.{own_lies, own_span, same_span}
use Rattle.bound_prune.proofs.spans.NightSpan.of_one.Goals as goal

pub invariant_of-result : goal.invariant_of-result
invariant_of-result c =
    let first = c.ends.invariant.first_epoch in
    let last = c.ends.invariant.last_epoch in
    let usual = c.ends.invariant.dec_rates in
    let least = usual.least in
    let greatest = usual.greatest in
    let lasts = c.lasting.ensures.range in
    let f : to_z w64 (of_z w64 c.ends.inside.first_epoch) ≡ c.ends.inside.first_epoch = omega (arith, ints) in
    let l : to_z w64 (of_z w64 c.ends.inside.last_epoch) ≡ c.ends.inside.last_epoch = omega (arith, ints) in
    let apart : to_z w64 (of_z w64 (to_z w64 (of_z w64 c.ends.inside.dec_rates.greatest) -ℤ to_z w64 (of_z w64 c.ends.inside.dec_rates.least))) ≡ c.ends.inside.dec_rates.greatest -ℤ c.ends.inside.dec_rates.least = omega (arith, ints) in
    let few : (c.ends.inside.dec_rates.greatest -ℤ c.ends.inside.dec_rates.least) ≤ℤ pos 2000000000000000 = omega (arith, ints) in
    let low : c.min.result ≡ int_min c.ends.inside.first_epoch c.ends.inside.last_epoch = rw (f, l) at c.min.ensures.value in
    let high : c.max.result ≡ int_max c.ends.inside.first_epoch c.ends.inside.last_epoch = rw (f, l) at c.max.ensures.value in
    let wide : c.max-2.result ≡ int_max (c.ends.inside.dec_rates.greatest -ℤ c.ends.inside.dec_rates.least) (pos 0) = rw apart at c.max-2.ensures.value in
    let is = own_span c.ends.inside.first_epoch c.ends.inside.last_epoch c.lasting.result (c.ends.inside.dec_rates.greatest -ℤ c.ends.inside.dec_rates.least) first last lasts few in
    let a = is.first_epoch in
    let b = is.last_epoch in
    let d = is.rates_apart in
    let p : to_z w64 (of_z w64 c.min.result) ≡ c.min.result = omega (arith, ints) in
    let q : to_z w64 (of_z w64 c.max.result) ≡ c.max.result = omega (arith, ints) in
    let r : to_z w64 (of_z w64 c.lasting.result) ≡ c.lasting.result = omega (arith, ints) in
    let s : to_z w64 (of_z w64 c.max-2.result) ≡ c.max-2.result = omega (arith, ints) in
    rw (p, q, r, s, low, high, wide) is

pub returns : goal.returns
returns c =
    let first = c.ends.invariant.first_epoch in
    let last = c.ends.invariant.last_epoch in
    let usual = c.ends.invariant.dec_rates in
    let least = usual.least in
    let greatest = usual.greatest in
    let lasts = c.lasting.ensures.range in
    let f : to_z w64 (of_z w64 c.ends.inside.first_epoch) ≡ c.ends.inside.first_epoch = omega (arith, ints) in
    let l : to_z w64 (of_z w64 c.ends.inside.last_epoch) ≡ c.ends.inside.last_epoch = omega (arith, ints) in
    let apart : to_z w64 (of_z w64 (to_z w64 (of_z w64 c.ends.inside.dec_rates.greatest) -ℤ to_z w64 (of_z w64 c.ends.inside.dec_rates.least))) ≡ c.ends.inside.dec_rates.greatest -ℤ c.ends.inside.dec_rates.least = omega (arith, ints) in
    let few : (c.ends.inside.dec_rates.greatest -ℤ c.ends.inside.dec_rates.least) ≤ℤ pos 2000000000000000 = omega (arith, ints) in
    let low : c.min.result ≡ int_min c.ends.inside.first_epoch c.ends.inside.last_epoch = rw (f, l) at c.min.ensures.value in
    let high : c.max.result ≡ int_max c.ends.inside.first_epoch c.ends.inside.last_epoch = rw (f, l) at c.max.ensures.value in
    let wide : c.max-2.result ≡ int_max (c.ends.inside.dec_rates.greatest -ℤ c.ends.inside.dec_rates.least) (pos 0) = rw apart at c.max-2.ensures.value in
    let is = own_span c.ends.inside.first_epoch c.ends.inside.last_epoch c.lasting.result (c.ends.inside.dec_rates.greatest -ℤ c.ends.inside.dec_rates.least) first last lasts few in
    let a = is.first_epoch in
    let b = is.last_epoch in
    let d = is.rates_apart in
    let p : to_z w64 (of_z w64 c.min.result) ≡ c.min.result = omega (arith, ints) in
    let q : to_z w64 (of_z w64 c.max.result) ≡ c.max.result = omega (arith, ints) in
    let r : to_z w64 (of_z w64 c.lasting.result) ≡ c.lasting.result = omega (arith, ints) in
    let s : to_z w64 (of_z w64 c.max-2.result) ≡ c.max-2.result = omega (arith, ints) in
    let e = c.ends.view_is in
    let made = same_span (to_z w64 (of_z w64 c.min.result)) (to_z w64 (of_z w64 c.max.result)) (to_z w64 (of_z w64 c.lasting.result)) (to_z w64 (of_z w64 c.max-2.result))
    (int_min c.args.ends.now.first_epoch c.args.ends.now.last_epoch) (int_max c.args.ends.now.first_epoch c.args.ends.now.last_epoch) (lasting (bounds_of c.args.ends.now)) (int_max (c.args.ends.now.dec_rates.greatest -ℤ c.args.ends.now.dec_rates.least) (pos 0))
    (p ∙ (low ∙ ap (λ (x : EndsData). int_min x.first_epoch x.last_epoch) e)) (q ∙ (high ∙ ap (λ (x : EndsData). int_max x.first_epoch x.last_epoch) e)) (r ∙ c.lasting.ensures.value) (s ∙ (wide ∙ ap (λ (x : EndsData). int_max (x.dec_rates.greatest -ℤ x.dec_rates.least) (pos 0)) e)) in
    subst (λ (x : SpanData). LiesIn x c.args.ends.now) (sym made) (own_lies c.args.ends.now (subst AreInRange e c.ends.invariant))
