use Rattle.std.proofs.Common.{◌≡◌, ◌∙◌, ◌≤ℤ◌, pos, ap, to_z, of_z, w64, arith}
use Rattle.std.specs.Int.{w128}
use Rattle.std.proofs.lemmas.Int.{ints}
use Rattle.sky_units.specs.SettingsData.{SettingsData}
use Rattle.bound_prune.specs.EndsData.{EndsData}
use Rattle.bound_prune.specs.SpanData.{SpanData}
use Rattle.bound_prune.specs.Spans.{HasReached, IsWidest}
use Rattle.bound_prune.proofs.NightSpans.{reached_before, same_reach}
use Rattle.bound_prune.proofs.spans.NightSpan.range_before.Goals as goal

pub widest_ways-ways-requires-clause-lasts : goal.widest_ways-ways-requires-clause-lasts
widest_ways-ways-requires-clause-lasts c = c.times_across-times.ensures.lasts

pub returns : goal.returns
returns c = λ other lies may.
    let d = c.item.invariant.dec in
    let a = c.self.invariant.rates_apart in
    let g = c.settings.invariant.acc_dec_in_range in
    let t = c.settings.invariant.tol_dec_in_range in
    let dec_is : c.item.inside.dec ≡ c.args.item.now.dec = ap (λ (e : EndsData). e.dec) c.item.view_is in
    let rates_are : c.item.inside.dec_rates ≡ c.args.item.now.dec_rates = ap (λ (e : EndsData). e.dec_rates) c.item.view_is in
    let apart_is : c.self.inside.rates_apart ≡ c.args.self.now.rates_apart = ap (λ (s : SpanData). s.rates_apart) c.self.view_is in
    let acc_is : c.settings.inside.acc_dec ≡ c.args.settings.now.acc_dec = ap (λ (s : SettingsData). s.acc_dec) c.settings.view_is in
    let tol_is : c.settings.inside.tol_dec ≡ c.args.settings.now.tol_dec = ap (λ (s : SettingsData). s.tol_dec) c.settings.view_is in
    let positive : pos 0 ≤ℤ c.args.settings.now.acc_dec = omega (arith, ints) in
    let dec : to_z w64 (of_z w64 c.item.inside.dec) ≡ c.item.inside.dec = omega (arith, ints) in
    let apart : to_z w64 (of_z w64 c.self.inside.rates_apart) ≡ c.self.inside.rates_apart = omega (arith, ints) in
    let tol : to_z w64 (of_z w64 c.settings.inside.tol_dec) ≡ c.settings.inside.tol_dec = omega (arith, ints) in
    let ahead : to_z w128 (of_z w128 c.widest_ways-ways.result.ahead) ≡ c.widest_ways-ways.result.ahead = omega (arith, ints) in
    let back : to_z w128 (of_z w128 c.widest_ways-ways.result.back) ≡ c.widest_ways-ways.result.back = omega (arith, ints) in
    let widest : IsWidest c.args.settings.now c.args.item.now.dec_rates c.args.self.now.rates_apart c.times_across-times.result c.widest_ways-ways.result = rw (rates_are, apart, apart_is) at c.widest_ways-ways.ensures in
    let reach = reached_before c.args.settings.now c.args.self.now c.of_one-own.result other c.args.item.now c.times_across-times.result c.widest_ways-ways.result positive lies c.of_one-own.ensures c.times_across-times.ensures widest may in
    let found : HasReached c.args.settings.now.tol_dec c.args.item.now.dec c.widest_ways-ways.result.back c.widest_ways-ways.result.ahead c.range_around.result =
    same_reach _ _ _ _ c.args.settings.now.tol_dec c.args.item.now.dec c.widest_ways-ways.result.back c.widest_ways-ways.result.ahead c.range_around.result (tol ∙ tol_is) (dec ∙ dec_is) back ahead c.range_around.ensures in
    found other.dec lies.in_range.dec reach.0 reach.1
