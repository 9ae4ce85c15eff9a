use Rattle.std.proofs.Common.{◌≡◌, ◌+ℤ◌, ◌*ℤ◌, ◌∙◌, to_z, of_z, w64, arith}
use Rattle.std.specs.Int.{int_max, w128}
use Rattle.std.proofs.lemmas.Int.{ints}
use Rattle.bound_prune.specs.Bounds.{ahead_with, back_with, gained_in, lasting}
use Rattle.bound_prune.specs.Times.{StandsFor}
use Rattle.bound_prune.proofs.LedAs.{stands_led}
use Rattle.bound_prune.proofs.ways.cut_ways.Goals as goal

pub returns : goal.returns
returns c =
    let axis = c.args.axis in
    let settings = c.args.settings.now in
    let a = c.args.a.now in
    let b = c.args.b.now in
    let times = c.args.times.now in
    let g = c.gained-gained.ensures.range in
    let gained_kept : to_z w64 (of_z w64 c.gained-gained.result) ≡ c.gained-gained.result = omega (arith, ints) in
    let ahead_kept : to_z w64 (of_z w64 c.rates_ahead-ahead.result) ≡ c.rates_ahead-ahead.result = omega (arith, ints) in
    let back_kept : to_z w64 (of_z w64 c.rates_back-back.result) ≡ c.rates_back-back.result = omega (arith, ints) in
    let gained : c.gained-gained.result ≡ gained_in axis settings (lasting a +ℤ lasting b) = rw c.requires.lasting_is at c.gained-gained.ensures.value in
    let ahead : StandsFor (ahead_with axis (gained_in axis settings (lasting a +ℤ lasting b)) a b) c.rates_ahead-ahead.result = rw (gained_kept, gained) at c.rates_ahead-ahead.ensures in
    let back : StandsFor (back_with axis (gained_in axis settings (lasting a +ℤ lasting b)) a b) c.rates_back-back.result = rw (gained_kept, gained) at c.rates_back-back.ensures in
    let way_ahead : to_z w128 (of_z w128 c.farthest.result) ≡ c.farthest.result = omega (arith, ints) in
    let way_back : to_z w128 (of_z w128 c.farthest-2.result) ≡ c.farthest-2.result = omega (arith, ints) in
    let ahead_led : c.farthest.result ≡ int_max (c.rates_ahead-ahead.result *ℤ times.shortest) (c.rates_ahead-ahead.result *ℤ times.longest) = rw ahead_kept at c.farthest.ensures in
    let back_led : c.farthest-2.result ≡ int_max (c.rates_back-back.result *ℤ times.shortest) (c.rates_back-back.result *ℤ times.longest) = rw back_kept at c.farthest-2.ensures in
    record {
      ahead = stands_led (ahead_with axis (gained_in axis settings (lasting a +ℤ lasting b)) a b) c.rates_ahead-ahead.result a b times _ c.requires ahead (way_ahead ∙ ahead_led);
      back = stands_led (back_with axis (gained_in axis settings (lasting a +ℤ lasting b)) a b) c.rates_back-back.result a b times _ c.requires back (way_back ∙ back_led);
    }
