use Rattle.std.proofs.Common.{◌≡◌, ◌∙◌, ◌+ℤ◌, to_z, of_z, w64, arith}
use Rattle.std.proofs.lemmas.Int.{ints}
use Rattle.sky_units.specs.declared.axis.Axis.TheVariants.{Dec}
use Rattle.bound_prune.specs.Bounds.{gained_in}
use Rattle.bound_prune.proofs.NightSpans.{same_near}
use Rattle.bound_prune.proofs.spans.widest_ways.Goals as goal

pub returns : goal.returns
returns c =
    let o = c.requires.order in
    let long : to_z w64 (of_z w64 (to_z w64 (of_z w64 c.args.times.now.longest) +ℤ to_z w64 (of_z w64 c.args.times.now.longest))) ≡ c.args.times.now.longest +ℤ c.args.times.now.longest = omega (arith, ints) in
    let turned : c.gained-turned.result ≡ gained_in Dec c.args.settings.now (c.args.times.now.longest +ℤ c.args.times.now.longest) = rw long at c.gained-turned.ensures.value in
    let apart : to_z w64 (of_z w64 c.args.apart) ≡ c.args.apart = omega (arith, ints) in
    let plain : to_z w64 (of_z w64 c.gained-turned.result) ≡ c.gained-turned.result = omega (arith, ints) in
    record {
      wide = c.widened-wide.result;
      holds = same_near c.args.rates (to_z w64 (of_z w64 c.args.apart)) (to_z w64 (of_z w64 c.gained-turned.result)) c.args.apart (gained_in Dec c.args.settings.now (c.args.times.now.longest +ℤ c.args.times.now.longest)) c.widened-wide.result apart (plain ∙ turned) c.widened-wide.ensures.holds;
      led = c.farthest_ways.ensures;
    }
