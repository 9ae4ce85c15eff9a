use Rattle.std.proofs.Common.{◌≡◌, ◌∙◌, ap, arith, to_z, of_z, ◌+ℤ◌, ℤ}
use mir.Syntax.{w64, w128}
use Rattle.std.proofs.lemmas.Int.{ints}
use Rattle.sky_math.specs.Night.{night_at}
use Rattle.sky_math.proofs.Days.{day_of}
use Rattle.exposure_log.proofs.nights.night_of_any.Goals as goal

pub returns : goal.returns
returns c =
    let sum : to_z w128 (of_z w128 (to_z w128 (of_z w128 c.from.result) +ℤ to_z w128 (of_z w128 c.from-2.result))) ≡ c.args.epoch +ℤ c.args.shift = omega (arith, ints, c.from.ensures, c.from-2.ensures) in
    let night : c.div_euclid.result ≡ night_at c.args.shift c.args.epoch = rw sum at c.div_euclid.ensures in
    let wide : to_z w128 (of_z w128 c.div_euclid.result) ≡ c.div_euclid.result = omega (arith, ints) in
    let day = day_of (c.args.epoch +ℤ c.args.shift) in
    let fits : to_z w64 (of_z w64 (night_at c.args.shift c.args.epoch)) ≡ night_at c.args.shift c.args.epoch = omega (arith, ints, day.from, day.until) in
    ap (λ (z : ℤ). to_z w64 (of_z w64 z)) (wide ∙ night) ∙ fits
