use Rattle.std.proofs.Common.{◌≡◌, pos, neg_ℤ, ◌+ℤ◌, ◌-ℤ◌, ◌≤ℤ◌, to_z, of_z, w64, arith}
use Rattle.std.specs.Int.{int_max, int_min}
use Rattle.std.proofs.lemmas.Int.{ints}
use Rattle.bound_prune.proofs.NightSpans.{wide_holds, wide_usual}
use Rattle.bound_prune.proofs.spans.widened.Goals as goal

pub returns-clause-usual : goal.returns-clause-usual
returns-clause-usual c =
    let l = c.requires.rates.least in
    let g = c.requires.rates.greatest in
    let a = c.requires.apart in
    let t = c.requires.turned in
    let down : to_z w64 (of_z w64 (to_z w64 (of_z w64 c.args.rates.least) -ℤ to_z w64 (of_z w64 (to_z w64 (of_z w64 c.args.apart) +ℤ to_z w64 (of_z w64 c.args.turned))))) ≡ c.args.rates.least -ℤ (c.args.apart +ℤ c.args.turned) = omega (arith, ints) in
    let up : to_z w64 (of_z w64 (to_z w64 (of_z w64 c.args.rates.greatest) +ℤ to_z w64 (of_z w64 (to_z w64 (of_z w64 c.args.apart) +ℤ to_z w64 (of_z w64 c.args.turned))))) ≡ c.args.rates.greatest +ℤ (c.args.apart +ℤ c.args.turned) = omega (arith, ints) in
    let low : c.max.result ≡ int_max (c.args.rates.least -ℤ (c.args.apart +ℤ c.args.turned)) (neg_ℤ (pos 1000000000000000)) = rw down at c.max.ensures.value in
    let high : c.min.result ≡ int_min (c.args.rates.greatest +ℤ (c.args.apart +ℤ c.args.turned)) (pos 1000000000000000) = rw up at c.min.ensures.value in
    let more : pos 0 ≤ℤ (c.args.apart +ℤ c.args.turned) = omega (arith, ints) in
    let usual = wide_usual c.args.rates.least c.args.rates.greatest (c.args.apart +ℤ c.args.turned) l g more in
    let uf = usual.least in
    let ut = usual.greatest in
    let least : to_z w64 (of_z w64 c.max.result) ≡ c.max.result = omega (arith, ints) in
    let greatest : to_z w64 (of_z w64 c.min.result) ≡ c.min.result = omega (arith, ints) in
    rw (least, greatest, low, high) usual

pub returns-clause-holds : goal.returns-clause-holds
returns-clause-holds c =
    let l = c.requires.rates.least in
    let g = c.requires.rates.greatest in
    let a = c.requires.apart in
    let t = c.requires.turned in
    let down : to_z w64 (of_z w64 (to_z w64 (of_z w64 c.args.rates.least) -ℤ to_z w64 (of_z w64 (to_z w64 (of_z w64 c.args.apart) +ℤ to_z w64 (of_z w64 c.args.turned))))) ≡ c.args.rates.least -ℤ (c.args.apart +ℤ c.args.turned) = omega (arith, ints) in
    let up : to_z w64 (of_z w64 (to_z w64 (of_z w64 c.args.rates.greatest) +ℤ to_z w64 (of_z w64 (to_z w64 (of_z w64 c.args.apart) +ℤ to_z w64 (of_z w64 c.args.turned))))) ≡ c.args.rates.greatest +ℤ (c.args.apart +ℤ c.args.turned) = omega (arith, ints) in
    let low : c.max.result ≡ int_max (c.args.rates.least -ℤ (c.args.apart +ℤ c.args.turned)) (neg_ℤ (pos 1000000000000000)) = rw down at c.max.ensures.value in
    let high : c.min.result ≡ int_min (c.args.rates.greatest +ℤ (c.args.apart +ℤ c.args.turned)) (pos 1000000000000000) = rw up at c.min.ensures.value in
    let more : pos 0 ≤ℤ (c.args.apart +ℤ c.args.turned) = omega (arith, ints) in
    let usual = wide_usual c.args.rates.least c.args.rates.greatest (c.args.apart +ℤ c.args.turned) l g more in
    let uf = usual.least in
    let ut = usual.greatest in
    let least : to_z w64 (of_z w64 c.max.result) ≡ c.max.result = omega (arith, ints) in
    let greatest : to_z w64 (of_z w64 c.min.result) ≡ c.min.result = omega (arith, ints) in
    rw (least, greatest, low, high) (wide_holds c.args.rates c.args.apart c.args.turned)
