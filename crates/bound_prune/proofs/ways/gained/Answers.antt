use Rattle.std.proofs.Common.{◌≡◌, pos, ◌+ℤ◌, ◌*ℤ◌, ◌≤ℤ◌, sym, to_z, of_z, w64, arith}
use Rattle.std.specs.Int.{int_div_euclid}
use Rattle.std.proofs.lemmas.Int.{ints}
use Rattle.bound_prune.proofs.Cuts.{gained_is, plain, product_within, quotient_within, widened}
use Rattle.bound_prune.proofs.ways.gained.Goals as goal

pub returns : goal.returns
returns c =
    let last = c.args.times.now.lasting in
    let r = c.acceleration.ensures.range in
    let t = c.requires.lasts in
    let p = product_within c.acceleration.result last (pos 1000000) (pos 59999998) (omega (arith, ints)) r t in
    let acc : to_z w64 (of_z w64 c.acceleration.result) ≡ c.acceleration.result = omega (arith, ints) in
    let long : to_z w64 (of_z w64 last) ≡ last = omega (arith, ints) in
    let whole = plain (c.acceleration.result *ℤ last) (widened (pos 0) (pos 59999998000000) (c.acceleration.result *ℤ last) (omega (arith, ints)) (omega (arith, ints)) p) in
    let is : c.div_euclid.result ≡ int_div_euclid (c.acceleration.result *ℤ last) (pos 2000000) = rw (acc, long, whole) at c.div_euclid.ensures in
    let q = quotient_within (c.acceleration.result *ℤ last) p in
    let from : pos 0 ≤ℤ c.div_euclid.result = rw is q.from in
    let to : c.div_euclid.result ≤ℤ pos 29999999 = rw is q.to in
    let sum : to_z w64 (of_z w64 (to_z w64 (of_z w64 c.div_euclid.result) +ℤ pos 1)) ≡ c.div_euclid.result +ℤ pos 1 = omega (arith, ints) in
    record {
      value = rw (sum, is, c.acceleration.ensures.value) (sym (gained_is c.args.axis c.args.settings.now last));
      range = rw sum (record { from = omega (arith, ints); to = omega (arith, ints) });
    }
