use Rattle.std.proofs.Common.{◌≡◌, ◌↔◌, pos, ◌∙◌, sym, ◌-ℤ◌, ◌*ℤ◌, ◌≤ℤ◌, to_z, of_z, w64, refl, arith, IsTrue}
use Rattle.std.proofs.lemmas.Bool.{false≢true}
use Rattle.std.proofs.lemmas.Int.{ints}
use Rattle.sky_units.specs.Motion.{acceleration}
use Rattle.bound_prune.proofs.Cuts.{plain, product_within, widened}
use Rattle.bound_prune.proofs.rates.differ_little.Goals as goal

pub is_above_by-requires : goal.is_above_by-requires
is_above_by-requires c =
    let p = product_within c.acceleration.result c.args.longest (pos 1000000) (pos 29999999) (omega (arith, ints)) c.acceleration.ensures.range c.requires in
    let acc : to_z w64 (of_z w64 c.acceleration.result) ≡ c.acceleration.result = let r = c.acceleration.ensures.range in omega (arith, ints) in
    let long : to_z w64 (of_z w64 c.args.longest) ≡ c.args.longest = let r = c.requires in omega (arith, ints) in
    rw (acc, long, plain (c.acceleration.result *ℤ c.args.longest) (widened (pos 0) (pos 29999999000000) (c.acceleration.result *ℤ c.args.longest) (omega (arith, ints)) (omega (arith, ints)) p)) p

pub is_above_by-requires-2 : goal.is_above_by-requires-2
is_above_by-requires-2 c =
    let p = product_within c.acceleration.result c.args.longest (pos 1000000) (pos 29999999) (omega (arith, ints)) c.acceleration.ensures.range c.requires in
    let acc : to_z w64 (of_z w64 c.acceleration.result) ≡ c.acceleration.result = let r = c.acceleration.ensures.range in omega (arith, ints) in
    let long : to_z w64 (of_z w64 c.args.longest) ≡ c.args.longest = let r = c.requires in omega (arith, ints) in
    rw (acc, long, plain (c.acceleration.result *ℤ c.args.longest) (widened (pos 0) (pos 29999999000000) (c.acceleration.result *ℤ c.args.longest) (omega (arith, ints)) (omega (arith, ints)) p)) p

pub returns-then-not-is_above_by : goal.returns-then-not-is_above_by
returns-then-not-is_above_by c =
    let p = product_within c.acceleration.result c.args.longest (pos 1000000) (pos 29999999) (omega (arith, ints)) c.acceleration.ensures.range c.requires in
    let acc : to_z w64 (of_z w64 c.acceleration.result) ≡ c.acceleration.result = let r = c.acceleration.ensures.range in omega (arith, ints) in
    let long : to_z w64 (of_z w64 c.args.longest) ≡ c.args.longest = let r = c.requires in omega (arith, ints) in
    let whole = plain (c.acceleration.result *ℤ c.args.longest) (widened (pos 0) (pos 29999999000000) (c.acceleration.result *ℤ c.args.longest) (omega (arith, ints)) (omega (arith, ints)) p) in
    let a_least : to_z w64 (of_z w64 c.args.a.least) ≡ c.args.a.least = omega (arith, ints) in
    let b_greatest : to_z w64 (of_z w64 c.args.b.greatest) ≡ c.args.b.greatest = omega (arith, ints) in
    let told : IsTrue c.is_above_by.result ↔ ((pos 1000000 *ℤ (c.args.a.least -ℤ c.args.b.greatest)) ≤ℤ (acceleration c.args.axis c.args.settings.now *ℤ c.args.longest)) = rw (acc, long, whole, a_least, b_greatest, c.acceleration.ensures.value) at c.is_above_by.ensures in
    (λ t. absurd (false≢true t), λ h. absurd (false≢true (sym c.if-not-is_above_by.true ∙ told.1 h.slower)))

pub returns : goal.returns
returns c =
    let p = product_within c.acceleration.result c.args.longest (pos 1000000) (pos 29999999) (omega (arith, ints)) c.acceleration.ensures.range c.requires in
    let acc : to_z w64 (of_z w64 c.acceleration.result) ≡ c.acceleration.result = let r = c.acceleration.ensures.range in omega (arith, ints) in
    let long : to_z w64 (of_z w64 c.args.longest) ≡ c.args.longest = let r = c.requires in omega (arith, ints) in
    let whole = plain (c.acceleration.result *ℤ c.args.longest) (widened (pos 0) (pos 29999999000000) (c.acceleration.result *ℤ c.args.longest) (omega (arith, ints)) (omega (arith, ints)) p) in
    let a_least : to_z w64 (of_z w64 c.args.a.least) ≡ c.args.a.least = omega (arith, ints) in
    let a_greatest : to_z w64 (of_z w64 c.args.a.greatest) ≡ c.args.a.greatest = omega (arith, ints) in
    let b_least : to_z w64 (of_z w64 c.args.b.least) ≡ c.args.b.least = omega (arith, ints) in
    let b_greatest : to_z w64 (of_z w64 c.args.b.greatest) ≡ c.args.b.greatest = omega (arith, ints) in
    let first : (pos 1000000 *ℤ (c.args.a.least -ℤ c.args.b.greatest)) ≤ℤ (acceleration c.args.axis c.args.settings.now *ℤ c.args.longest) = rw (acc, long, whole, a_least, b_greatest, c.acceleration.ensures.value) at (c.if-not-is_above_by.ensures.0 refl) in
    let second : IsTrue c.is_above_by-2.result ↔ ((pos 1000000 *ℤ (c.args.b.least -ℤ c.args.a.greatest)) ≤ℤ (acceleration c.args.axis c.args.settings.now *ℤ c.args.longest)) = rw (acc, long, whole, b_least, a_greatest, c.acceleration.ensures.value) at c.is_above_by-2.ensures in
    (λ t. record { slower = first; faster = second.0 t }, λ h. second.1 h.faster)
