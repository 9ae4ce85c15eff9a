use Rattle.std.proofs.Common.{◌≡◌, ℤ, ◌-ℤ◌, ◌∙◌, to_z, of_z, w64, arith}
use Rattle.std.proofs.lemmas.Int.{ints}
use Rattle.sky_math.specs.Circle.{wrapped}
use Rattle.sky_units.proofs.offsets.offset.Goals as goal

pub returns-in-Ra-clause-value : goal.returns-in-Ra-clause-value
returns-in-Ra-clause-value c =
    let from : ℤ = c.from.inside.ra in
    let to : ℤ = c.to.inside.ra in
    let d : to_z w64 (of_z w64 (to_z w64 (of_z w64 to) -ℤ to_z w64 (of_z w64 from))) ≡ to -ℤ from = omega (arith, ints) in
    let v : c.wrap.result ≡ wrapped (to -ℤ from) = rw d at c.wrap.ensures.value in
    let r : to_z w64 (of_z w64 c.wrap.result) ≡ c.wrap.result = omega (arith, ints) in
    rw (c.in-Ra.is, ← c.from.view_is, ← c.to.view_is) (r ∙ v)
