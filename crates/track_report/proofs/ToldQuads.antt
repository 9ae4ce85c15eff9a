-- The quadratic of the numbers that a line tells.
use Rattle.std.proofs.Common.{◌≡◌, ℤ, Option, Some, None, SomeIff, refl, ap, ◌∙◌}
use Rattle.sky_units.specs.QuadData.{QuadData, IsQuad}
use Rattle.track_report.specs.Reading.{told_quad}

pub told_found : (found : Option QuadData) (base start den p v q : ℤ) (quad : QuadData)
    → base ≡ quad.base → start ≡ quad.start → den ≡ quad.den → p ≡ quad.p → v ≡ quad.v → q ≡ quad.q
    → IsQuad quad.den quad.p quad.v quad.q → SomeIff found (IsQuad den p v q) (told_quad base start den p v q) → found ≡ Some quad
told_found None base start den p v q quad e1 e2 e3 e4 e5 e6 numbers iff =
    let all : IsQuad den p v q = rw (e3, e4, e5, e6) numbers in absurd (iff all)
told_found (Some x) base start den p v q quad e1 e2 e3 e4 e5 e6 numbers iff =
    let same : told_quad base start den p v q ≡ quad = rw (e1, e2, e3, e4, e5, e6) refl in ap (λ y. Some y) (iff.1 ∙ same)
