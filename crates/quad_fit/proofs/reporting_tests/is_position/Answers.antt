use Rattle.std.proofs.Common.{◌≡◌, to_z, of_z, w64, subst, sym}
use Rattle.std.proofs.lemmas.Int.{to_z-of_z}
use Rattle.sky_units.specs.declared.axis.Axis.{Axis}
use Rattle.quad_fit.specs.NearStart.{IsPositionOn}
use Rattle.quad_fit.proofs.reporting_tests.is_position.Goals as goal

pub returns-in-Ra : goal.returns-in-Ra
returns-in-Ra c =
    let position : to_z w64 (of_z w64 c.args.position) ≡ c.args.position = to_z-of_z w64 c.args.position c.ranges.position in
    λ h. let there = rw position at (c.is_between.ensures h) in subst (λ (axis : Axis). IsPositionOn axis c.args.position) (sym c.in-Ra.is) there

pub returns-in-Dec : goal.returns-in-Dec
returns-in-Dec c =
    let position : to_z w64 (of_z w64 c.args.position) ≡ c.args.position = to_z-of_z w64 c.args.position c.ranges.position in
    λ h. let there = rw position at (c.is_between-in-Dec.ensures h) in subst (λ (axis : Axis). IsPositionOn axis c.args.position) (sym c.in-Dec.is) there
