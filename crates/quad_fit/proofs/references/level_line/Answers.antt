use Rattle.std.proofs.Common.{◌≡◌, ◌-ℤ◌, ◌<ℤ◌, w64, refl, ap, ◌∙◌}
use Rattle.std.proofs.lemmas.Int.{to_z-of_z}
use Rattle.sky_math.specs.Quadratics.{Point}
use Rattle.quad_fit.proofs.LevelCurves.{level_line_of}
use Rattle.quad_fit.proofs.Sizes.{held, gap_terms, line_terms}
use Rattle.quad_fit.proofs.references.level_line.Goals as goal

pub start_of-requires-clause-den : goal.start_of-requires-clause-den
start_of-requires-clause-den c =
    let rising : c.first.inside.time <ℤ c.last.inside.time = rw (← c.first.view_is, ← c.last.view_is) at c.requires.rising in
    (gap_terms _ _ _ _ c.first.invariant c.last.invariant rising).gap_range

pub invariant_of-result : goal.invariant_of-result
invariant_of-result c =
    let rising : c.first.inside.time <ℤ c.last.inside.time = rw (← c.first.view_is, ← c.last.view_is) at c.requires.rising in
    let terms = line_terms c.start_of.result c.rise_of.result _ _ _ _ _ _ _ _ c.start_of.ensures.size c.rise_of.ensures.size c.first.invariant c.last.invariant rising c.first-2.invariant c.last-2.invariant in
    terms.is_curve

pub returns : goal.returns
returns c =
    let rising : c.first.inside.time <ℤ c.last.inside.time = rw (← c.first.view_is, ← c.last.view_is) at c.requires.rising in
    let terms = line_terms c.start_of.result c.rise_of.result _ _ _ _ _ _ _ _ c.start_of.ensures.size c.rise_of.ensures.size c.first.invariant c.last.invariant rising c.first-2.invariant c.last-2.invariant in
    let tol : held c.args.tol ≡ c.args.tol = to_z-of_z w64 c.args.tol c.ranges.tol in
    let gap = gap_terms _ _ _ _ c.first.invariant c.last.invariant rising in
    let times : c.last.inside.time -ℤ c.first.inside.time ≡ c.args.pair.now.last.time -ℤ c.args.pair.now.first.time = rw (← c.first.view_is, ← c.last.view_is) refl in
    record {
      level = (
          level_line_of c.args.tol c.args.pair.now _ _ _ _ _
          (terms.start_is ∙ (rw tol at c.start_of.ensures.value))
          (terms.rise_is ∙ (rw tol at c.rise_of.ensures.value))
          (gap.gap_is ∙ times)
          (terms.first_is ∙ ap (λ (x : Point). x.time) c.first-2.view_is)
          (terms.second_is ∙ ap (λ (x : Point). x.time) c.last-2.view_is)
          );
      range = terms.is_curve;
    }
