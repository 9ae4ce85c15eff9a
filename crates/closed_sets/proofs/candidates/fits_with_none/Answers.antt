use Rattle.std.proofs.Common.{◌≡◌, ℕ, ◌+◌, ◌∷◌, ◌++◌, [], List, take, get_or, sym, subst, refl, ◌∙◌, arith}
use Rattle.std.proofs.lemmas.Bool.{false≢true}
use Rattle.std.proofs.lemmas.List.{take_all, take_more}
use Rattle.std.specs.List.{Contains}
use Rattle.closed_sets.specs.Around.{FitTogether}
use Rattle.closed_sets.proofs.Largest.{each_more}
use Rattle.closed_sets.proofs.Paying.{rises_then}
use Rattle.closed_sets.proofs.candidates.fits_with_none.Goals as goal

pub loop-number-preserved : goal.loop-number-preserved
loop-number-preserved g c =
    let fits = g.F.Family.Fits c.args.family.now in
    let i : ℕ = c.loop-number.number-index in
    let x : ℕ = get_or c.args.numbers.now i 0 in
    let more : take (i + 1) c.args.numbers.now ≡ take i c.args.numbers.now ++ x ∷ [] = take_more c.args.numbers.now i 0 c.loop-number-test.true in
    record {
      none = subst (λ (xs : List ℕ). (y : ℕ) → Contains xs y → ¬ FitTogether fits (y ∷ c.args.set.now)) (sym more)
          (each_more (λ y. ¬ FitTogether fits (y ∷ c.args.set.now)) (take i c.args.numbers.now) x c.loop-number.invariant.none (λ t. false≢true (sym c.if-branch.false ∙ c.in_ok-fits_with.ensures.fits.1 t)));
      tests = rises_then i 1 (i + 1) _ _ _ c.loop-number.invariant.tests c.fits_with.ensures.tests (omega arith);
    }

pub returns-clause-none : goal.returns-clause-none
returns-clause-none g c =
    let fits = g.F.Family.Fits c.args.family.now in
    let all : take c.loop-number.number-index c.args.numbers.now ≡ c.args.numbers.now = take_all c.loop-number.number-index c.args.numbers.now c.loop-number-test.false in (
      λ h. subst (λ (xs : List ℕ). (y : ℕ) → Contains xs y → ¬ FitTogether fits (y ∷ c.args.set.now)) all c.loop-number.invariant.none,
      λ h. refl,
    )
