use Rattle.std.proofs.Common.{◌≡◌, ℕ, ◌+◌, ◌++◌, ◌∷◌, [], List, take, get_or, sym, subst, arith}
use Rattle.std.proofs.lemmas.List.{take_more}
use Rattle.closed_sets.specs.Search.{AreFitting}
use Rattle.closed_sets.proofs.Largest.{fitting_more}
use Rattle.closed_sets.proofs.Paying.{rises_then}
use Rattle.closed_sets.proofs.candidates.fitting.Goals as goal

pub loop-number-preserved : goal.loop-number-preserved
loop-number-preserved g c =
    let fits = g.F.Family.Fits c.args.family.now in
    let i : ℕ = c.loop-number.number-index in
    let x : ℕ = get_or c.args.numbers.now i 0 in
    let more : take (i + 1) c.args.numbers.now ≡ take i c.args.numbers.now ++ x ∷ [] = take_more c.args.numbers.now i 0 c.loop-number-test.true in
    record {
      kept = subst (λ (xs : List ℕ). AreFitting fits c.args.set.now xs c.push_where.new.list.items) (sym more)
          (fitting_more fits c.args.set.now (take i c.args.numbers.now) c.loop-number.kept.items c.push_where.new.list.items x c.in_ok-fits.fits c.in_ok-fits.ensures.fits c.in_ok-push_where.ensures c.loop-number.invariant.kept);
      tests = rises_then i 1 (i + 1) _ _ _ c.loop-number.invariant.tests c.fits_with.ensures.tests (omega arith);
    }
