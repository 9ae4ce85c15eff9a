use Rattle.std.proofs.Common.{◌≡◌, ℕ, ◌+◌, ◌++◌, ◌∷◌, [], List, take, get_or, sym, subst, arith}
use Rattle.std.proofs.lemmas.List.{take_more}
use Rattle.closed_sets.specs.Search.{IsLargest}
use Rattle.closed_sets.proofs.Largest.{largest_start, largest_push}
use Rattle.closed_sets.proofs.Paying.{rises_none, rises_then}
use Rattle.closed_sets.proofs.candidates.enlarged.Goals as goal

pub loop-candidate-init : goal.loop-candidate-init
loop-candidate-init g c = record { largest = largest_start (g.F.Family.Fits c.args.family.now) c.args.set.items c.requires; tests = rises_none 0 c.args.tally.now.tests }

pub loop-candidate-preserved : goal.loop-candidate-preserved
loop-candidate-preserved g c =
    let fits = g.F.Family.Fits c.args.family.now in
    let i : ℕ = c.loop-candidate.candidate-index in
    let x : ℕ = get_or c.args.candidates.now i 0 in
    let more : take (i + 1) c.args.candidates.now ≡ take i c.args.candidates.now ++ x ∷ [] = take_more c.args.candidates.now i 0 c.loop-candidate-test.true in
    record {
      largest = subst (λ (xs : List ℕ). IsLargest fits c.args.set.items xs c.in_ok-largest.largest.items) (sym more)
          (largest_push fits c.args.set.items (take i c.args.candidates.now) c.loop-candidate.largest.items c.in_ok-largest.largest.items x c.loop-candidate.invariant.largest c.in_ok-largest.ensures.largest);
      tests = rises_then i 1 (i + 1) _ _ _ c.loop-candidate.invariant.tests c.enlarged_by.ensures.tests (omega arith);
    }
