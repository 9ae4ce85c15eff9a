use Rattle.std.proofs.Common.{◌≡◌, ℕ, ◌+◌, ◌++◌, ◌∷◌, [], List, take, get_or, sym, subst, rules}
use Rattle.std.proofs.lemmas.List.{take_all, take_more}
use Rattle.closed_sets.proofs.Parting.{ArePartedSoFar, parted_more, parted_none}
use Rattle.closed_sets.proofs.search.parted.Goals as goal

pub loop-candidate-init : goal.loop-candidate-init
loop-candidate-init c =
    let none : c.new-outside.result.items ≡ [] = c.new-outside.ensures.items in
    let none_inside : c.new-inside.result.items ≡ [] = c.new-inside.ensures.items in
    subst (λ (xs : List ℕ). ArePartedSoFar c.args.set.now [] xs c.new-inside.result.items) (sym none) (subst (ArePartedSoFar c.args.set.now [] []) (sym none_inside) (parted_none c.args.set.now))

pub loop-candidate-preserved : goal.loop-candidate-preserved
loop-candidate-preserved c =
    let i : ℕ = c.loop-candidate.candidate-index in
    let x : ℕ = get_or c.args.candidates.now i 0 in
    let more : take (i + 1) c.args.candidates.now ≡ take i c.args.candidates.now ++ x ∷ [] = take_more c.args.candidates.now i 0 c.loop-candidate-test.true in
    subst (λ (xs : List ℕ). ArePartedSoFar c.args.set.now xs c.push_where.new.list.items c.push_where-in-loop-candidate.new.list.items) (sym more)
    (parted_more c.args.set.now (take i c.args.candidates.now) c.loop-candidate.outside.items c.loop-candidate.inside.items c.push_where.new.list.items c.push_where-in-loop-candidate.new.list.items x c.has-is_inside.result c.has-is_inside.ensures c.in_ok-push_where.ensures c.in_ok-push_where-2.ensures c.loop-candidate.invariant)

pub returns : goal.returns
returns c =
    let all : take c.loop-candidate.candidate-index c.args.candidates.now ≡ c.args.candidates.now = take_all c.loop-candidate.candidate-index c.args.candidates.now c.loop-candidate-test.false in
    let p : ArePartedSoFar c.args.set.now c.args.candidates.now c.loop-candidate.outside.items c.loop-candidate.inside.items = subst (λ (xs : List ℕ). ArePartedSoFar c.args.set.now xs c.loop-candidate.outside.items c.loop-candidate.inside.items) all c.loop-candidate.invariant in
    record {
      outside = c.loop-candidate.outside.items;
      inside = c.loop-candidate.inside.items;
      is = search rules;
      at = search rules;
      exactly = p.exactly;
      out = p.out;
      within = p.within;
      different = p.different;
      size = p.size;
    }
