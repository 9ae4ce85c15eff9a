use Rattle.std.proofs.Common.{◌≡◌, ℕ, ◌+◌, ◌-◌, List, [], ◌∷◌, ◌++◌, length, take, drop, get_or, subst, rules}
use Rattle.closed_sets.specs.Search.{AreFitting, IsBranch, IsUnion}
use Rattle.std.proofs.lemmas.List.Elements.{Contains-get_or}
use Rattle.closed_sets.proofs.Branches.{branch}
use Rattle.closed_sets.proofs.Fitting.{others_beside}
use Rattle.closed_sets.proofs.Nodes.{to_the_end}
use Rattle.closed_sets.proofs.search.branch_at.Goals as goal

pub returns-clause-branch : goal.returns-clause-branch
returns-clause-branch g c =
    let fits = g.F.Family.Fits c.args.family.now in
    let item : ℕ = get_or c.args.others.now c.args.place 0 in
    let grown : List ℕ = c.in_ok-grown.grown.items in
    let excluded : List ℕ = c.in_ok-numbers.numbers.items in
    let candidates : List ℕ = c.in_ok-candidates.candidates.items in
    let one : c.as_slice.result.now ≡ item ∷ [] = search rules in
    let union : IsUnion c.args.set.now (item ∷ []) grown = subst (λ (o : List ℕ). IsUnion c.args.set.now o grown) one c.in_ok-grown.ensures in
    let before : AreFitting fits grown (take c.args.place c.args.others.now) excluded = subst (λ (s : List ℕ). AreFitting fits s (take c.args.place c.args.others.now) excluded) c.as_slice-2.ensures.value c.in_ok-numbers.ensures.kept in
    let after : AreFitting fits grown (drop (c.args.place + 1) c.args.others.now) candidates = subst (λ (xs : List ℕ). AreFitting fits grown xs candidates) (to_the_end c.args.others.now (c.args.place + 1)) (subst (λ (s : List ℕ). AreFitting fits s (take (length c.args.others.now - (c.args.place + 1)) (drop (c.args.place + 1) c.args.others.now)) candidates) c.as_slice-3.ensures.value c.in_ok-candidates.ensures.kept) in
    let numbers : c.extend_from_slice.new.self.items ≡ excluded ++ candidates = search rules in
    let first : length excluded ≡ c.len-first.result = search rules in
    subst (λ (n : ℕ). IsBranch fits c.args.set.now (take c.args.place c.args.others.now) item grown c.extend_from_slice.new.self.items n) first
    (branch fits (g.met.F.Family.hereditary c.args.family.now) c.args.set.now c.args.others.now (others_beside fits c.args.set.now c.args.others.now c.requires.others) c.args.place c.requires.place grown excluded candidates c.extend_from_slice.new.self.items
    ((c.requires.others.exactly item).0 (Contains-get_or c.args.others.now c.args.place 0 c.requires.place)).1 union before after numbers)
