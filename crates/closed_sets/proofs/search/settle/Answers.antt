use Rattle.std.proofs.Common.{◌≡◌, ℕ, ◌-◌, ◌↔◌, IsTrue, List, [], ◌∷◌, inl, inr, length, take, drop, subst, sym, ◌∙◌}
use Rattle.std.specs.List.{Contains}
use Rattle.closed_sets.specs.Around.{FitTogether}
use Rattle.closed_sets.specs.Search.{IsLargest}
use Rattle.closed_sets.proofs.Fitting.{beside}
use Rattle.closed_sets.proofs.Lists.{among, in_none, in_taken}
use Rattle.closed_sets.proofs.Nodes.{parted_there, to_the_end}
use Rattle.closed_sets.proofs.search.settle.Goals as goal

-- what the calls tell of slices, told of the node's lists
largest_there : (Fits : List ℕ → Type 0) (set other numbers slice largest : List ℕ) (first : ℕ) → other ≡ set → slice ≡ numbers → IsLargest Fits other (take (length slice - first) (drop first slice)) largest → IsLargest Fits set (drop first numbers) largest
largest_there Fits set other numbers slice largest first e f l =
    subst (λ (ns : List ℕ). IsLargest Fits set (drop first ns) largest) f (subst (λ (xs : List ℕ). IsLargest Fits set xs largest) (to_the_end slice first) (subst (λ (s : List ℕ). IsLargest Fits s (take (length slice - first) (drop first slice)) largest) e l))

-- where there are no candidates, a largest set has the node's numbers alone
all_beside : (Fits : List ℕ → Type 0) (set numbers largest other slice : List ℕ) (first : ℕ) → other ≡ largest → slice ≡ numbers → ((x : ℕ) → Contains numbers x → FitTogether Fits (x ∷ set)) → IsLargest Fits set (drop first numbers) largest → take (length slice - first) (drop first slice) ≡ [] → (x : ℕ) → Contains (take first slice) x → FitTogether Fits (x ∷ other)
all_beside Fits set numbers largest other slice first e f fits l none x c =
    let empty : drop first numbers ≡ [] = subst (λ (ns : List ℕ). drop first ns ≡ []) f (sym (to_the_end slice first) ∙ none) in
    subst (λ (s : List ℕ). FitTogether Fits (x ∷ s)) (sym e) (beside Fits x set largest (fits x (in_taken first numbers x (subst (λ (ns : List ℕ). Contains (take first ns) x) f c))) (among largest set (λ y d. elim (l.only y d) [
      | inl k ↦ k
      | inr k ↦ absurd (in_none y (subst (λ (xs : List ℕ). Contains xs y) empty k))
    ])))

pub stands_alone-requires : goal.stands_alone-requires
stands_alone-requires g c =
    let fits = g.F.Family.Fits c.args.family.now in
    let node = c.args.node.now in
    all_beside fits node.set.items node.others.numbers.items c.in_ok-largest.largest.items c.as_slice-2.result.now c.as_slice-numbers.result.now node.others.first c.as_slice-2.ensures.value c.as_slice-numbers.ensures.value c.requires.others
    (largest_there fits node.set.items c.as_slice.result.now node.others.numbers.items c.as_slice-numbers.result.now c.in_ok-largest.largest.items node.others.first c.as_slice.ensures.value c.as_slice-numbers.ensures.value c.in_ok-largest.ensures.largest)

pub returns-clause-settled : goal.returns-clause-settled
returns-clause-settled g c =
    let fits = g.F.Family.Fits c.args.family.now in
    let node = c.args.node.now in
    record {
      largest = c.in_ok-largest.largest.items;
      is_largest = largest_there fits node.set.items c.as_slice.result.now node.others.numbers.items c.as_slice-numbers.result.now c.in_ok-largest.largest.items node.others.first c.as_slice.ensures.value c.as_slice-numbers.ensures.value c.in_ok-largest.ensures.largest;
      parted = parted_there node.others.numbers.items c.as_slice-numbers.result.now c.in_ok-largest.largest.items c.as_slice-3.result.now c.in_ok-rest.rest.numbers.items node.others.first c.in_ok-rest.rest.first c.as_slice-3.ensures.value c.as_slice-numbers.ensures.value c.in_ok-rest.ensures;
      closed = c.in_ok-closed.closed;
      alone = subst (λ (ns : List ℕ). IsTrue c.in_ok-closed.closed ↔ ((x : ℕ) → Contains (take node.others.first ns) x → ¬ FitTogether fits (x ∷ c.in_ok-largest.largest.items))) c.as_slice-numbers.ensures.value
          (subst (λ (s : List ℕ). IsTrue c.in_ok-closed.closed ↔ ((x : ℕ) → Contains (take node.others.first c.as_slice-numbers.result.now) x → ¬ FitTogether fits (x ∷ s))) c.as_slice-2.ensures.value c.in_ok-closed.ensures.alone);
      added = c.in_ok-push_set_where.ensures;
    }
