use Rattle.std.proofs.Common.{◌≡◌, ℕ, ◌-◌, ◌≤◌, ◌↔◌, Bool, IsTrue, List, [], ◌∷◌, length, take, drop, sym, subst}
use Rattle.std.specs.List.{Contains}
use Rattle.closed_sets.specs.Around.{FitTogether}
use Rattle.closed_sets.specs.Search.{IsLargest}
use Rattle.closed_sets.proofs.Nodes.{parted_there, to_the_end}
use Rattle.closed_sets.proofs.among.settle_around.Goals as goal

-- what the calls tell of slices, told of the lists
largest_there : (Fits : List ℕ → Type 0) (item : ℕ) (alone numbers slice largest : List ℕ) (first : ℕ) → alone ≡ item ∷ [] → slice ≡ numbers → IsLargest Fits alone (take (length slice - first) (drop first slice)) largest → IsLargest Fits (item ∷ []) (drop first numbers) largest
largest_there Fits item alone numbers slice largest first e f l =
    subst (λ (ns : List ℕ). IsLargest Fits (item ∷ []) (drop first ns) largest) f (subst (λ (xs : List ℕ). IsLargest Fits (item ∷ []) xs largest) (to_the_end slice first) (subst (λ (s : List ℕ). IsLargest Fits s (take (length slice - first) (drop first slice)) largest) e l))

alone_there : (Fits : List ℕ → Type 0) (numbers slice largest other : List ℕ) (first : ℕ) (closed : Bool) → other ≡ largest → slice ≡ numbers → IsTrue closed ↔ (3 ≤ length other × ((x : ℕ) → Contains (take first slice) x → ¬ FitTogether Fits (x ∷ other))) → IsTrue closed ↔ (3 ≤ length largest × ((x : ℕ) → Contains (take first numbers) x → ¬ FitTogether Fits (x ∷ largest)))
alone_there Fits numbers slice largest other first closed e f says =
    subst (λ (ns : List ℕ). IsTrue closed ↔ (3 ≤ length largest × ((x : ℕ) → Contains (take first ns) x → ¬ FitTogether Fits (x ∷ largest)))) f (subst (λ (s : List ℕ). IsTrue closed ↔ (3 ≤ length s × ((x : ℕ) → Contains (take first slice) x → ¬ FitTogether Fits (x ∷ s)))) e says)

pub largest_beside-requires : goal.largest_beside-requires
largest_beside-requires g c = subst (g.F.Family.Fits c.args.family.now) (sym c.in_ok-alone.ensures.items) c.requires.fits

pub returns-clause-settled : goal.returns-clause-settled
returns-clause-settled g c =
    let fits = g.F.Family.Fits c.args.family.now in
    let others = c.args.others.now in
    record {
      largest = c.in_ok-largest.largest.items;
      is_largest = largest_there fits c.args.item c.in_ok-alone.alone.items others.numbers.items c.as_slice-numbers.result.now c.in_ok-largest.largest.items others.first c.in_ok-alone.ensures.items c.as_slice-numbers.ensures.value c.in_ok-largest.ensures.largest;
      parted = parted_there others.numbers.items c.as_slice-numbers.result.now c.in_ok-largest.largest.items c.as_slice-2.result.now c.in_ok-rest.rest.numbers.items others.first c.in_ok-rest.rest.first c.as_slice-2.ensures.value c.as_slice-numbers.ensures.value c.in_ok-rest.ensures;
      closed = c.in_ok-closed.closed;
      alone = alone_there fits others.numbers.items c.as_slice-numbers.result.now c.in_ok-largest.largest.items c.as_slice.result.now others.first c.in_ok-closed.closed c.as_slice.ensures.value c.as_slice-numbers.ensures.value c.in_ok-closed.ensures.alone;
      added = c.in_ok-push_set_where.ensures;
    }
