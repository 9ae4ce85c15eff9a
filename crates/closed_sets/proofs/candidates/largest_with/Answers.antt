use Rattle.std.proofs.Common.{◌≡◌, ℕ, List, [], ◌∷◌, subst, refl, rules}
use Rattle.closed_sets.specs.Families.{IsHereditary}
use Rattle.closed_sets.specs.Around.{FitTogether}
use Rattle.closed_sets.specs.Search.{IsLargest, IsUnion}
use Rattle.closed_sets.proofs.Fitting.{if_ok, one_more}
use Rattle.closed_sets.proofs.Largest.{largest_cons, largest_whole}
use Rattle.closed_sets.proofs.candidates.largest_with.Goals as goal

-- the set with the first candidate
first_largest : (Fits : List ℕ → Type 0) (law : IsHereditary Fits) (set other grown : List ℕ) (x : ℕ) → other ≡ x ∷ [] → FitTogether Fits (x ∷ set) → IsUnion set other grown → IsLargest Fits set (x ∷ []) grown
first_largest Fits law set other grown x e t u =
    let v : IsUnion set (x ∷ []) grown = subst (λ (o : List ℕ). IsUnion set o grown) e u in
    largest_whole Fits law set (x ∷ []) grown v ((one_more Fits law set grown x v).1 t)

pub largest_beside-requires : goal.largest_beside-requires
largest_beside-requires g c =
    let fits = g.F.Family.Fits c.args.family.now in
    let law = g.met.F.Family.hereditary c.args.family.now in
    let one : c.as_slice.result.now ≡ c.args.first ∷ [] = search rules in
    (first_largest fits law c.args.set.now c.as_slice.result.now c.in_ok-grown.grown.items c.args.first one c.requires c.in_ok-grown.ensures).fits

pub returns-clause-largest : goal.returns-clause-largest
returns-clause-largest g c =
    let fits = g.F.Family.Fits c.args.family.now in
    let law = g.met.F.Family.hereditary c.args.family.now in
    let one : c.as_slice.result.now ≡ c.args.first ∷ [] = search rules in
    let first = first_largest fits law c.args.set.now c.as_slice.result.now c.in_ok-grown.grown.items c.args.first one c.requires c.in_ok-grown.ensures in
    if_ok _ _ c.largest_beside.result (λ largest l. largest_cons fits c.args.set.now c.args.rest.now (c.args.first ∷ c.args.rest.now) c.in_ok-grown.grown.items largest.items c.args.first refl first l) c.largest_beside.ensures.largest
