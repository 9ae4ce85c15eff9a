use Rattle.std.proofs.Common.{◌≡◌, ℕ, List, [], ◌∷◌, subst, sym, ◌∙◌, rules}
use Rattle.std.proofs.lemmas.Bool.{false≢true}
use Rattle.closed_sets.specs.Search.{IsUnion}
use Rattle.closed_sets.proofs.Largest.{largest_same, largest_whole}
use Rattle.closed_sets.proofs.candidates.enlarged_by.Goals as goal

pub returns-then-branch-clause-largest : goal.returns-then-branch-clause-largest
returns-then-branch-clause-largest g c =
    let fits = g.F.Family.Fits c.args.family.now in
    let one : c.as_slice-2.result.now ≡ c.args.candidate ∷ [] = search rules in
    let whole : c.as_slice.result.now ≡ c.args.set.items = c.as_slice.ensures.value in
    let union : IsUnion c.args.set.items (c.args.candidate ∷ []) c.in_ok-more.more.items = subst (λ (o : List ℕ). IsUnion c.args.set.items o c.in_ok-more.more.items) one (subst (λ (o : List ℕ). IsUnion o c.as_slice-2.result.now c.in_ok-more.more.items) whole c.in_ok-more.ensures) in
    largest_whole fits (g.met.F.Family.hereditary c.args.family.now) c.args.set.items (c.args.candidate ∷ []) c.in_ok-more.more.items union (subst fits c.as_slice-3.ensures.value (c.in_ok-fits.ensures.fits.0 c.if-branch.true))

pub returns-clause-largest : goal.returns-clause-largest
returns-clause-largest g c =
    let fits = g.F.Family.Fits c.args.family.now in
    let one : c.as_slice-2.result.now ≡ c.args.candidate ∷ [] = search rules in
    let whole : c.as_slice.result.now ≡ c.args.set.items = c.as_slice.ensures.value in
    let union : IsUnion c.args.set.items (c.args.candidate ∷ []) c.in_ok-more.more.items = subst (λ (o : List ℕ). IsUnion c.args.set.items o c.in_ok-more.more.items) one (subst (λ (o : List ℕ). IsUnion o c.as_slice-2.result.now c.in_ok-more.more.items) whole c.in_ok-more.ensures) in
    largest_same fits (g.met.F.Family.hereditary c.args.family.now) c.args.set.items c.in_ok-more.more.items c.args.candidate c.requires union
    (λ f. false≢true (sym c.if-branch.false ∙ c.in_ok-fits.ensures.fits.1 (subst fits (sym c.as_slice-3.ensures.value) f)))
