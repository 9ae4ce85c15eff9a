use Rattle.std.proofs.Common.{◌≡◌, ℕ, ◌+◌, ◌*◌, ◌≤◌, ◌↔◌, List, [], ◌∷◌, length, map, take, sym, ◌∙◌, subst, arith, rules}
use Rattle.std.specs.List.{Contains}
use Rattle.std.proofs.lemmas.Bool.{false≢true}
use Rattle.closed_sets.specs.Around.{IsFittingWith, IsFree}
use Rattle.closed_sets.specs.Counting.{IsPaid, Rises}
use Rattle.closed_sets.specs.Families.{IsClosed, IsHereditary, IsSet}
use Rattle.closed_sets.specs.Search.{Gains, IsClosedFrom, LiesInThree}
use Rattle.closed_sets.proofs.Fitting.{if_ok}
use Rattle.closed_sets.proofs.Lists.{among_cons, among_none, one_is_set, one_of}
use Rattle.closed_sets.proofs.Partners.{split_beside, split_closed, split_paid}
use Rattle.closed_sets.proofs.Paying.{paid_after, paid_free, rises_none, rises_part}
use Rattle.closed_sets.proofs.Starts.{all_there, none_there, not_done}
use Rattle.closed_sets.proofs.among.found_among.Goals as goal

-- where the item alone does not fit, no set with it does
none_fits : (Fits : List ℕ → Type 0) (law : IsHereditary Fits) (item : ℕ) → (¬ Fits (item ∷ [])) → (set : List ℕ) → Fits set → ¬ Contains set item
none_fits Fits law item none set f c = none (law.parts set (item ∷ []) f (one_is_set item) (among_cons item [] set c (among_none set)))

-- the one test of the item alone is in the bound
one_within : (size start stop : ℕ) → Rises 1 start stop → Rises ((size + 1) * (size + 2)) start stop
one_within size start stop r =
    let product : (size + 1) * (size + 2) ≡ size * size + 3 * size + 2 = grind arith in
    rises_part 1 ((size + 1) * (size + 2)) start stop r (omega arith)

paid_with_one : (Kind : List ℕ → Type 0) (size start middle stop : ℕ) → Rises 1 start middle → IsPaid Kind size (size * size + size + 1) middle stop → IsPaid Kind size ((size + 1) * (size + 2)) start stop
paid_with_one Kind size start middle stop r p =
    let product : (size + 1) * (size + 2) ≡ size * size + 3 * size + 2 = grind arith in
    paid_after Kind size 1 (size * size + size + 1) ((size + 1) * (size + 2)) start middle stop (omega arith) r p

pub returns-then-has_rising-clause-sets : goal.returns-then-has_rising-clause-sets
returns-then-has_rising-clause-sets g c =
    let fits = g.F.Family.Fits c.args.family.now in
    let none : map (λ set. set.items) c.new.result.items ≡ [] = search rules in
    none_there (λ set. IsClosed fits set × Contains set c.args.item × IsFree c.args.done.now set × 3 ≤ length set) (map (λ set. set.items) c.new.result.items) none
    (λ set w. w.2 c.args.item ((one_of c.args.done.now c.args.item).0 (sym c.has_rising.ensures ∙ c.if-has_rising.true)) w.1)

pub returns-then-has_rising-clause-paid : goal.returns-then-has_rising-clause-paid
returns-then-has_rising-clause-paid g c = paid_free (IsFittingWith (g.F.Family.Fits c.args.family.now) c.args.item c.args.done.now) (length c.args.partners.now) ((length c.args.partners.now + 1) * (length c.args.partners.now + 2)) c.args.tally.now.tests c.args.tally.now.tests (rises_none ((length c.args.partners.now + 1) * (length c.args.partners.now + 2)) c.args.tally.now.tests)

pub split_by_done-requires-clause-item : goal.split_by_done-requires-clause-item
split_by_done-requires-clause-item g c = not_done c.args.done.now c.args.item c.has_rising.result c.has_rising.ensures c.if-has_rising.false

pub fits-requires : goal.fits-requires
fits-requires g c =
    let alone : c.as_slice.result.now ≡ c.args.item ∷ [] = c.as_slice.ensures.value ∙ c.in_ok-alone.ensures.items in
    subst IsSet (sym alone) (one_is_set c.args.item)

pub returns-then-not-branch-clause-sets : goal.returns-then-not-branch-clause-sets
returns-then-not-branch-clause-sets g c =
    let fits = g.F.Family.Fits c.args.family.now in
    let none : map (λ set. set.items) c.new-then-not-branch.result.items ≡ [] = search rules in
    let alone : c.as_slice.result.now ≡ c.args.item ∷ [] = c.as_slice.ensures.value ∙ c.in_ok-alone.ensures.items in
    let refused : ¬ fits (c.args.item ∷ []) = λ f. false≢true (sym c.if-not-branch.true ∙ c.in_ok-fits.ensures.fits.1 (subst fits (sym alone) f)) in
    none_there (λ set. IsClosed fits set × Contains set c.args.item × IsFree c.args.done.now set × 3 ≤ length set) (map (λ set. set.items) c.new-then-not-branch.result.items) none
    (λ set w. none_fits fits (g.met.F.Family.hereditary c.args.family.now) c.args.item refused set w.0.fits w.1)

pub returns-then-not-branch-clause-paid : goal.returns-then-not-branch-clause-paid
returns-then-not-branch-clause-paid g c = paid_free (IsFittingWith (g.F.Family.Fits c.args.family.now) c.args.item c.args.done.now) (length c.args.partners.now) ((length c.args.partners.now + 1) * (length c.args.partners.now + 2)) c.args.tally.now.tests c.fits.new.tally.tests (one_within (length c.args.partners.now) _ _ c.in_ok-fits.ensures.tests)

pub found_beside-requires-clause-fits : goal.found_beside-requires-clause-fits
found_beside-requires-clause-fits g c =
    let alone : c.as_slice.result.now ≡ c.args.item ∷ [] = c.as_slice.ensures.value ∙ c.in_ok-alone.ensures.items in
    subst (g.F.Family.Fits c.args.family.now) alone (c.in_ok-fits.ensures.fits.0 c.if-not-branch.false)

pub found_beside-requires-clause-others : goal.found_beside-requires-clause-others
found_beside-requires-clause-others g c =
    let new = not_done c.args.done.now c.args.item c.has_rising.result c.has_rising.ensures c.if-has_rising.false in
    split_beside (g.F.Family.Fits c.args.family.now) (g.met.F.Family.hereditary c.args.family.now) c.args.item c.args.done.now c.args.partners.now c.in_ok-others.others.numbers.items c.in_ok-others.others.first c.requires.partners c.in_ok-others.ensures new

pub returns-clause-sets : goal.returns-clause-sets
returns-clause-sets g c =
    let fits = g.F.Family.Fits c.args.family.now in
    let new = not_done c.args.done.now c.args.item c.has_rising.result c.has_rising.ensures c.if-has_rising.false in
    let front : List ℕ = take c.in_ok-others.others.first c.in_ok-others.others.numbers.items in
    let closed = split_closed fits (g.met.F.Family.hereditary c.args.family.now) c.args.item c.args.done.now c.args.partners.now c.in_ok-others.others.numbers.items c.in_ok-others.others.first c.requires.partners c.in_ok-others.ensures new in
    if_ok (λ sets. Gains (IsClosedFrom (LiesInThree fits) (c.args.item ∷ []) front) [] (map (λ set. set.items) sets.items)) (λ sets. (set : List ℕ) → Contains (map (λ set. set.items) sets.items) set ↔ (IsClosed fits set × Contains set c.args.item × IsFree c.args.done.now set × 3 ≤ length set)) c.found_beside.result
    (λ sets gains. all_there (IsClosedFrom (LiesInThree fits) (c.args.item ∷ []) front) (λ set. IsClosed fits set × Contains set c.args.item × IsFree c.args.done.now set × 3 ≤ length set) (map (λ set. set.items) sets.items) closed gains) c.found_beside.ensures.gains

pub returns-clause-paid : goal.returns-clause-paid
returns-clause-paid g c =
    let fits = g.F.Family.Fits c.args.family.now in
    let new = not_done c.args.done.now c.args.item c.has_rising.result c.has_rising.ensures c.if-has_rising.false in
    paid_with_one (IsFittingWith fits c.args.item c.args.done.now) (length c.args.partners.now) c.args.tally.now.tests _ c.found_beside.new.tally.tests c.in_ok-fits.ensures.tests
    (split_paid fits (g.met.F.Family.hereditary c.args.family.now) c.args.item c.args.done.now c.args.partners.now c.in_ok-others.others.numbers.items c.in_ok-others.others.first c.requires.partners c.in_ok-others.ensures new (length c.args.partners.now) (length c.args.partners.now * length c.args.partners.now + length c.args.partners.now + 1) (length c.args.partners.now * length c.args.partners.now + length c.args.partners.now + 1) _ c.found_beside.new.tally.tests (omega arith)
    (c.found_beside.ensures.paid (length c.args.partners.now) c.in_ok-others.ensures.few))
