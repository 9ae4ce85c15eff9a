use Rattle.std.proofs.Common.{ℕ, ◌↔◌, IsTrue, IfOk, List, map, subst, rules}
use Rattle.closed_sets.specs.Objects.{IsSeen}
use Rattle.closed_sets.proofs.Seen.{pair_told}
use Rattle.closed_sets.proofs.tests.is_fitting_pair.Goals as goal

pub returns : goal.returns
returns c =
    let objects = map (λ object. object.items) c.args.family.now.objects.items in
    let says : IfOk c.fits.result (λ fits. IsTrue fits ↔ IsSeen objects c.set_of-set.result.items) = subst (λ (set : List ℕ). IfOk c.fits.result (λ fits. IsTrue fits ↔ IsSeen objects set)) c.as_slice.ensures.value c.fits.ensures.fits in
    pair_told objects c.args.item c.fits.result c.args.first c.args.second c.set_of-set.result.items _ c.set_of-set.ensures.is_set c.set_of-set.ensures.exactly (search rules) c.if-first-item.false c.if-second-item.false c.requires says
