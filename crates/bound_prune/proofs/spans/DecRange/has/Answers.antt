use Rattle.std.proofs.Common.{◌≡◌, pos, ◌*ℤ◌, ◌≤ℤ◌, ap, to_z, of_z, w64, arith, rules}
use Rattle.std.proofs.lemmas.Int.{ints}
use Rattle.bound_prune.specs.EndsData.{EndsData}
use Rattle.bound_prune.specs.Spans.{IsInRange}
use Rattle.bound_prune.proofs.Cuts.{tells}
use Rattle.bound_prune.proofs.spans.DecRange.has.Goals as goal

pub returns : goal.returns
returns c =
    let d = c.ends.invariant.dec in
    let from = d.from in
    let upto = d.to in
    let dec : c.ends.inside.dec ≡ c.args.ends.now.dec = ap (λ (e : EndsData). e.dec) c.ends.view_is in
    let fits = c.fits-self in
    let less = c.if-place-self.false in
    let place : to_z w64 (of_z w64 (pos 2000000 *ℤ to_z w64 (of_z w64 c.ends.inside.dec))) ≡ pos 2000000 *ℤ c.args.ends.now.dec = omega (arith, ints) in
    let most : to_z w64 (of_z w64 c.args.self.now.greatest) ≡ c.args.self.now.greatest = search rules in
    let above : c.args.self.now.least ≤ℤ (pos 2000000 *ℤ c.args.ends.now.dec) = search rules in
    rw (place, most) (tells (pos 2000000 *ℤ c.args.ends.now.dec) c.args.self.now.greatest (IsInRange c.args.self.now c.args.ends.now.dec) (λ h. record { from = above; to = h }) (λ h. h.to))
