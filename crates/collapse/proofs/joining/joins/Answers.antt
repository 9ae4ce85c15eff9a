use Rattle.std.proofs.Common.{◌≡◌, List, ℕ, sym, ◌≤ℤ◌, pos, ◌-ℤ◌, length, ap, ◌∙◌}
use Rattle.sky_units.specs.AtPlaces.{spots_at}
use Rattle.collapse.specs.Groups.{ArePlaces, with_pair}
use Rattle.line_fit.specs.Lines.{lies_on_line}
use Rattle.collapse.proofs.Together.{no_spot, pair_same, places_with_pair, some_together, two_at}
use Rattle.collapse.proofs.joining.joins.Goals as goal

pub spots_at-requires : goal.spots_at-requires
spots_at-requires c =
    let places : ArePlaces (length c.args.spots.now) (with_pair c.args.group.now c.args.pair) = places_with_pair (length c.args.spots.now) c.args.group.now c.args.pair c.requires.pair c.requires.group in
    rw (c.as_slice.ensures.value, c.in_ok-union.ensures) places.within

pub fits_line-requires-clause-some : goal.fits_line-requires-clause-some
fits_line-requires-clause-some c =
    let places : ArePlaces (length c.args.spots.now) (with_pair c.args.group.now c.args.pair) = places_with_pair (length c.args.spots.now) c.args.group.now c.args.pair c.requires.pair c.requires.group in
    let together : c.as_slice-2.result.now ≡ spots_at c.args.spots.now (with_pair c.args.group.now c.args.pair) = c.as_slice-2.ensures.value ∙ c.in_ok-together.ensures ∙ ap (spots_at c.args.spots.now) (c.as_slice.ensures.value ∙ c.in_ok-union.ensures) in
    rw together (some_together c.args.spots.now c.args.group.now c.args.pair no_spot places)

pub fits_line-requires-clause-order : goal.fits_line-requires-clause-order
fits_line-requires-clause-order c =
    let places : ArePlaces (length c.args.spots.now) (with_pair c.args.group.now c.args.pair) = places_with_pair (length c.args.spots.now) c.args.group.now c.args.pair c.requires.pair c.requires.group in
    let together : c.as_slice-2.result.now ≡ spots_at c.args.spots.now (with_pair c.args.group.now c.args.pair) = c.as_slice-2.ensures.value ∙ c.in_ok-together.ensures ∙ ap (spots_at c.args.spots.now) (c.as_slice.ensures.value ∙ c.in_ok-union.ensures) in
    rw together (two_at (λ x y. x.epoch ≤ℤ y.epoch) c.args.spots.now (with_pair c.args.group.now c.args.pair) places c.requires.order)

pub fits_line-requires-clause-day : goal.fits_line-requires-clause-day
fits_line-requires-clause-day c =
    let places : ArePlaces (length c.args.spots.now) (with_pair c.args.group.now c.args.pair) = places_with_pair (length c.args.spots.now) c.args.group.now c.args.pair c.requires.pair c.requires.group in
    let together : c.as_slice-2.result.now ≡ spots_at c.args.spots.now (with_pair c.args.group.now c.args.pair) = c.as_slice-2.ensures.value ∙ c.in_ok-together.ensures ∙ ap (spots_at c.args.spots.now) (c.as_slice.ensures.value ∙ c.in_ok-union.ensures) in
    rw together (two_at (λ x y. (y.epoch -ℤ x.epoch) ≤ℤ pos 1000000) c.args.spots.now (with_pair c.args.group.now c.args.pair) places c.requires.day)

pub returns-then-has_both : goal.returns-then-has_both
returns-then-has_both c =
    let both = c.has_both.ensures c.if-has_both.true in
    let same = pair_same c.args.group.now c.args.pair c.requires.group.rising both.0 both.1 in
    sym (ap (λ (places : List ℕ). lies_on_line c.args.settings.now.line_tol c.args.settings.now.rate_ra c.args.settings.now.rate_dec (spots_at c.args.spots.now places)) same ∙ c.requires.line)
