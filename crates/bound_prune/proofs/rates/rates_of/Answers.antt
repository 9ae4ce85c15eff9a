use Rattle.std.proofs.Common.{◌≡◌, pos, neg_ℤ, ◌-ℤ◌, ◌+ℤ◌, ◌*ℤ◌, ◌≤ℤ◌, ◌<ℤ◌, to_z, of_z, w64, ap, ◌∙◌, arith}
use Rattle.std.proofs.lemmas.Int.{ints}
use Rattle.sky_units.specs.Motion.{offset}
use Rattle.sky_units.specs.Ranges.{IsBetween}
use Rattle.sky_units.specs.SpotData.{SpotData}
use Rattle.bound_prune.specs.Boxes.{greatest_rate, least_rate}
use Rattle.bound_prune.specs.Rounding.{in_order}
use Rattle.bound_prune.proofs.Quotients.{usual_ceiling, usual_floor}
use Rattle.bound_prune.proofs.rates.rates_of.Goals as goal

pub rounded_up-requires-clause-below : goal.rounded_up-requires-clause-below
rounded_up-requires-clause-below c =
    let e : c.last.inside.epoch ≡ c.args.last.now.epoch = ap (λ (s : SpotData). s.epoch) c.last.view_is in
    let f : c.first.inside.epoch ≡ c.args.first.now.epoch = ap (λ (s : SpotData). s.epoch) c.first.view_is in
    let later : c.args.first.now.epoch <ℤ c.args.last.now.epoch = c.requires.later in
    let p = c.last.invariant.epoch_in_range in
    let q = c.first.invariant.epoch_in_range in
    omega (arith, ints)

pub returns-clause-are : goal.returns-clause-are
returns-clause-are c =
    let e : c.last.inside.epoch ≡ c.args.last.now.epoch = ap (λ (s : SpotData). s.epoch) c.last.view_is in
    let f : c.first.inside.epoch ≡ c.args.first.now.epoch = ap (λ (s : SpotData). s.epoch) c.first.view_is in
    let later : c.args.first.now.epoch <ℤ c.args.last.now.epoch = c.requires.later in
    let p = c.last.invariant.epoch_in_range in
    let q = c.first.invariant.epoch_in_range in
    let t = c.requires.tol in
    let r = c.offset-moved.ensures.range in
    let ticks : to_z w64 (of_z w64 (to_z w64 (of_z w64 c.last.inside.epoch) -ℤ to_z w64 (of_z w64 c.first.inside.epoch))) ≡ c.args.last.now.epoch -ℤ c.args.first.now.epoch = omega (arith, ints) in
    let down : to_z w64 (of_z w64 (to_z w64 (of_z w64 (to_z w64 (of_z w64 c.offset-moved.result) -ℤ to_z w64 (of_z w64 (to_z w64 (of_z w64 c.args.tol) +ℤ to_z w64 (of_z w64 c.args.tol))))) *ℤ pos 1000000)) ≡ (c.offset-moved.result -ℤ (c.args.tol +ℤ c.args.tol)) *ℤ pos 1000000 = omega (arith, ints) in
    let up : to_z w64 (of_z w64 (to_z w64 (of_z w64 (to_z w64 (of_z w64 c.offset-moved.result) +ℤ to_z w64 (of_z w64 (to_z w64 (of_z w64 c.args.tol) +ℤ to_z w64 (of_z w64 c.args.tol))))) *ℤ pos 1000000)) ≡ (c.offset-moved.result +ℤ (c.args.tol +ℤ c.args.tol)) *ℤ pos 1000000 = omega (arith, ints) in
    let least_kept : to_z w64 (of_z w64 c.rounded_down.result) ≡ c.rounded_down.result = omega (arith, ints) in
    let greatest_kept : to_z w64 (of_z w64 c.rounded_up.result) ≡ c.rounded_up.result = omega (arith, ints) in
    let least : c.rounded_down.result ≡ least_rate c.args.axis c.args.tol c.args.first.now c.args.last.now = rw (down, ticks, c.offset-moved.ensures.value) at c.rounded_down.ensures in
    let greatest : c.rounded_up.result ≡ greatest_rate c.args.axis c.args.tol c.args.first.now c.args.last.now = rw (up, ticks, c.offset-moved.ensures.value) at c.rounded_up.ensures in
    let wider : ((offset c.args.axis c.args.first.now c.args.last.now -ℤ (c.args.tol +ℤ c.args.tol)) *ℤ pos 1000000) ≤ℤ ((offset c.args.axis c.args.first.now c.args.last.now +ℤ (c.args.tol +ℤ c.args.tol)) *ℤ pos 1000000) = omega (arith, ints) in
    record {
      least = least_kept ∙ least;
      greatest = greatest_kept ∙ greatest;
      order = rw (least_kept, greatest_kept, least, greatest) (in_order ((offset c.args.axis c.args.first.now c.args.last.now -ℤ (c.args.tol +ℤ c.args.tol)) *ℤ pos 1000000) ((offset c.args.axis c.args.first.now c.args.last.now +ℤ (c.args.tol +ℤ c.args.tol)) *ℤ pos 1000000) (c.args.last.now.epoch -ℤ c.args.first.now.epoch) (omega (arith, ints)) wider);
    }

pub returns-clause-usual : goal.returns-clause-usual
returns-clause-usual c =
    let e : c.last.inside.epoch ≡ c.args.last.now.epoch = ap (λ (s : SpotData). s.epoch) c.last.view_is in
    let f : c.first.inside.epoch ≡ c.args.first.now.epoch = ap (λ (s : SpotData). s.epoch) c.first.view_is in
    let later : c.args.first.now.epoch <ℤ c.args.last.now.epoch = c.requires.later in
    let p = c.last.invariant.epoch_in_range in
    let q = c.first.invariant.epoch_in_range in
    let t = c.requires.tol in
    let r = c.offset-moved.ensures.range in
    let ticks : to_z w64 (of_z w64 (to_z w64 (of_z w64 c.last.inside.epoch) -ℤ to_z w64 (of_z w64 c.first.inside.epoch))) ≡ c.args.last.now.epoch -ℤ c.args.first.now.epoch = omega (arith, ints) in
    let down : to_z w64 (of_z w64 (to_z w64 (of_z w64 (to_z w64 (of_z w64 c.offset-moved.result) -ℤ to_z w64 (of_z w64 (to_z w64 (of_z w64 c.args.tol) +ℤ to_z w64 (of_z w64 c.args.tol))))) *ℤ pos 1000000)) ≡ (c.offset-moved.result -ℤ (c.args.tol +ℤ c.args.tol)) *ℤ pos 1000000 = omega (arith, ints) in
    let up : to_z w64 (of_z w64 (to_z w64 (of_z w64 (to_z w64 (of_z w64 c.offset-moved.result) +ℤ to_z w64 (of_z w64 (to_z w64 (of_z w64 c.args.tol) +ℤ to_z w64 (of_z w64 c.args.tol))))) *ℤ pos 1000000)) ≡ (c.offset-moved.result +ℤ (c.args.tol +ℤ c.args.tol)) *ℤ pos 1000000 = omega (arith, ints) in
    let least_kept : to_z w64 (of_z w64 c.rounded_down.result) ≡ c.rounded_down.result = omega (arith, ints) in
    let greatest_kept : to_z w64 (of_z w64 c.rounded_up.result) ≡ c.rounded_up.result = omega (arith, ints) in
    let least : c.rounded_down.result ≡ least_rate c.args.axis c.args.tol c.args.first.now c.args.last.now = rw (down, ticks, c.offset-moved.ensures.value) at c.rounded_down.ensures in
    let greatest : c.rounded_up.result ≡ greatest_rate c.args.axis c.args.tol c.args.first.now c.args.last.now = rw (up, ticks, c.offset-moved.ensures.value) at c.rounded_up.ensures in
    let below : pos 0 <ℤ (c.args.last.now.epoch -ℤ c.args.first.now.epoch) = omega (arith, ints) in
    let low : IsBetween (neg_ℤ (pos 1000000000000000)) (pos 1000000000000000) ((c.offset-moved.result -ℤ (c.args.tol +ℤ c.args.tol)) *ℤ pos 1000000) = record { from = omega (arith, ints); to = omega (arith, ints) } in
    let high : IsBetween (neg_ℤ (pos 1000000000000000)) (pos 1000000000000000) ((c.offset-moved.result +ℤ (c.args.tol +ℤ c.args.tol)) *ℤ pos 1000000) = record { from = omega (arith, ints); to = omega (arith, ints) } in
    record {
      least = rw (least_kept, rw (down, ticks) at c.rounded_down.ensures) (usual_floor ((c.offset-moved.result -ℤ (c.args.tol +ℤ c.args.tol)) *ℤ pos 1000000) (c.args.last.now.epoch -ℤ c.args.first.now.epoch) below low);
      greatest = rw (greatest_kept, rw (up, ticks) at c.rounded_up.ensures) (usual_ceiling ((c.offset-moved.result +ℤ (c.args.tol +ℤ c.args.tol)) *ℤ pos 1000000) (c.args.last.now.epoch -ℤ c.args.first.now.epoch) below high);
    }
