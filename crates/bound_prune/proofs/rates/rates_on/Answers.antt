use Rattle.std.proofs.Common.{◌≡◌, pos, SFits, get_or, to_z, of_z, rules, w64, refl}
use Rattle.std.proofs.lemmas.Int.{to_z-of_z}
use Rattle.bound_prune.proofs.rates.rates_on.Goals as goal

pub returns : goal.returns
returns c =
    let low : SFits w64 (get_or c.args.a.now.low c.rate_axis-rate.result (pos 0)) = search rules in
    let high : SFits w64 (get_or c.args.a.now.high c.rate_axis-rate.result (pos 0)) = search rules in
    let low_kept : to_z w64 (of_z w64 (get_or c.args.a.now.low c.rate_axis-rate.result (pos 0))) ≡ get_or c.args.a.now.low c.rate_axis-rate.result (pos 0) = to_z-of_z w64 _ low in
    let high_kept : to_z w64 (of_z w64 (get_or c.args.a.now.high c.rate_axis-rate.result (pos 0))) ≡ get_or c.args.a.now.high c.rate_axis-rate.result (pos 0) = to_z-of_z w64 _ high in
    rw (low_kept, high_kept, c.rate_axis-rate.ensures.value) refl
