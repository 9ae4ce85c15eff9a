use Rattle.std.proofs.Common.{◌≡◌, pos, to_z, of_z, SFits, w64, arith, rules, get_or, ap}
use Rattle.std.proofs.lemmas.Int.{ints, to_z-of_z}
use Rattle.std.specs.Int.{int_min, saturate_signed}
use Rattle.sky_units.specs.SettingsData.{SettingsData}
use Rattle.pair_finder.specs.Pruning.{greatest_difference, most_ticks}
use Rattle.pair_finder.proofs.Choices.{least_of_cut, least_within}
use Rattle.pair_finder.proofs.nearness.most_ticks.Goals as goal

pub returns : goal.returns
returns c =
    let a_low : SFits w64 (get_or c.args.a.now.low 0 (pos 0)) = search rules in
    let b_high : SFits w64 (get_or c.args.b.now.high 0 (pos 0)) = search rules in
    let gap : c.settings.inside.pair_gap ≡ c.args.settings.now.pair_gap = ap (λ (s : SettingsData). s.pair_gap) c.settings.view_is in
    let plain : to_z w64 (of_z w64 c.settings.inside.pair_gap) ≡ c.settings.inside.pair_gap = omega (arith, ints) in
    let result : to_z w64 (of_z w64 c.min.result) ≡ c.min.result = omega (arith, ints) in
    let cut : to_z w64 (of_z w64 c.saturating_sub-longest.result) ≡ c.saturating_sub-longest.result = omega (arith, ints) in
    let longest : c.saturating_sub-longest.result ≡ saturate_signed w64 (greatest_difference c.args.a.now c.args.b.now 0) = simp to_z-of_z at c.saturating_sub-longest.ensures in
    let least : c.min.result ≡ int_min (saturate_signed w64 (greatest_difference c.args.a.now c.args.b.now 0)) c.args.settings.now.pair_gap = rw (plain, gap, cut, longest) at c.min.ensures.value in
    let cut_is : int_min (saturate_signed w64 (greatest_difference c.args.a.now c.args.b.now 0)) c.args.settings.now.pair_gap ≡ most_ticks c.args.settings.now c.args.a.now c.args.b.now = least_of_cut (greatest_difference c.args.a.now c.args.b.now 0) c.args.settings.now.pair_gap c.requires (omega (arith, ints)) in
    record {
      value = rw (result, least) cut_is;
      range = rw (result, least, cut_is) (least_within (greatest_difference c.args.a.now c.args.b.now 0) c.args.settings.now.pair_gap c.requires (omega (arith, ints)) (omega (arith, ints)));
    }
