use Rattle.std.proofs.Common.{◌≡◌, to_z, of_z, w64, arith, ap}
use Rattle.std.proofs.lemmas.Int.{ints}
use Rattle.sky_units.specs.SettingsData.{SettingsData}
use Rattle.pair_finder.specs.Pruning.{most_ticks, reach}
use Rattle.pair_finder.proofs.Choices.{far_in_dec, in_dec, in_gap, in_ra, left_to_ra, past_the_gap}
use Rattle.pair_finder.proofs.nearness.may_hold_pair.Goals as goal

pub returns-then-not-is_at_most : goal.returns-then-not-is_at_most
returns-then-not-is_at_most c =
    let gap : c.settings.inside.pair_gap ≡ c.args.settings.now.pair_gap = ap (λ (s : SettingsData). s.pair_gap) c.settings.view_is in
    let plain : to_z w64 (of_z w64 c.settings.inside.pair_gap) ≡ c.settings.inside.pair_gap = omega (arith, ints) in
    let second : c.is_at_most.result ≡ in_gap c.args.settings.now c.args.a.now c.args.b.now = rw (plain, gap) at c.is_at_most.ensures in
    past_the_gap c.args.settings.now c.args.a.now c.args.b.now (cc)

pub returns-then-not-comes_near : goal.returns-then-not-comes_near
returns-then-not-comes_near c =
    let dec_rate : c.settings.inside.rate_dec ≡ c.args.settings.now.rate_dec = ap (λ (s : SettingsData). s.rate_dec) c.settings.view_is in
    let dec_plain : to_z w64 (of_z w64 c.settings.inside.rate_dec) ≡ c.settings.inside.rate_dec = omega (arith, ints) in
    let ticks : to_z w64 (of_z w64 c.most_ticks-ticks.result) ≡ c.most_ticks-ticks.result = omega (arith, ints) in
    let dec_reach : to_z w64 (of_z w64 c.reach.result) ≡ c.reach.result = omega (arith, ints) in
    let dec_is : c.reach.result ≡ reach c.args.settings.now.rate_dec (most_ticks c.args.settings.now c.args.a.now c.args.b.now) = rw (dec_plain, dec_rate, ticks, c.most_ticks-ticks.ensures.value) at c.reach.ensures.value in
    let third : c.comes_near.result ≡ in_dec c.args.settings.now c.args.a.now c.args.b.now = rw (dec_reach, dec_is) at c.comes_near.ensures in
    far_in_dec c.args.settings.now c.args.a.now c.args.b.now (cc)

pub returns : goal.returns
returns c =
    let gap : c.settings.inside.pair_gap ≡ c.args.settings.now.pair_gap = ap (λ (s : SettingsData). s.pair_gap) c.settings.view_is in
    let plain : to_z w64 (of_z w64 c.settings.inside.pair_gap) ≡ c.settings.inside.pair_gap = omega (arith, ints) in
    let second : c.is_at_most.result ≡ in_gap c.args.settings.now c.args.a.now c.args.b.now = rw (plain, gap) at c.is_at_most.ensures in
    let dec_rate : c.settings.inside.rate_dec ≡ c.args.settings.now.rate_dec = ap (λ (s : SettingsData). s.rate_dec) c.settings.view_is in
    let dec_plain : to_z w64 (of_z w64 c.settings.inside.rate_dec) ≡ c.settings.inside.rate_dec = omega (arith, ints) in
    let ticks : to_z w64 (of_z w64 c.most_ticks-ticks.result) ≡ c.most_ticks-ticks.result = omega (arith, ints) in
    let dec_reach : to_z w64 (of_z w64 c.reach.result) ≡ c.reach.result = omega (arith, ints) in
    let dec_is : c.reach.result ≡ reach c.args.settings.now.rate_dec (most_ticks c.args.settings.now c.args.a.now c.args.b.now) = rw (dec_plain, dec_rate, ticks, c.most_ticks-ticks.ensures.value) at c.reach.ensures.value in
    let third : c.comes_near.result ≡ in_dec c.args.settings.now c.args.a.now c.args.b.now = rw (dec_reach, dec_is) at c.comes_near.ensures in
    let ra_rate : c.settings.inside.rate_ra ≡ c.args.settings.now.rate_ra = ap (λ (s : SettingsData). s.rate_ra) c.settings.view_is in
    let ra_plain : to_z w64 (of_z w64 c.settings.inside.rate_ra) ≡ c.settings.inside.rate_ra = omega (arith, ints) in
    let ra_reach : to_z w64 (of_z w64 c.reach-2.result) ≡ c.reach-2.result = omega (arith, ints) in
    let ra_is : c.reach-2.result ≡ reach c.args.settings.now.rate_ra (most_ticks c.args.settings.now c.args.a.now c.args.b.now) = rw (ra_plain, ra_rate, ticks, c.most_ticks-ticks.ensures.value) at c.reach-2.ensures.value in
    let fourth : c.comes_near_round.result ≡ in_ra c.args.settings.now c.args.a.now c.args.b.now = rw (ra_reach, ra_is) at c.comes_near_round.ensures in
    rw fourth (left_to_ra c.args.settings.now c.args.a.now c.args.b.now (cc) (cc) (cc))
