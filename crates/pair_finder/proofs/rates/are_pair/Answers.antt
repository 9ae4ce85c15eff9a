use Rattle.std.proofs.Common.{◌≡◌, ℤ, ◌-ℤ◌, Bool, true, false, to_z, of_z, w64, arith}
use Rattle.std.proofs.lemmas.Int.{ints}
use Rattle.std.specs.Int.Signed.{le_z, lt_z}
use Rattle.sky_math.specs.Circle.{wrapped}
use Rattle.sky_units.specs.SpotData.{SpotData}
use Rattle.sky_units.specs.SettingsData.{SettingsData}
use Rattle.sky_units.specs.Pairs.{are_pair, keeps_rate}
use Rattle.pair_finder.proofs.Choices.{not_second, not_third, the_fourth}
use Rattle.pair_finder.proofs.rates.are_pair.Goals as goal

-- the tests of two spots, one after another
too_late : (s : SettingsData) (a b : SpotData) → le_z (b.epoch -ℤ a.epoch) s.pair_gap ≡ false → false ≡ are_pair s a b
too_late s a b e = not_second (lt_z a.epoch b.epoch) (le_z (b.epoch -ℤ a.epoch) s.pair_gap) (keeps_rate s.rate_ra (b.epoch -ℤ a.epoch) (wrapped (b.ra -ℤ a.ra))) (keeps_rate s.rate_dec (b.epoch -ℤ a.epoch) (b.dec -ℤ a.dec)) e

too_far : (s : SettingsData) (a b : SpotData) → keeps_rate s.rate_ra (b.epoch -ℤ a.epoch) (wrapped (b.ra -ℤ a.ra)) ≡ false → false ≡ are_pair s a b
too_far s a b e = not_third (lt_z a.epoch b.epoch) (le_z (b.epoch -ℤ a.epoch) s.pair_gap) (keeps_rate s.rate_ra (b.epoch -ℤ a.epoch) (wrapped (b.ra -ℤ a.ra))) (keeps_rate s.rate_dec (b.epoch -ℤ a.epoch) (b.dec -ℤ a.dec)) e

in_dec : (s : SettingsData) (a b : SpotData) (r : Bool) → lt_z a.epoch b.epoch ≡ true → le_z (b.epoch -ℤ a.epoch) s.pair_gap ≡ true → keeps_rate s.rate_ra (b.epoch -ℤ a.epoch) (wrapped (b.ra -ℤ a.ra)) ≡ true → r ≡ keeps_rate s.rate_dec (b.epoch -ℤ a.epoch) (b.dec -ℤ a.dec) → r ≡ are_pair s a b
in_dec s a b r e1 e2 e3 e4 = rw e4 (the_fourth (lt_z a.epoch b.epoch) (le_z (b.epoch -ℤ a.epoch) s.pair_gap) (keeps_rate s.rate_ra (b.epoch -ℤ a.epoch) (wrapped (b.ra -ℤ a.ra))) (keeps_rate s.rate_dec (b.epoch -ℤ a.epoch) (b.dec -ℤ a.dec)) e1 e2 e3)

later : (a b : ℤ) → le_z b a ≡ false → lt_z a b ≡ true
later a b h = grind (arith, ints)

within : (a b : ℤ) → lt_z a b ≡ false → le_z b a ≡ true
within a b h = grind (arith, ints)

pub returns-then-ticks-settings : goal.returns-then-ticks-settings
returns-then-ticks-settings c =
    too_late c.args.settings.now c.args.first.now c.args.second.now (grind (arith, ints))

pub returns-then-not-keeps_rate : goal.returns-then-not-keeps_rate
returns-then-not-keeps_rate c =
    let ticks : to_z w64 (of_z w64 (to_z w64 (of_z w64 c.second.inside.epoch) -ℤ to_z w64 (of_z w64 c.first.inside.epoch))) ≡ c.second.inside.epoch -ℤ c.first.inside.epoch = omega (arith, ints) in
    let ra : to_z w64 (of_z w64 (to_z w64 (of_z w64 c.second.inside.ra) -ℤ to_z w64 (of_z w64 c.first.inside.ra))) ≡ c.second.inside.ra -ℤ c.first.inside.ra = omega (arith, ints) in
    let rate : to_z w64 (of_z w64 c.settings.inside.rate_ra) ≡ c.settings.inside.rate_ra = omega (arith, ints) in
    let turn : to_z w64 (of_z w64 c.wrap.result) ≡ c.wrap.result = omega (arith, ints) in
    too_far c.args.settings.now c.args.first.now c.args.second.now (cc)

pub keeps_rate-requires-2-clause-difference : goal.keeps_rate-requires-2-clause-difference
keeps_rate-requires-2-clause-difference c = record { from = omega (arith, ints); to = omega (arith, ints) }

pub returns : goal.returns
returns c =
    let ticks : to_z w64 (of_z w64 (to_z w64 (of_z w64 c.second.inside.epoch) -ℤ to_z w64 (of_z w64 c.first.inside.epoch))) ≡ c.second.inside.epoch -ℤ c.first.inside.epoch = omega (arith, ints) in
    let ra : to_z w64 (of_z w64 (to_z w64 (of_z w64 c.second.inside.ra) -ℤ to_z w64 (of_z w64 c.first.inside.ra))) ≡ c.second.inside.ra -ℤ c.first.inside.ra = omega (arith, ints) in
    let first : to_z w64 (of_z w64 c.first.inside.epoch) ≡ c.first.inside.epoch = omega (arith, ints) in
    let second : to_z w64 (of_z w64 c.second.inside.epoch) ≡ c.second.inside.epoch = omega (arith, ints) in
    let gap : to_z w64 (of_z w64 c.settings.inside.pair_gap) ≡ c.settings.inside.pair_gap = omega (arith, ints) in
    let dec : to_z w64 (of_z w64 (to_z w64 (of_z w64 c.second.inside.dec) -ℤ to_z w64 (of_z w64 c.first.inside.dec))) ≡ c.second.inside.dec -ℤ c.first.inside.dec = omega (arith, ints) in
    let rate : to_z w64 (of_z w64 c.settings.inside.rate_ra) ≡ c.settings.inside.rate_ra = omega (arith, ints) in
    let rate2 : to_z w64 (of_z w64 c.settings.inside.rate_dec) ≡ c.settings.inside.rate_dec = omega (arith, ints) in
    let turn : to_z w64 (of_z w64 c.wrap.result) ≡ c.wrap.result = omega (arith, ints) in
    in_dec c.args.settings.now c.args.first.now c.args.second.now _ (later c.args.first.now.epoch c.args.second.now.epoch (cc)) (within c.args.settings.now.pair_gap (c.args.second.now.epoch -ℤ c.args.first.now.epoch) (cc)) (cc) (cc)
