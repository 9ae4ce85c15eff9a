use Rattle.std.proofs.Common.{◌≡◌, ℤ, pos, neg_ℤ, ◌+ℤ◌, ◌-ℤ◌, ◌*ℤ◌, Bool, true, false, ◌&&◌, to_z, of_z, w64, refl, sym, subst, ap, ◌∙◌, arith}
use Rattle.std.proofs.lemmas.Int.{ints}
use Rattle.std.specs.Int.Signed.{le_z, lt_z}
use Rattle.sky_units.proofs.EpochOrder.{test_of_lt}
use Rattle.sky_units.specs.Motion.{offset}
use Rattle.sky_units.specs.SettingsData.{SettingsData}
use Rattle.sky_units.specs.SpotData.{SpotData}
use Rattle.sky_units.specs.declared.axis.Axis.TheVariants.{Ra, Dec}
use Rattle.collapse.specs.Reach.{is_in_reach}
use Rattle.collapse.proofs.reaching.are_in_reach.Goals as goal

not_second : (a b c : Bool) → b ≡ false → false ≡ (a && b && c)
not_second true b c e = rw e refl
not_second false b c e = refl

the_third : (a b c : Bool) → a ≡ true → b ≡ true → c ≡ (a && b && c)
the_third a b c p q = rw (p, q) refl

-- a test by a reach that is what the rate and the tolerance allow
test_is : (tol rate ticks moved reach : ℤ) (r : Bool) → reach ≡ (rate *ℤ ticks) +ℤ ((tol +ℤ tol) *ℤ pos 1000000) → r ≡ (le_z (neg_ℤ reach) (moved *ℤ pos 1000000) && le_z (moved *ℤ pos 1000000) reach) → r ≡ is_in_reach tol rate ticks moved
test_is tol rate ticks moved reach r e t = subst (λ (z : ℤ). r ≡ (le_z (neg_ℤ z) (moved *ℤ pos 1000000) && le_z (moved *ℤ pos 1000000) z)) e t

-- the test of declination, as the definition has it
pub returns-then-not-is_in_reach : goal.returns-then-not-is_in_reach
returns-then-not-is_in_reach c =
    let to : c.to.inside.epoch ≡ c.args.to.now.epoch = ap (λ (s : SpotData). s.epoch) c.to.view_is in
    let from : c.from.inside.epoch ≡ c.args.from.now.epoch = ap (λ (s : SpotData). s.epoch) c.from.view_is in
    let ticks : to_z w64 (of_z w64 (to_z w64 (of_z w64 c.to.inside.epoch) -ℤ to_z w64 (of_z w64 c.from.inside.epoch))) ≡ c.args.to.now.epoch -ℤ c.args.from.now.epoch = omega (arith, ints, to, from) in
    let set : c.settings.inside.rate_dec ≡ c.args.settings.now.rate_dec = ap (λ (s : SettingsData). s.rate_dec) c.settings.view_is in
    let set2 : c.settings.inside.line_tol ≡ c.args.settings.now.line_tol = ap (λ (s : SettingsData). s.line_tol) c.settings.view_is in
    let rate : to_z w64 (of_z w64 c.settings.inside.rate_dec) ≡ c.args.settings.now.rate_dec = omega (arith, ints, set) in
    let tol : to_z w64 (of_z w64 c.settings.inside.line_tol) ≡ c.args.settings.now.line_tol = omega (arith, ints, set2) in
    let value : c.reach.result ≡ (c.args.settings.now.rate_dec *ℤ (c.args.to.now.epoch -ℤ c.args.from.now.epoch)) +ℤ ((c.args.settings.now.line_tol +ℤ c.args.settings.now.line_tol) *ℤ pos 1000000) = rw (rate, ticks, tol) at c.reach.ensures.value in
    let size = c.reach.ensures.size in
    let held : to_z w64 (of_z w64 c.reach.result) ≡ c.reach.result = omega (arith, ints, size) in
    let told : c.is_in_reach.result ≡ (le_z (neg_ℤ c.reach.result) (offset Dec c.args.from.now c.args.to.now *ℤ pos 1000000) && le_z (offset Dec c.args.from.now c.args.to.now *ℤ pos 1000000) c.reach.result) = rw held at c.is_in_reach.ensures in
    let test : c.is_in_reach.result ≡ is_in_reach c.args.settings.now.line_tol c.args.settings.now.rate_dec (c.args.to.now.epoch -ℤ c.args.from.now.epoch) (offset Dec c.args.from.now c.args.to.now) = test_is c.args.settings.now.line_tol c.args.settings.now.rate_dec (c.args.to.now.epoch -ℤ c.args.from.now.epoch) (offset Dec c.args.from.now c.args.to.now) c.reach.result c.is_in_reach.result value told in
    not_second (lt_z c.args.from.now.epoch c.args.to.now.epoch) _ (is_in_reach c.args.settings.now.line_tol c.args.settings.now.rate_ra (c.args.to.now.epoch -ℤ c.args.from.now.epoch) (offset Ra c.args.from.now c.args.to.now)) (sym test ∙ c.if-not-is_in_reach.true)

pub reach-requires-2-clause-ticks : goal.reach-requires-2-clause-ticks
reach-requires-2-clause-ticks c =
    let to : c.to.inside.epoch ≡ c.args.to.now.epoch = ap (λ (s : SpotData). s.epoch) c.to.view_is in
    let from : c.from.inside.epoch ≡ c.args.from.now.epoch = ap (λ (s : SpotData). s.epoch) c.from.view_is in
    let ticks : to_z w64 (of_z w64 (to_z w64 (of_z w64 c.to.inside.epoch) -ℤ to_z w64 (of_z w64 c.from.inside.epoch))) ≡ c.args.to.now.epoch -ℤ c.args.from.now.epoch = omega (arith, ints, to, from) in
    let day = c.requires in
    rw ticks (record { from = omega (arith, ints, to, from, c.if-to-from.false); to = omega (arith, ints, day) })

pub returns : goal.returns
returns c =
    let to : c.to.inside.epoch ≡ c.args.to.now.epoch = ap (λ (s : SpotData). s.epoch) c.to.view_is in
    let from : c.from.inside.epoch ≡ c.args.from.now.epoch = ap (λ (s : SpotData). s.epoch) c.from.view_is in
    let ticks : to_z w64 (of_z w64 (to_z w64 (of_z w64 c.to.inside.epoch) -ℤ to_z w64 (of_z w64 c.from.inside.epoch))) ≡ c.args.to.now.epoch -ℤ c.args.from.now.epoch = omega (arith, ints, to, from) in
    let set : c.settings.inside.rate_dec ≡ c.args.settings.now.rate_dec = ap (λ (s : SettingsData). s.rate_dec) c.settings.view_is in
    let set2 : c.settings.inside.line_tol ≡ c.args.settings.now.line_tol = ap (λ (s : SettingsData). s.line_tol) c.settings.view_is in
    let rate : to_z w64 (of_z w64 c.settings.inside.rate_dec) ≡ c.args.settings.now.rate_dec = omega (arith, ints, set) in
    let tol : to_z w64 (of_z w64 c.settings.inside.line_tol) ≡ c.args.settings.now.line_tol = omega (arith, ints, set2) in
    let value : c.reach.result ≡ (c.args.settings.now.rate_dec *ℤ (c.args.to.now.epoch -ℤ c.args.from.now.epoch)) +ℤ ((c.args.settings.now.line_tol +ℤ c.args.settings.now.line_tol) *ℤ pos 1000000) = rw (rate, ticks, tol) at c.reach.ensures.value in
    let size = c.reach.ensures.size in
    let held : to_z w64 (of_z w64 c.reach.result) ≡ c.reach.result = omega (arith, ints, size) in
    let told : c.is_in_reach.result ≡ (le_z (neg_ℤ c.reach.result) (offset Dec c.args.from.now c.args.to.now *ℤ pos 1000000) && le_z (offset Dec c.args.from.now c.args.to.now *ℤ pos 1000000) c.reach.result) = rw held at c.is_in_reach.ensures in
    let first : c.is_in_reach.result ≡ is_in_reach c.args.settings.now.line_tol c.args.settings.now.rate_dec (c.args.to.now.epoch -ℤ c.args.from.now.epoch) (offset Dec c.args.from.now c.args.to.now) = test_is c.args.settings.now.line_tol c.args.settings.now.rate_dec (c.args.to.now.epoch -ℤ c.args.from.now.epoch) (offset Dec c.args.from.now c.args.to.now) c.reach.result c.is_in_reach.result value told in
    let to : c.to.inside.epoch ≡ c.args.to.now.epoch = ap (λ (s : SpotData). s.epoch) c.to.view_is in
    let from : c.from.inside.epoch ≡ c.args.from.now.epoch = ap (λ (s : SpotData). s.epoch) c.from.view_is in
    let ticks : to_z w64 (of_z w64 (to_z w64 (of_z w64 c.to.inside.epoch) -ℤ to_z w64 (of_z w64 c.from.inside.epoch))) ≡ c.args.to.now.epoch -ℤ c.args.from.now.epoch = omega (arith, ints, to, from) in
    let set : c.settings.inside.rate_ra ≡ c.args.settings.now.rate_ra = ap (λ (s : SettingsData). s.rate_ra) c.settings.view_is in
    let set2 : c.settings.inside.line_tol ≡ c.args.settings.now.line_tol = ap (λ (s : SettingsData). s.line_tol) c.settings.view_is in
    let rate : to_z w64 (of_z w64 c.settings.inside.rate_ra) ≡ c.args.settings.now.rate_ra = omega (arith, ints, set) in
    let tol : to_z w64 (of_z w64 c.settings.inside.line_tol) ≡ c.args.settings.now.line_tol = omega (arith, ints, set2) in
    let value : c.reach-2.result ≡ (c.args.settings.now.rate_ra *ℤ (c.args.to.now.epoch -ℤ c.args.from.now.epoch)) +ℤ ((c.args.settings.now.line_tol +ℤ c.args.settings.now.line_tol) *ℤ pos 1000000) = rw (rate, ticks, tol) at c.reach-2.ensures.value in
    let size = c.reach-2.ensures.size in
    let held : to_z w64 (of_z w64 c.reach-2.result) ≡ c.reach-2.result = omega (arith, ints, size) in
    let told : c.is_in_reach-2.result ≡ (le_z (neg_ℤ c.reach-2.result) (offset Ra c.args.from.now c.args.to.now *ℤ pos 1000000) && le_z (offset Ra c.args.from.now c.args.to.now *ℤ pos 1000000) c.reach-2.result) = rw held at c.is_in_reach-2.ensures in
    let test : c.is_in_reach-2.result ≡ is_in_reach c.args.settings.now.line_tol c.args.settings.now.rate_ra (c.args.to.now.epoch -ℤ c.args.from.now.epoch) (offset Ra c.args.from.now c.args.to.now) = test_is c.args.settings.now.line_tol c.args.settings.now.rate_ra (c.args.to.now.epoch -ℤ c.args.from.now.epoch) (offset Ra c.args.from.now c.args.to.now) c.reach-2.result c.is_in_reach-2.result value told in
    let later : lt_z c.args.from.now.epoch c.args.to.now.epoch ≡ true = test_of_lt c.args.from.now.epoch c.args.to.now.epoch (omega (arith, ints, to, from, c.if-to-from.false)) in
    test ∙ the_third (lt_z c.args.from.now.epoch c.args.to.now.epoch) _ _ later (sym first ∙ c.if-not-is_in_reach.false)
