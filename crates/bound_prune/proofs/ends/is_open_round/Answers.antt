use Rattle.std.proofs.Common.{◌≡◌, ◌↔◌, ◌∙◌, IsTrue, pos, neg_ℤ, ◌+ℤ◌, ◌-ℤ◌, ap, sym, subst, to_z, of_z, w64, arith}
use Rattle.std.proofs.lemmas.Bool.{false≢true}
use Rattle.std.proofs.lemmas.Int.{ints}
use Rattle.sky_units.specs.SettingsData.{SettingsData}
use Rattle.sky_units.specs.declared.axis.Axis.TheVariants.{Ra}
use Rattle.bound_prune.specs.Bounds.{Reaches}
use Rattle.bound_prune.specs.EndsData.{AreInRange, EndsData}
use Rattle.bound_prune.specs.Times.{IsTravel}
use mathlib.Core.Logic.{◌⊎◌}
use Rattle.sky_math.specs.Circle.{full_turn}
use Rattle.bound_prune.proofs.Travels.{ra_open}
use Rattle.bound_prune.proofs.ends.is_open_round.Goals as goal

pub returns-then-not-is_either_reached : goal.returns-then-not-is_either_reached
returns-then-not-is_either_reached c =
    let p : AreInRange c.args.a.now = subst AreInRange c.a.view_is c.a.invariant in
    let q : AreInRange c.args.b.now = subst AreInRange c.b.view_is c.b.invariant in
    let pd = p.ra in
    let qd = q.ra in
    let a_is : c.a.inside.ra ≡ c.args.a.now.ra = ap (λ (e : EndsData). e.ra) c.a.view_is in
    let b_is : c.b.inside.ra ≡ c.args.b.now.ra = ap (λ (e : EndsData). e.ra) c.b.view_is in
    let a_rates : c.a.inside.ra_rates ≡ c.args.a.now.ra_rates = ap (λ (e : EndsData). e.ra_rates) c.a.view_is in
    let b_rates : c.b.inside.ra_rates ≡ c.args.b.now.ra_rates = ap (λ (e : EndsData). e.ra_rates) c.b.view_is in
    let t = c.settings.invariant.tol_ra_in_range in
    let tol : to_z w64 (of_z w64 c.settings.inside.tol_ra) ≡ c.settings.inside.tol_ra = omega (arith, ints) in
    let tol_is : c.settings.inside.tol_ra ≡ c.args.settings.now.tol_ra = ap (λ (s : SettingsData). s.tol_ra) c.settings.view_is in
    let there : to_z w64 (of_z w64 (to_z w64 (of_z w64 c.b.inside.ra) -ℤ to_z w64 (of_z w64 c.a.inside.ra))) ≡ c.args.b.now.ra -ℤ c.args.a.now.ra = omega (arith, ints) in
    let ways : IsTravel Ra c.args.settings.now c.args.a.now.ra_rates c.args.b.now.ra_rates c.args.times.now c.farthest_ways-ways.result = rw (a_rates, b_rates) at c.farthest_ways-ways.ensures in
    let told = ra_open c.args.settings.now c.args.a.now c.args.b.now c.args.times.now c.farthest_ways-ways.result p q c.requires ways in
    let short : to_z w64 (of_z w64 (pos 360000000 -ℤ (c.args.b.now.ra -ℤ c.args.a.now.ra))) ≡ full_turn -ℤ (c.args.b.now.ra -ℤ c.args.a.now.ra) = omega (arith, ints) in
    let first : IsTrue c.is_either_reached.result ↔ (Reaches c.args.settings.now.tol_ra (c.args.b.now.ra -ℤ c.args.a.now.ra) c.farthest_ways-ways.result.ahead ⊎ Reaches c.args.settings.now.tol_ra (full_turn -ℤ (c.args.b.now.ra -ℤ c.args.a.now.ra)) c.farthest_ways-ways.result.back) = rw (there, short, tol, tol_is) at c.is_either_reached.ensures in
    (λ t. absurd (false≢true t), λ h. absurd (false≢true (sym c.if-not-is_either_reached.true ∙ first.1 (told.1 h).0)))

pub returns : goal.returns
returns c =
    let p : AreInRange c.args.a.now = subst AreInRange c.a.view_is c.a.invariant in
    let q : AreInRange c.args.b.now = subst AreInRange c.b.view_is c.b.invariant in
    let pd = p.ra in
    let qd = q.ra in
    let a_is : c.a.inside.ra ≡ c.args.a.now.ra = ap (λ (e : EndsData). e.ra) c.a.view_is in
    let b_is : c.b.inside.ra ≡ c.args.b.now.ra = ap (λ (e : EndsData). e.ra) c.b.view_is in
    let a_rates : c.a.inside.ra_rates ≡ c.args.a.now.ra_rates = ap (λ (e : EndsData). e.ra_rates) c.a.view_is in
    let b_rates : c.b.inside.ra_rates ≡ c.args.b.now.ra_rates = ap (λ (e : EndsData). e.ra_rates) c.b.view_is in
    let t = c.settings.invariant.tol_ra_in_range in
    let tol : to_z w64 (of_z w64 c.settings.inside.tol_ra) ≡ c.settings.inside.tol_ra = omega (arith, ints) in
    let tol_is : c.settings.inside.tol_ra ≡ c.args.settings.now.tol_ra = ap (λ (s : SettingsData). s.tol_ra) c.settings.view_is in
    let there : to_z w64 (of_z w64 (to_z w64 (of_z w64 c.b.inside.ra) -ℤ to_z w64 (of_z w64 c.a.inside.ra))) ≡ c.args.b.now.ra -ℤ c.args.a.now.ra = omega (arith, ints) in
    let ways : IsTravel Ra c.args.settings.now c.args.a.now.ra_rates c.args.b.now.ra_rates c.args.times.now c.farthest_ways-ways.result = rw (a_rates, b_rates) at c.farthest_ways-ways.ensures in
    let told = ra_open c.args.settings.now c.args.a.now c.args.b.now c.args.times.now c.farthest_ways-ways.result p q c.requires ways in
    let short : to_z w64 (of_z w64 (pos 360000000 -ℤ (c.args.b.now.ra -ℤ c.args.a.now.ra))) ≡ full_turn -ℤ (c.args.b.now.ra -ℤ c.args.a.now.ra) = omega (arith, ints) in
    let first : IsTrue c.is_either_reached.result ↔ (Reaches c.args.settings.now.tol_ra (c.args.b.now.ra -ℤ c.args.a.now.ra) c.farthest_ways-ways.result.ahead ⊎ Reaches c.args.settings.now.tol_ra (full_turn -ℤ (c.args.b.now.ra -ℤ c.args.a.now.ra)) c.farthest_ways-ways.result.back) = rw (there, short, tol, tol_is) at c.is_either_reached.ensures in
    let long : to_z w64 (of_z w64 (pos 360000000 +ℤ (c.args.b.now.ra -ℤ c.args.a.now.ra))) ≡ full_turn +ℤ (c.args.b.now.ra -ℤ c.args.a.now.ra) = omega (arith, ints) in
    let turned : to_z w64 (of_z w64 (pos 0 -ℤ (c.args.b.now.ra -ℤ c.args.a.now.ra))) ≡ neg_ℤ (c.args.b.now.ra -ℤ c.args.a.now.ra) = omega (arith, ints) in
    let second : IsTrue c.is_either_reached-2.result ↔ (Reaches c.args.settings.now.tol_ra (full_turn +ℤ (c.args.b.now.ra -ℤ c.args.a.now.ra)) c.farthest_ways-ways.result.ahead ⊎ Reaches c.args.settings.now.tol_ra (neg_ℤ (c.args.b.now.ra -ℤ c.args.a.now.ra)) c.farthest_ways-ways.result.back) = rw (there, long, turned, tol, tol_is) at c.is_either_reached-2.ensures in
    let here : IsTrue c.is_either_reached.result = c.if-not-is_either_reached.false in
    (λ t. told.0 (first.0 here, second.0 t), λ h. second.1 (told.1 h).1)
