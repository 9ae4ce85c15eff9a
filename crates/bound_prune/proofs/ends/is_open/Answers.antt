use Rattle.std.proofs.Common.{◌≡◌, ◌↔◌, ◌∙◌, IsTrue, pos, neg_ℤ, ◌-ℤ◌, ap, sym, subst, to_z, of_z, w64, arith}
use Rattle.std.proofs.lemmas.Bool.{false≢true}
use Rattle.std.proofs.lemmas.Int.{ints}
use Rattle.std.specs.Int.{w128}
use Rattle.sky_units.specs.SettingsData.{SettingsData}
use Rattle.sky_units.specs.declared.axis.Axis.TheVariants.{Dec}
use Rattle.bound_prune.specs.Bounds.{Reaches}
use Rattle.bound_prune.specs.EndsData.{AreInRange, EndsData}
use Rattle.bound_prune.specs.Times.{IsTravel}
use Rattle.bound_prune.proofs.Travels.{dec_open}
use Rattle.bound_prune.proofs.ends.is_open.Goals as goal

pub returns-then-not-is_reached : goal.returns-then-not-is_reached
returns-then-not-is_reached c =
    let p : AreInRange c.args.a.now = subst AreInRange c.a.view_is c.a.invariant in
    let q : AreInRange c.args.b.now = subst AreInRange c.b.view_is c.b.invariant in
    let pd = p.dec in
    let qd = q.dec in
    let a_is : c.a.inside.dec ≡ c.args.a.now.dec = ap (λ (e : EndsData). e.dec) c.a.view_is in
    let b_is : c.b.inside.dec ≡ c.args.b.now.dec = ap (λ (e : EndsData). e.dec) c.b.view_is in
    let a_rates : c.a.inside.dec_rates ≡ c.args.a.now.dec_rates = ap (λ (e : EndsData). e.dec_rates) c.a.view_is in
    let b_rates : c.b.inside.dec_rates ≡ c.args.b.now.dec_rates = ap (λ (e : EndsData). e.dec_rates) c.b.view_is in
    let t = c.settings.invariant.tol_dec_in_range in
    let tol : to_z w64 (of_z w64 c.settings.inside.tol_dec) ≡ c.settings.inside.tol_dec = omega (arith, ints) in
    let tol_is : c.settings.inside.tol_dec ≡ c.args.settings.now.tol_dec = ap (λ (s : SettingsData). s.tol_dec) c.settings.view_is in
    let there : to_z w64 (of_z w64 (to_z w64 (of_z w64 c.b.inside.dec) -ℤ to_z w64 (of_z w64 c.a.inside.dec))) ≡ c.args.b.now.dec -ℤ c.args.a.now.dec = omega (arith, ints) in
    let ways : IsTravel Dec c.args.settings.now c.args.a.now.dec_rates c.args.b.now.dec_rates c.args.times.now c.farthest_ways-ways.result = rw (a_rates, b_rates) at c.farthest_ways-ways.ensures in
    let ahead : to_z w128 (of_z w128 c.farthest_ways-ways.result.ahead) ≡ c.farthest_ways-ways.result.ahead = omega (arith, ints) in
    let back : to_z w128 (of_z w128 c.farthest_ways-ways.result.back) ≡ c.farthest_ways-ways.result.back = omega (arith, ints) in
    let told = dec_open c.args.settings.now c.args.a.now c.args.b.now c.args.times.now c.farthest_ways-ways.result p q c.requires ways in
    let first : IsTrue c.is_reached.result ↔ Reaches c.args.settings.now.tol_dec (c.args.b.now.dec -ℤ c.args.a.now.dec) c.farthest_ways-ways.result.ahead = rw (there, tol, tol_is, ahead) at c.is_reached.ensures in
    (λ t. absurd (false≢true t), λ h. absurd (false≢true (sym c.if-not-is_reached.true ∙ first.1 (told.1 h).0)))

pub returns : goal.returns
returns c =
    let p : AreInRange c.args.a.now = subst AreInRange c.a.view_is c.a.invariant in
    let q : AreInRange c.args.b.now = subst AreInRange c.b.view_is c.b.invariant in
    let pd = p.dec in
    let qd = q.dec in
    let a_is : c.a.inside.dec ≡ c.args.a.now.dec = ap (λ (e : EndsData). e.dec) c.a.view_is in
    let b_is : c.b.inside.dec ≡ c.args.b.now.dec = ap (λ (e : EndsData). e.dec) c.b.view_is in
    let a_rates : c.a.inside.dec_rates ≡ c.args.a.now.dec_rates = ap (λ (e : EndsData). e.dec_rates) c.a.view_is in
    let b_rates : c.b.inside.dec_rates ≡ c.args.b.now.dec_rates = ap (λ (e : EndsData). e.dec_rates) c.b.view_is in
    let t = c.settings.invariant.tol_dec_in_range in
    let tol : to_z w64 (of_z w64 c.settings.inside.tol_dec) ≡ c.settings.inside.tol_dec = omega (arith, ints) in
    let tol_is : c.settings.inside.tol_dec ≡ c.args.settings.now.tol_dec = ap (λ (s : SettingsData). s.tol_dec) c.settings.view_is in
    let there : to_z w64 (of_z w64 (to_z w64 (of_z w64 c.b.inside.dec) -ℤ to_z w64 (of_z w64 c.a.inside.dec))) ≡ c.args.b.now.dec -ℤ c.args.a.now.dec = omega (arith, ints) in
    let ways : IsTravel Dec c.args.settings.now c.args.a.now.dec_rates c.args.b.now.dec_rates c.args.times.now c.farthest_ways-ways.result = rw (a_rates, b_rates) at c.farthest_ways-ways.ensures in
    let ahead : to_z w128 (of_z w128 c.farthest_ways-ways.result.ahead) ≡ c.farthest_ways-ways.result.ahead = omega (arith, ints) in
    let back : to_z w128 (of_z w128 c.farthest_ways-ways.result.back) ≡ c.farthest_ways-ways.result.back = omega (arith, ints) in
    let told = dec_open c.args.settings.now c.args.a.now c.args.b.now c.args.times.now c.farthest_ways-ways.result p q c.requires ways in
    let first : IsTrue c.is_reached.result ↔ Reaches c.args.settings.now.tol_dec (c.args.b.now.dec -ℤ c.args.a.now.dec) c.farthest_ways-ways.result.ahead = rw (there, tol, tol_is, ahead) at c.is_reached.ensures in
    let turned : to_z w64 (of_z w64 (pos 0 -ℤ (c.args.b.now.dec -ℤ c.args.a.now.dec))) ≡ neg_ℤ (c.args.b.now.dec -ℤ c.args.a.now.dec) = omega (arith, ints) in
    let second : IsTrue c.is_reached-2.result ↔ Reaches c.args.settings.now.tol_dec (neg_ℤ (c.args.b.now.dec -ℤ c.args.a.now.dec)) c.farthest_ways-ways.result.back = rw (there, turned, tol, tol_is, back) at c.is_reached-2.ensures in
    let here : IsTrue c.is_reached.result = c.if-not-is_reached.false in
    (λ t. told.0 (first.0 here, second.0 t), λ h. second.1 (told.1 h).1)
