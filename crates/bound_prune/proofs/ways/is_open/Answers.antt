use Rattle.std.proofs.Common.{◌≡◌, ◌↔◌, ◌∙◌, IsTrue, pos, neg_ℤ, ◌-ℤ◌, ap, sym, to_z, of_z, w64, arith}
use Rattle.std.specs.Int.{w128}
use Rattle.std.proofs.lemmas.Bool.{false≢true}
use Rattle.std.proofs.lemmas.Int.{ints}
use Rattle.sky_units.specs.SettingsData.{SettingsData}
use Rattle.sky_units.specs.declared.axis.Axis.TheVariants.{Dec}
use Rattle.bound_prune.specs.Bounds.{greatest_distance, least_distance, Reaches, way_ahead, way_back}
use Rattle.bound_prune.proofs.LedAs.{reaches_as}
use Rattle.bound_prune.proofs.ways.is_open.Goals as goal

pub returns-then-not-is_reached : goal.returns-then-not-is_reached
returns-then-not-is_reached c =
    let settings = c.args.settings.now in
    let a = c.args.a.now in
    let b = c.args.b.now in
    let ways = c.ways_between-ways.result in
    let t = c.settings.invariant.tol_dec_in_range in
    let l = c.least.ensures.range in
    let tol : to_z w64 (of_z w64 c.settings.inside.tol_dec) ≡ c.settings.inside.tol_dec = omega (arith, ints) in
    let tol_is : c.settings.inside.tol_dec ≡ settings.tol_dec = ap (λ (s : SettingsData). s.tol_dec) c.settings.view_is in
    let least_kept : to_z w64 (of_z w64 c.least.result) ≡ c.least.result = omega (arith, ints) in
    let ahead : to_z w128 (of_z w128 ways.ahead) ≡ ways.ahead = omega (arith, ints) in
    let told : IsTrue c.is_reached.result ↔ Reaches c.settings.inside.tol_dec c.least.result ways.ahead = rw (tol, least_kept, ahead) at c.is_reached.ensures in
    let as_far = reaches_as c.settings.inside.tol_dec t c.least.result (way_ahead Dec settings a b) ways.ahead (record { from = omega (arith, ints); to = omega (arith, ints) }) c.ways_between-ways.ensures.ahead in
    (λ t. absurd (false≢true t), λ h. absurd (false≢true (sym c.if-not-is_reached.true ∙ told.1 (as_far.1 (rw (tol_is, c.least.ensures.value) h.from)))))

pub returns : goal.returns
returns c =
    let settings = c.args.settings.now in
    let a = c.args.a.now in
    let b = c.args.b.now in
    let ways = c.ways_between-ways.result in
    let t = c.settings.invariant.tol_dec_in_range in
    let l = c.least.ensures.range in
    let g = c.greatest.ensures.range in
    let tol : to_z w64 (of_z w64 c.settings.inside.tol_dec) ≡ c.settings.inside.tol_dec = omega (arith, ints) in
    let tol_is : c.settings.inside.tol_dec ≡ settings.tol_dec = ap (λ (s : SettingsData). s.tol_dec) c.settings.view_is in
    let least_kept : to_z w64 (of_z w64 c.least.result) ≡ c.least.result = omega (arith, ints) in
    let back_kept : to_z w64 (of_z w64 (pos 0 -ℤ to_z w64 (of_z w64 c.greatest.result))) ≡ neg_ℤ c.greatest.result = omega (arith, ints) in
    let ahead : to_z w128 (of_z w128 ways.ahead) ≡ ways.ahead = omega (arith, ints) in
    let back : to_z w128 (of_z w128 ways.back) ≡ ways.back = omega (arith, ints) in
    let first : IsTrue c.is_reached.result ↔ Reaches c.settings.inside.tol_dec c.least.result ways.ahead = rw (tol, least_kept, ahead) at c.is_reached.ensures in
    let second : IsTrue c.is_reached-2.result ↔ Reaches c.settings.inside.tol_dec (neg_ℤ c.greatest.result) ways.back = rw (tol, back_kept, back) at c.is_reached-2.ensures in
    let one = reaches_as c.settings.inside.tol_dec t c.least.result (way_ahead Dec settings a b) ways.ahead (record { from = omega (arith, ints); to = omega (arith, ints) }) c.ways_between-ways.ensures.ahead in
    let other = reaches_as c.settings.inside.tol_dec t (neg_ℤ c.greatest.result) (way_back Dec settings a b) ways.back (record { from = omega (arith, ints); to = omega (arith, ints) }) c.ways_between-ways.ensures.back in
    let from : Reaches settings.tol_dec (least_distance Dec a b) (way_ahead Dec settings a b) = rw (tol_is, c.least.ensures.value) at (one.0 (first.0 c.if-not-is_reached.false)) in
    let to : Reaches c.settings.inside.tol_dec (neg_ℤ c.greatest.result) (way_back Dec settings a b) ↔ Reaches settings.tol_dec (neg_ℤ (greatest_distance Dec a b)) (way_back Dec settings a b) = rw (tol_is, c.greatest.ensures.value) (λ h. h, λ h. h) in
    (λ t. record { from = from; to = to.0 (other.0 (second.0 t)) }, λ h. second.1 (other.1 (to.1 h.to)))
