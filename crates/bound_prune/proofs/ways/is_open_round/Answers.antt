use Rattle.std.proofs.Common.{◌≡◌, ◌↔◌, ◌∙◌, IsTrue, ℤ, pos, neg_ℤ, negsuc, ◌+ℤ◌, ◌-ℤ◌, ap, sym, to_z, of_z, w64, arith}
use Rattle.std.proofs.lemmas.Bool.{false≢true}
use Rattle.std.proofs.lemmas.Int.{ints}
use mathlib.Core.Logic.{◌⊎◌, inl, inr}
use Rattle.sky_math.specs.Circle.{full_turn}
use Rattle.sky_units.specs.Ranges.{IsBetween}
use Rattle.sky_units.specs.SettingsData.{SettingsData}
use Rattle.sky_units.specs.declared.axis.Axis.TheVariants.{Ra}
use Rattle.bound_prune.specs.Bounds.{greatest_distance, least_distance, Reaches, two_turns, way_ahead, way_back}
use Rattle.bound_prune.proofs.LedAs.{either_as}
use Rattle.bound_prune.proofs.ways.is_open_round.Goals as goal

abbrev IsNear : ℤ → Type 0
IsNear = IsBetween (negsuc 1079999999) (pos 1080000000)

turned : {P Q : Type 0} → P ⊎ Q → Q ⊎ P
turned (inl p) = inr p
turned (inr q) = inl q

near_less : (z : ℤ) → IsBetween (neg_ℤ two_turns) two_turns z → IsNear z
near_less z h = let from = h.from in let to = h.to in record { from = omega (arith, ints); to = omega (arith, ints) }

near_back : (z : ℤ) → IsBetween (neg_ℤ two_turns) two_turns z → IsNear (neg_ℤ z)
near_back z h = let from = h.from in let to = h.to in record { from = omega (arith, ints); to = omega (arith, ints) }

near_turned : (z : ℤ) → IsBetween (neg_ℤ two_turns) two_turns z → IsNear (full_turn -ℤ z)
near_turned z h = let from = h.from in let to = h.to in record { from = omega (arith, ints); to = omega (arith, ints) }

near_ahead : (z : ℤ) → IsBetween (neg_ℤ two_turns) two_turns z → IsNear (full_turn +ℤ z)
near_ahead z h = let from = h.from in let to = h.to in record { from = omega (arith, ints); to = omega (arith, ints) }

pub returns-then-not-is_either_reached : goal.returns-then-not-is_either_reached
returns-then-not-is_either_reached c =
    let settings = c.args.settings.now in
    let a = c.args.a.now in
    let b = c.args.b.now in
    let ways = c.ways_between-ways.result in
    let least = c.least-least.result in
    let greatest = c.greatest-greatest.result in
    let t = c.settings.invariant.tol_ra_in_range in
    let l = c.least-least.ensures.range in
    let g = c.greatest-greatest.ensures.range in
    let tol : to_z w64 (of_z w64 c.settings.inside.tol_ra) ≡ c.settings.inside.tol_ra = omega (arith, ints) in
    let tol_is : c.settings.inside.tol_ra ≡ settings.tol_ra = ap (λ (s : SettingsData). s.tol_ra) c.settings.view_is in
    let least_kept : to_z w64 (of_z w64 least) ≡ least = omega (arith, ints) in
    let turned_back : to_z w64 (of_z w64 (pos 360000000 -ℤ to_z w64 (of_z w64 greatest))) ≡ full_turn -ℤ greatest = omega (arith, ints) in
    let told : IsTrue c.is_either_reached.result ↔ (Reaches c.settings.inside.tol_ra least ways.ahead ⊎ Reaches c.settings.inside.tol_ra (full_turn -ℤ greatest) ways.back) = rw (tol, turned_back, least_kept) at c.is_either_reached.ensures in
    let as_far = either_as c.settings.inside.tol_ra t least (full_turn -ℤ greatest) (way_ahead Ra settings a b) (way_back Ra settings a b) ways.ahead ways.back (near_less least l) (near_turned greatest g) c.ways_between-ways.ensures.ahead c.ways_between-ways.ensures.back in
    (λ t. absurd (false≢true t), λ h. absurd (false≢true (sym c.if-not-is_either_reached.true ∙ told.1 (as_far.1 (rw (tol_is, c.least-least.ensures.value, c.greatest-greatest.ensures.value) h.from)))))

pub returns : goal.returns
returns c =
    let settings = c.args.settings.now in
    let a = c.args.a.now in
    let b = c.args.b.now in
    let ways = c.ways_between-ways.result in
    let least = c.least-least.result in
    let greatest = c.greatest-greatest.result in
    let t = c.settings.invariant.tol_ra_in_range in
    let l = c.least-least.ensures.range in
    let g = c.greatest-greatest.ensures.range in
    let tol : to_z w64 (of_z w64 c.settings.inside.tol_ra) ≡ c.settings.inside.tol_ra = omega (arith, ints) in
    let tol_is : c.settings.inside.tol_ra ≡ settings.tol_ra = ap (λ (s : SettingsData). s.tol_ra) c.settings.view_is in
    let least_kept : to_z w64 (of_z w64 least) ≡ least = omega (arith, ints) in
    let turned_back : to_z w64 (of_z w64 (pos 360000000 -ℤ to_z w64 (of_z w64 greatest))) ≡ full_turn -ℤ greatest = omega (arith, ints) in
    let turned_ahead : to_z w64 (of_z w64 (pos 360000000 +ℤ to_z w64 (of_z w64 least))) ≡ full_turn +ℤ least = omega (arith, ints) in
    let back_kept : to_z w64 (of_z w64 (pos 0 -ℤ to_z w64 (of_z w64 greatest))) ≡ neg_ℤ greatest = omega (arith, ints) in
    let first : IsTrue c.is_either_reached.result ↔ (Reaches c.settings.inside.tol_ra least ways.ahead ⊎ Reaches c.settings.inside.tol_ra (full_turn -ℤ greatest) ways.back) = rw (tol, turned_back, least_kept) at c.is_either_reached.ensures in
    let second : IsTrue c.is_either_reached-2.result ↔ (Reaches c.settings.inside.tol_ra (full_turn +ℤ least) ways.ahead ⊎ Reaches c.settings.inside.tol_ra (neg_ℤ greatest) ways.back) = rw (tol, turned_ahead, back_kept) at c.is_either_reached-2.ensures in
    let one = either_as c.settings.inside.tol_ra t least (full_turn -ℤ greatest) (way_ahead Ra settings a b) (way_back Ra settings a b) ways.ahead ways.back (near_less least l) (near_turned greatest g) c.ways_between-ways.ensures.ahead c.ways_between-ways.ensures.back in
    let other = either_as c.settings.inside.tol_ra t (full_turn +ℤ least) (neg_ℤ greatest) (way_ahead Ra settings a b) (way_back Ra settings a b) ways.ahead ways.back (near_ahead least l) (near_back greatest g) c.ways_between-ways.ensures.ahead c.ways_between-ways.ensures.back in
    let from : Reaches settings.tol_ra (least_distance Ra a b) (way_ahead Ra settings a b) ⊎ Reaches settings.tol_ra (full_turn -ℤ greatest_distance Ra a b) (way_back Ra settings a b) = rw (tol_is, c.least-least.ensures.value, c.greatest-greatest.ensures.value) at (one.0 (first.0 c.if-not-is_either_reached.false)) in
    let led : IsTrue c.is_either_reached-2.result ↔ (Reaches c.settings.inside.tol_ra (full_turn +ℤ least) (way_ahead Ra settings a b) ⊎ Reaches c.settings.inside.tol_ra (neg_ℤ greatest) (way_back Ra settings a b)) = (λ t. other.0 (second.0 t), λ h. second.1 (other.1 h)) in
    let to : IsTrue c.is_either_reached-2.result ↔ (Reaches settings.tol_ra (full_turn +ℤ least_distance Ra a b) (way_ahead Ra settings a b) ⊎ Reaches settings.tol_ra (neg_ℤ (greatest_distance Ra a b)) (way_back Ra settings a b)) = rw (tol_is, c.least-least.ensures.value, c.greatest-greatest.ensures.value) at led in
    (λ t. record { from = from; to = turned (to.0 t) }, λ h. to.1 (turned h.to))
