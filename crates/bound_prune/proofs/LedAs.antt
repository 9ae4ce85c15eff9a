-- What is reached by a way that leads as far as another one.
use Rattle.std.proofs.Common.{◌≡◌, ◌↔◌, arith}
use Rattle.std.specs.Prelude.{ℤ, pos, neg_ℤ, negsuc, ◌+ℤ◌, ◌-ℤ◌, ◌*ℤ◌}
use Rattle.std.specs.Int.{int_max}
use Rattle.std.proofs.lemmas.Int.{ints}
use mathlib.Core.Logic.{◌⊎◌, inl, inr}
use Rattle.sky_units.specs.Ranges.{IsBetween}
use Rattle.box_tree.specs.declared.bounds.Bounds.{Bounds}
use Rattle.bound_prune.specs.Bounds.{Reaches, way}
use Rattle.bound_prune.specs.Times.{AreTimes, LeadsAs, StandsFor}
use Rattle.bound_prune.specs.declared.times.Times.{Times}
use Rattle.bound_prune.proofs.Cuts.{way_is}
use Rattle.bound_prune.proofs.Saturated.{stand_alike}

-- a way leads as far as itself
pub same_led : (exact kept : ℤ) → kept ≡ exact → LeadsAs exact kept
same_led exact kept e = λ wanted near. rw e (λ h. h, λ h. h)

-- what rates lead, those that stand for them lead
pub stands_led : (exact rates : ℤ) (a b : Bounds) (times : Times) (led : ℤ) → AreTimes a b times → StandsFor exact rates → led ≡ int_max (rates *ℤ times.shortest) (rates *ℤ times.longest) → LeadsAs (way exact a b) led
stands_led exact rates a b times led t stands is wanted near =
    let o = t.in_order in
    let short = t.shortest_is in
    let long = t.longest_is in
    let alike = stand_alike exact rates times.shortest times.longest wanted stands o.from o.order near in
    let exact_is : int_max (exact *ℤ times.shortest) (exact *ℤ times.longest) ≡ way exact a b = rw (short, long) (way_is exact a b) in
    rw (is, ← exact_is) alike

module _ (tol : ℤ) (t : IsBetween (pos 0) (pos 100000) tol) where
  near : (d : ℤ) → IsBetween (negsuc 1079999999) (pos 1080000000) d → IsBetween (neg_ℤ (pos 4000000000000000)) (pos 4000000000000000) (pos 2000000 *ℤ (d -ℤ (tol +ℤ tol)))
  near d h =
      let tf = t.from in
      let tt' = t.to in
      let df = h.from in
      let dt = h.to in
      record { from = omega (arith, ints); to = omega (arith, ints) }

  pub reaches_as : (d exact kept : ℤ) → IsBetween (negsuc 1079999999) (pos 1080000000) d → LeadsAs exact kept → Reaches tol d kept ↔ Reaches tol d exact
  reaches_as d exact kept h led = led (pos 2000000 *ℤ (d -ℤ (tol +ℤ tol))) (near d h)

  pub either_as : (d e ahead back kept_ahead kept_back : ℤ) → IsBetween (negsuc 1079999999) (pos 1080000000) d → IsBetween (negsuc 1079999999) (pos 1080000000) e → LeadsAs ahead kept_ahead → LeadsAs back kept_back → (Reaches tol d kept_ahead ⊎ Reaches tol e kept_back) ↔ (Reaches tol d ahead ⊎ Reaches tol e back)
  either_as d e ahead back kept_ahead kept_back h k one other =
      let p = reaches_as d ahead kept_ahead h one in
      let q = reaches_as e back kept_back k other in
      (λ w. elim w [ inl x ↦ inl (p.0 x) | inr y ↦ inr (q.0 y) ], λ w. elim w [ inl x ↦ inl (p.1 x) | inr y ↦ inr (q.1 y) ])
