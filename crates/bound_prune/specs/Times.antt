-- The times between two boxes, and rates that are as good as others where both are very great.
use Rattle.std.specs.Prelude.{◌≡◌, ◌^◌, ℤ, pos, neg_ℤ, ◌+ℤ◌, ◌*ℤ◌, ◌≤ℤ◌, ◌↔◌, ◌⊎◌}
use Rattle.std.specs.Int.{int_max}
use Rattle.sky_units.specs.Ranges.{IsBetween}
use Rattle.sky_units.specs.SettingsData.{SettingsData}
use Rattle.sky_units.specs.declared.axis.Axis.{Axis}
use Rattle.box_tree.specs.declared.bounds.Bounds.{Bounds}
use Rattle.bound_prune.specs.Bounds.{gained_in, longest, shortest, lasting}
use Rattle.bound_prune.specs.declared.rates.Rates.{Rates}
use Rattle.bound_prune.specs.declared.times.Times.{Times}
use Rattle.bound_prune.specs.declared.travel.Travel.{Travel}

-- the times are in order, and within those of an arc
pub record AreInOrder (times : Times) : Type 0 where
  pub from : pos 0 ≤ℤ times.shortest
  pub order : times.shortest ≤ℤ times.longest
  pub to : times.longest ≤ℤ pos 29999999

-- the times are those between two boxes
pub record AreTimes (a b : Bounds) (times : Times) : Type 0 where
  pub shortest_is : times.shortest ≡ shortest a b
  pub longest_is : times.longest ≡ longest a b
  pub lasting_is : times.lasting ≡ lasting a +ℤ lasting b
  pub in_order : AreInOrder times
  pub lasts : pos 0 ≤ℤ times.lasting
  pub lasts_no_longer : times.lasting ≤ℤ pos 59999998

-- a rate is kept as it is, or both it and what is kept for it are so great that any time or none decides
abbrev pub StandsFor : ℤ → ℤ → Type 0
StandsFor exact kept = (kept ≡ exact) ⊎ (((pos (2 ^ 62) ≤ℤ exact) × (pos (2 ^ 62) ≤ℤ kept)) ⊎ ((exact ≤ℤ neg_ℤ (pos (2 ^ 62))) × (kept ≤ℤ neg_ℤ (pos (2 ^ 62)))))

-- a way leads as far as another one, as far as any distance on the sky goes
abbrev pub LeadsAs : ℤ → ℤ → Type 0
LeadsAs exact kept = (wanted : ℤ) → IsBetween (neg_ℤ (pos 4000000000000000)) (pos 4000000000000000) wanted → (wanted ≤ℤ kept) ↔ (wanted ≤ℤ exact)

-- the farthest ways on an axis, ahead and back, that these rates and what the acceleration adds to them lead over some of the times
pub record IsTravel (axis : Axis) (settings : SettingsData) (a b : Rates) (times : Times) (travel : Travel) : Type 0 where
  pub ahead : travel.ahead ≡ int_max (((a.greatest +ℤ b.greatest) +ℤ gained_in axis settings times.lasting) *ℤ times.shortest) (((a.greatest +ℤ b.greatest) +ℤ gained_in axis settings times.lasting) *ℤ times.longest)
  pub back : travel.back ≡ int_max ((neg_ℤ (a.least +ℤ b.least) +ℤ gained_in axis settings times.lasting) *ℤ times.shortest) ((neg_ℤ (a.least +ℤ b.least) +ℤ gained_in axis settings times.lasting) *ℤ times.longest)
