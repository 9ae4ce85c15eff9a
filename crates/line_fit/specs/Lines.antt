-- Spots on a line within a tolerance: one line of a bounded rate is near all of them on each axis of the sky.
use Rattle.std.specs.Prelude.{◌≡◌, ℤ, pos, neg_ℤ, ◌+ℤ◌, ◌-ℤ◌, ◌*ℤ◌, ◌<ℤ◌, Bool, ◌&&◌, List, [], ◌∷◌, ◌++◌, map}
use Rattle.std.specs.Int.Signed.{le_z, lt_z}
use Rattle.std.specs.List.{All, list_all}
use Rattle.sky_math.specs.Lists.{EachTwo}
use Rattle.sky_math.specs.Quadratics.{IsWithin, Point}
use Rattle.sky_units.specs.Arcs.{MeetSpreadRule, quarter_turn}
use Rattle.sky_units.specs.FracData.{FracData}
use Rattle.sky_units.specs.Motion.{offset, points}
use Rattle.sky_units.specs.SpotData.{SpotData}
use Rattle.sky_units.specs.declared.axis.Axis.{Axis}
use Rattle.sky_units.specs.declared.axis.Axis.TheVariants.{Ra, Dec}

-- at the time s, in ticks, its position is (p + v*s) / d
pub record Line : Type 0 where
  pub p : ℤ
  pub v : ℤ
  pub d : ℤ

-- the line is at most `tol` away from the point
abbrev pub IsNearPoint : ℤ → Line → Point → Type 0
IsNearPoint tol f x = IsWithin (tol *ℤ f.d) ((f.p +ℤ (f.v *ℤ x.time)) -ℤ (x.position *ℤ f.d))

-- it moves at most `rate` units per day; a day has 10^6 ticks
abbrev pub KeepsRate : ℤ → Line → Type 0
KeepsRate rate f = (pos 0 <ℤ f.d) × IsWithin (rate *ℤ f.d) (f.v *ℤ pos 1000000)

-- some line of a bounded rate is within the tolerance of all the points
abbrev pub HasLine : ℤ → ℤ → List Point → Type 0
HasLine tol rate xs = (f : Line) × KeepsRate rate f × All (IsNearPoint tol f) xs

-- the spots are on a line within a tolerance
pub record AreOnLine (tol rate_ra rate_dec : ℤ) (spots : List SpotData) : Type 0 where
  pub differ : EachTwo (λ (a b : SpotData). ¬ (a.epoch ≡ b.epoch)) spots
  pub spread : MeetSpreadRule spots
  pub ra : HasLine tol rate_ra (points Ra spots)
  pub dec : HasLine tol rate_dec (points Dec spots)

-- ---- the same told by the slopes between each two spots
-- each two elements of a list, the earlier one first
abbrev pub each_two : {X : Type 0} → List X → List (X × X)
each_two [] = []
each_two (x ∷ rest) = map (λ y. (x, y)) rest ++ each_two rest

-- the least slope, in units per tick, of a line within `tol` of two spots
abbrev pub least_slope : Axis → ℤ → SpotData × SpotData → FracData
least_slope axis tol two = record { num = offset axis two.0 two.1 -ℤ (tol +ℤ tol); den = two.1.epoch -ℤ two.0.epoch }

-- the greatest such slope
abbrev pub greatest_slope : Axis → ℤ → SpotData × SpotData → FracData
greatest_slope axis tol two = record { num = offset axis two.0 two.1 +ℤ (tol +ℤ tol); den = two.1.epoch -ℤ two.0.epoch }

-- a rate per day, in units per tick
abbrev pub per_tick : ℤ → FracData
per_tick rate = record { num = rate; den = pos 1000000 }

abbrev pub is_at_most : FracData → FracData → Bool
is_at_most f g = le_z (f.num *ℤ g.den) (g.num *ℤ f.den)

-- of the rate's bounds and those of each two spots, every lower one is at most every upper one
abbrev pub slopes_meet : Axis → ℤ → ℤ → List SpotData → Bool
slopes_meet axis tol rate spots =
    let uppers = per_tick rate ∷ map (greatest_slope axis tol) (each_two spots) in
    list_all (λ low. list_all (is_at_most low) uppers) (per_tick (neg_ℤ rate) ∷ map (least_slope axis tol) (each_two spots))

-- the second spot is later, and less than a quarter of a turn away on each axis
abbrev pub follows_near : SpotData × SpotData → Bool
follows_near two =
    lt_z two.0.epoch two.1.epoch
    && (lt_z (neg_ℤ quarter_turn) (offset Ra two.0 two.1) && lt_z (offset Ra two.0 two.1) quarter_turn)
    && (lt_z (neg_ℤ quarter_turn) (offset Dec two.0 two.1) && lt_z (offset Dec two.0 two.1) quarter_turn)

-- spots in order of epoch lie on a line within a tolerance
abbrev pub lies_on_line : ℤ → ℤ → ℤ → List SpotData → Bool
lies_on_line tol rate_ra rate_dec spots = list_all follows_near (each_two spots) && slopes_meet Ra tol rate_ra spots && slopes_meet Dec tol rate_dec spots
