-- The box of a tracklet: where it stands first, from when to when it lasts, and at which rates an object may move that stays within
-- the tolerance of its first and of its last spot.
use Rattle.std.specs.Prelude.{ℕ, ℤ, pos, neg_ℤ, ◌+ℤ◌, ◌-ℤ◌, ◌*ℤ◌, ◌-◌, ◌==◌, cond, length, slice_index_or}
use Rattle.std.specs.Int.{int_div_euclid}
use Rattle.sky_units.specs.Motion.{offset}
use Rattle.sky_units.specs.SpotData.{SpotData}
use Rattle.sky_units.specs.TrackletData.{TrackletData}
use Rattle.sky_units.specs.declared.axis.Axis.{Axis}
use Rattle.sky_units.specs.declared.axis.Axis.TheVariants.{Ra, Dec}

-- a tracklet, and the tolerances that its box was made with
pub record BoxedTracklet : Type 0 where
  pub spots : TrackletData
  pub tol_ra : ℤ
  pub tol_dec : ℤ

-- what stands for a spot that is missing
abbrev pub no_spot : SpotData
no_spot = record { num = 0; epoch = pos 0; ra = pos 0; dec = pos 0 }

-- the first and the last spot of a tracklet
abbrev pub first_of : TrackletData → SpotData
first_of spots = slice_index_or spots 0 no_spot

abbrev pub last_of : TrackletData → SpotData
last_of spots = slice_index_or spots (length spots - 1) no_spot

-- a quotient, rounded down and rounded up
abbrev pub floor_of : ℤ → ℤ → ℤ
floor_of above below = int_div_euclid above below

abbrev pub ceiling_of : ℤ → ℤ → ℤ
ceiling_of above below = neg_ℤ (int_div_euclid (neg_ℤ above) below)

-- the least and the greatest mean rate on an axis, in 10^-6 degree per day of 1,000,000 ticks, of what is within the tolerance of
-- two spots, rounded outward
abbrev pub least_rate : Axis → ℤ → SpotData → SpotData → ℤ
least_rate axis tol first last = floor_of ((offset axis first last -ℤ (tol +ℤ tol)) *ℤ pos 1000000) (last.epoch -ℤ first.epoch)

abbrev pub greatest_rate : Axis → ℤ → SpotData → SpotData → ℤ
greatest_rate axis tol first last = ceiling_of ((offset axis first last +ℤ (tol +ℤ tol)) *ℤ pos 1000000) (last.epoch -ℤ first.epoch)

-- where the box of a tracklet begins: on the axes 0 and 1 at the place of its first spot, in right ascension and declination, on 2 at
-- its first epoch, on 3 and 4 at the least rates of its first and last spot
abbrev pub box_low : BoxedTracklet → ℕ → ℤ
box_low box axis =
    cond (axis == 0) (first_of box.spots).ra (cond (axis == 1) (first_of box.spots).dec (cond (axis == 2) (first_of box.spots).epoch
    (cond (axis == 3) (least_rate Ra box.tol_ra (first_of box.spots) (last_of box.spots)) (least_rate Dec box.tol_dec (first_of box.spots) (last_of box.spots)))))

-- and where it ends: at the same place, at its last epoch and at the greatest rates
abbrev pub box_high : BoxedTracklet → ℕ → ℤ
box_high box axis =
    cond (axis == 0) (first_of box.spots).ra (cond (axis == 1) (first_of box.spots).dec (cond (axis == 2) (last_of box.spots).epoch
    (cond (axis == 3) (greatest_rate Ra box.tol_ra (first_of box.spots) (last_of box.spots)) (greatest_rate Dec box.tol_dec (first_of box.spots) (last_of box.spots)))))
