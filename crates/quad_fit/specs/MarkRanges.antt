-- What the points of an arc keep: they rise in time, over less time than an arc may last, and lie near the spot that they are counted from.
use Rattle.std.specs.Prelude.{ℤ, pos, neg_ℤ, ◌-ℤ◌, ◌<ℤ◌, List}
use Rattle.std.specs.List.{All}
use Rattle.sky_math.specs.Lists.{EachTwo}
use Rattle.sky_math.specs.Quadratics.{Point}
use Rattle.sky_units.specs.Limits.{arc_ticks}

pub record IsMark (time position : ℤ) : Type 0 where
  pub not_long_before : neg_ℤ arc_ticks <ℤ time
  pub not_long_after : time <ℤ arc_ticks
  pub above : neg_ℤ (pos 90000000) <ℤ position
  pub below : position <ℤ pos 90000000

abbrev pub IsMarkPoint : Point → Type 0
IsMarkPoint x = IsMark x.time x.position

-- each point is later than those before it
abbrev pub RiseInTime : List Point → Type 0
RiseInTime = EachTwo (λ x y. x.time <ℤ y.time)

-- between each two points less time passes than an arc may last
abbrev pub AreShort : List Point → Type 0
AreShort = EachTwo (λ x y. (y.time -ℤ x.time) <ℤ arc_ticks)

pub record AreMarks (points : List Point) : Type 0 where
  pub each : All IsMarkPoint points
  pub rise : RiseInTime points
  pub short : AreShort points
