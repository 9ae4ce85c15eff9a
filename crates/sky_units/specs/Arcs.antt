-- An arc: spots one after the other in time, over a bounded time, near one another on the sky.
use Rattle.std.specs.Prelude.{ℤ, pos, neg_ℤ, ◌-ℤ◌, ◌<ℤ◌, List}
use Rattle.sky_math.specs.Lists.{EachTwo}
use Rattle.sky_units.specs.Limits.{arc_ticks}
use Rattle.sky_units.specs.Motion.{offset}
use Rattle.sky_units.specs.SpotData.{SpotData}
use Rattle.sky_units.specs.declared.axis.Axis.{Axis}
use Rattle.sky_units.specs.declared.axis.Axis.TheVariants.{Ra, Dec}

-- a quarter of a turn, in 10^-6 degree
abbrev pub quarter_turn : ℤ
quarter_turn = pos 90000000

-- two spots are less than a quarter of a turn apart on an axis
abbrev pub AreNear : Axis → SpotData → SpotData → Type 0
AreNear axis a b = (neg_ℤ quarter_turn <ℤ offset axis a b) × (offset axis a b <ℤ quarter_turn)

-- the spread rule: each two spots are near on both axes
abbrev pub MeetSpreadRule : List SpotData → Type 0
MeetSpreadRule = EachTwo (λ a b. AreNear Ra a b × AreNear Dec a b)

-- each epoch is above those before it
abbrev pub HaveRisingEpochs : List SpotData → Type 0
HaveRisingEpochs = EachTwo (λ a b. a.epoch <ℤ b.epoch)

-- from the first spot to the last, and so between each two, less time passes than an arc may last
abbrev pub AreWithinArcTime : List SpotData → Type 0
AreWithinArcTime = EachTwo (λ a b. (b.epoch -ℤ a.epoch) <ℤ arc_ticks)

pub record IsArc (spots : List SpotData) : Type 0 where
  pub rising : HaveRisingEpochs spots
  pub short : AreWithinArcTime spots
  pub spread : MeetSpreadRule spots

-- each two spots are near on an axis
abbrev pub AllNear : Axis → List SpotData → Type 0
AllNear axis = EachTwo (AreNear axis)
