-- Parts of an arc are arcs.
use Rattle.std.proofs.Common.{◌≡◌, ℕ, ◌<◌, ◌+ℤ◌, ◌-ℤ◌, ◌<ℤ◌, List, [], ◌∷◌, ◌++◌, length, get_or, suc, arith}
use Rattle.std.proofs.lemmas.Int.{ints}
use Rattle.quad_fit.proofs.Parts.{two_left}
use Rattle.sky_units.specs.Arcs.{AreNear, IsArc}
use Rattle.sky_units.specs.Limits.{arc_ticks}
use Rattle.sky_units.specs.SpotData.{SpotData}
use Rattle.sky_units.specs.declared.axis.Axis.{Axis}
use Rattle.sky_units.specs.declared.axis.Axis.TheVariants.{Ra, Dec}
use Rattle.refusal_cert.specs.Coefficients.{StepData, step_of}

-- what an arc says of two of its spots
pub record IsLater (axis : Axis) (one other : SpotData) : Type 0 where
  pub later : one.epoch <ℤ other.epoch
  pub brief : (other.epoch -ℤ one.epoch) <ℤ arc_ticks
  pub near : AreNear axis one other

pub later_of : (axis : Axis) (spots : List SpotData) (i j : ℕ) (d : SpotData) → IsArc spots → i < j → j < length spots → IsLater axis (get_or spots i d) (get_or spots j d)
later_of Ra spots i j d arc ij jn = record { later = arc.rising i j d ij jn; brief = arc.short i j d ij jn; near = (arc.spread i j d ij jn).0 }
later_of Dec spots i j d arc ij jn = record { later = arc.rising i j d ij jn; brief = arc.short i j d ij jn; near = (arc.spread i j d ij jn).1 }

-- the front and the rest of an arc
pub front_of : (spots more : List SpotData) → IsArc (spots ++ more) → IsArc spots
front_of spots more arc = record {
  rising = two_left (λ (a b : SpotData). a.epoch <ℤ b.epoch) spots more arc.rising;
  short = two_left (λ (a b : SpotData). (b.epoch -ℤ a.epoch) <ℤ arc_ticks) spots more arc.short;
  spread = two_left (λ (a b : SpotData). AreNear Ra a b × AreNear Dec a b) spots more arc.spread;
}

pub rest_of : (x : SpotData) (spots : List SpotData) → IsArc (x ∷ spots) → IsArc spots
rest_of x spots arc = record {
  rising = λ i j d ij jn. arc.rising (suc i) (suc j) d (omega arith) (omega arith);
  short = λ i j d ij jn. arc.short (suc i) (suc j) d (omega arith) (omega arith);
  spread = λ i j d ij jn. arc.spread (suc i) (suc j) d (omega arith) (omega arith);
}

-- two steps of an arc take less time than it may last
pub both_brief : (axis : Axis) (x y z : SpotData) (s t : StepData) → IsArc (x ∷ y ∷ z ∷ []) → s ≡ step_of axis x y → t ≡ step_of axis y z → (s.time +ℤ t.time) <ℤ arc_ticks
both_brief axis x y z s t arc es et =
    let whole = arc.short 0 2 x (omega arith) (omega arith) in
    let sum : (y.epoch -ℤ x.epoch) +ℤ (z.epoch -ℤ y.epoch) ≡ z.epoch -ℤ x.epoch = omega (arith, ints) in
    rw (es, et, sum) whole
