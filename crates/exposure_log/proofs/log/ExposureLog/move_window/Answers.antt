use Rattle.std.proofs.Common.{◌≡◌, None, map, arith, to_z, of_z, w64}
use Rattle.std.proofs.lemmas.Int.{ints}
use Rattle.exposure_log.specs.Numbered.{exposure_of}
use Rattle.exposure_log.specs.Held.{window_refusal, from_night}
use Rattle.exposure_log.specs.Nights.{listed_of}
use Rattle.exposure_log.proofs.Keeping.{moving_keeps_order}
use Rattle.exposure_log.proofs.Logs.{with_held}
use Rattle.exposure_log.proofs.log.ExposureLog.move_window.Goals as goal

pub invariant_of-self : goal.invariant_of-self
invariant_of-self c =
    let lo : to_z w64 (of_z w64 c.args.lo) ≡ c.args.lo = omega (arith, ints) in
    let hi : to_z w64 (of_z w64 c.args.hi) ≡ c.args.hi = omega (arith, ints) in
    let refused : window_refusal c.self.inside.window c.args.lo c.args.hi ≡ None = rw (← c.self.view_is) at c.requires in
    let kept : map (exposure_of c.forget_before.new.register) (listed_of c.forget_before.new.nights) ≡ from_night c.self.inside.nights.shift c.args.lo (map (exposure_of c.self.inside.register) (listed_of c.self.inside.nights)) = rw lo at c.forget_before.ensures.exposures in (
      rw c.forget_before.ensures.shift c.self.invariant.0,
      c.forget_before.ensures.listed,
      rw (lo, hi, c.forget_before.ensures.shift, kept)
          (moving_keeps_order (with_held c.self.inside.nights.shift c.self.inside.window (map (exposure_of c.self.inside.register) (listed_of c.self.inside.nights))) c.args.lo c.args.hi c.self.invariant.2 refused),
    )
