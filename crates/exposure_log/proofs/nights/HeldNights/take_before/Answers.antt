use Rattle.std.proofs.Common.{◌≤ℤ◌, ◌<ℤ◌, ◌∷◌, arith}
use Rattle.std.proofs.lemmas.Int.{ints}
use Rattle.exposure_log.specs.Nights.{AreByNight}
use Rattle.exposure_log.proofs.ByNight.{tail_by_night}
use Rattle.exposure_log.proofs.NightEdits.{none_before_first, first_before, first_is, rest_is}
use Rattle.exposure_log.proofs.nights.HeldNights.take_before.Goals as goal

pub returns-then-first-night-clause-none : goal.returns-then-first-night-clause-none
returns-then-first-night-clause-none c =
    let from : c.args.night ≤ℤ c.in_ok-first.first.now = omega (arith, ints, c.if-first-night.true) in
    rw (← c.self.view_is) (none_before_first c.self.inside.shift c.args.night c.self.inside.by_night.entries (c.in_ok-first.first.now, c.in_ok-first.field-0-1.now) c.self.invariant c.in_ok-first.ensures.first from)

pub invariant_of-self-2 : goal.invariant_of-self-2
invariant_of-self-2 c =
    let by : AreByNight c.self.inside.shift ((c.in_ok-listed.field-0-0, c.in_ok-listed.listed) ∷ c.pop_first.new.self.entries) = rw c.in_ok-listed.ensures.removal at c.self.invariant in
    tail_by_night c.self.inside.shift (c.in_ok-listed.field-0-0, c.in_ok-listed.listed) c.pop_first.new.self.entries by

pub returns-clause-some : goal.returns-clause-some
returns-clause-some c =
    let by : AreByNight c.self.inside.shift ((c.in_ok-listed.field-0-0, c.in_ok-listed.listed) ∷ c.pop_first.new.self.entries) = rw c.in_ok-listed.ensures.removal at c.self.invariant in
    let less : c.in_ok-first.first.now <ℤ c.args.night = omega (arith, ints, c.if-first-night.false) in
    let before = first_before c.args.night (c.in_ok-listed.field-0-0, c.in_ok-listed.listed) (c.in_ok-first.first.now, c.in_ok-first.field-0-1.now) c.self.inside.by_night.entries c.pop_first.new.self.entries
    c.in_ok-first.ensures.first c.in_ok-listed.ensures.removal less in
    rw (← c.self.view_is, c.in_ok-listed.ensures.removal) (
      c.in_ok-listed.field-0-0,
      before,
      first_is c.self.inside.shift (c.in_ok-listed.field-0-0, c.in_ok-listed.listed) c.pop_first.new.self.entries by,
      rest_is c.self.inside.shift (c.in_ok-listed.field-0-0, c.in_ok-listed.listed) c.pop_first.new.self.entries by,
    )
