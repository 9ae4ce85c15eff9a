use Rattle.std.proofs.Common.{pos, ◌-ℤ◌, ◌≤ℤ◌}
use Rattle.line_fit.proofs.OneDay.{day_read, one_day_of_ends}
use Rattle.purge.proofs.tests.are_of_one_day.Goals as goal

pub returns : goal.returns
returns c = λ h.
    let day : (c.last.inside.epoch -ℤ c.first.inside.epoch) ≤ℤ pos 1000000 = day_read c.first.inside.epoch c.last.inside.epoch c.first.invariant.epoch_in_range c.last.invariant.epoch_in_range h in
    let apart : (c.index-spots-spots.result.epoch -ℤ c.index-spots-0.result.epoch) ≤ℤ pos 1000000 = rw (← c.last.view_is, ← c.first.view_is) day in
    one_day_of_ends c.args.spots.now c.index-spots-0.result c.index-spots-spots.result c.index-spots-0.is c.index-spots-spots.is c.requires apart
