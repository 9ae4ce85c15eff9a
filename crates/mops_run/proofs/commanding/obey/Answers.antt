use Rattle.std.proofs.Common.{rules, w64}
use mir.Facts.{to_z-of_z}
use mir.Val.{SFits}
use Rattle.mops_run.proofs.commanding.obey.Goals as goal

pub returns-in-Window-clause-reply : goal.returns-in-Window-clause-reply
returns-in-Window-clause-reply c =
    let fits_lo : SFits w64 c.in-Window.lo = search rules in
    let fits_hi : SFits w64 c.in-Window.hi = search rules in
    rw c.in-Window.is (simp to_z-of_z at c.set_window.ensures.reply)
