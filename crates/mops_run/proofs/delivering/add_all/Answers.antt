use Rattle.std.proofs.Common.{refl}
use Rattle.mops_run.proofs.Told.{delivered_if}
use Rattle.mops_run.proofs.Works.{work_to_hold}
use Rattle.mops_run.proofs.delivering.add_all.Goals as goal

pub returns-clause-replies : goal.returns-clause-replies
returns-clause-replies c =
    let held = c.in_ok-outcomes.ensures.ok in
    delivered_if c.args.linker.now.state c.hold_all.new.self.state c.args.exposures.items c.in_ok-outcomes.outcomes.items c.replies_to.result held.0 held.1 c.replies_to.ensures

pub returns-clause-work : goal.returns-clause-work
returns-clause-work c = work_to_hold c.args.linker.now c.args.exposures.items c.args.tally.now c.hold_all.new.tally c.nights.ensures.kept c.hold_all.ensures.wanting
