use Rattle.std.proofs.Common.{List, [], take, get_or, sym, subst}
use Rattle.exposure_log.specs.Outcomes.{IsThere}
use Rattle.exposure_log.specs.declared.outcomes.Outcome.{Outcome}
use Rattle.night_tree.specs.Nights.{NightData}
use Rattle.plain_tracks.proofs.Steps.{taken}
use Rattle.kept_nights.specs.LinkerState.{LinkerState}
use Rattle.kept_nights.specs.Renewed.{AreRenewed}
use Rattle.kept_nights.proofs.Renewal.{renewed_none}
use Rattle.kept_nights.proofs.keeping.changed_nights.Goals as goal

pub loop-outcome-init : goal.loop-outcome-init
loop-outcome-init c =
    let s : LinkerState = record { settings = c.args.settings.now; log = c.args.log.now } in
    subst (AreRenewed s []) (sym c.new-changed.ensures.items) (renewed_none s)

pub add_night-requires-clause-there : goal.add_night-requires-clause-there
add_night-requires-clause-there c =
    subst (IsThere c.args.log.now.exposures) (sym c.outcome-item.is) (c.requires.there c.loop-outcome.outcome-index c.outcome-item.result c.loop-outcome-test.true)

pub loop-outcome-preserved : goal.loop-outcome-preserved
loop-outcome-preserved c =
    let s : LinkerState = record { settings = c.args.settings.now; log = c.args.log.now } in
    let step = taken c.args.outcomes.now c.loop-outcome.outcome-index c.outcome-item.result c.loop-outcome-test.true c.outcome-item.is in
    subst (λ (outcomes : List Outcome). AreRenewed s outcomes c.add_night.new.changed.items) (sym step) (c.in_ok-add_night.ensures (take c.loop-outcome.outcome-index c.args.outcomes.now) c.loop-outcome.invariant)
