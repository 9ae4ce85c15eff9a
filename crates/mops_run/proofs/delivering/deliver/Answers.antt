use Rattle.std.proofs.Common.{List, Vec, Global}
use Rattle.std.specs.Result.{IfOk}
use Rattle.std.specs.declared.result.Result.{Result}
use Rattle.std.specs.declared.result.Result.TheVariants.{Ok, Err}
use Rattle.miti_text.specs.Observation.{Observation}
use Rattle.exposure_log.specs.Deliveries.{AreExposuresOf}
use Rattle.exposure_log.specs.Held.{ExposureData}
use Rattle.window_incr.specs.LinkerState.{LinkerState}
use Rattle.track_report.specs.declared.replies.Reply.{Reply}
use Rattle.mops_run.specs.Deliveries.{DeliversAll, Delivers}
use Rattle.mops_run.proofs.delivering.deliver.Goals as goal

delivered : {E : Type 0} (r : Result (Vec Reply Global) E) (old new : LinkerState) (waiting : List Observation) (exposures : List ExposureData) → AreExposuresOf waiting exposures
    → IfOk r (λ replies. DeliversAll old exposures replies.items new) → IfOk r (λ replies. Delivers old waiting replies.items new)
delivered (Ok replies) old new waiting exposures gathered adds = (exposures, gathered, adds)
delivered (Err e) old new waiting exposures gathered adds = tt

pub returns-clause-replies : goal.returns-clause-replies
returns-clause-replies c =
    delivered c.add_all.result c.args.linker.now.state c.add_all.new.linker.state c.args.waiting.items c.in_ok-exposures.exposures.items c.in_ok-exposures.ensures c.add_all.ensures.replies
