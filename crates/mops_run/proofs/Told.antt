-- The replies that tell what came of exposures are those of a delivery.
use Rattle.std.proofs.Common.{◌≡◌, ◌++◌, Vec, Global, List, [], ◌∷◌, map, refl, sym, ap, subst, ◌∙◌}
use Rattle.std.specs.Result.{IfOk}
use Rattle.std.specs.declared.result.Result.{Result}
use Rattle.std.specs.declared.result.Result.TheVariants.{Ok, Err}
use Rattle.std.proofs.lemmas.List.{map-append}
use Rattle.exposure_log.specs.Held.{ExposureData, LogData}
use Rattle.exposure_log.specs.Outcomes.{HoldsAll, HoldsOne}
use Rattle.exposure_log.specs.declared.outcomes.Outcome.{Outcome}
use Rattle.exposure_log.specs.declared.outcomes.Outcome.TheVariants.{Taken, Refused}
use Rattle.sky_units.specs.SettingsData.{SettingsData}
use Rattle.track_report.specs.declared.replies.Reply.{Reply}
use Rattle.window_incr.specs.LinkerState.{LinkerState}
use Rattle.mops_run.specs.Deliveries.{DeliversAll, DeliversOne, reply_of}

abbrev linker : SettingsData → LogData → LinkerState
linker settings log = record { settings = settings; log = log }

told_one : (settings : SettingsData) (old new : LogData) (x : ExposureData) (outcome : Outcome) → HoldsOne old x outcome new → DeliversOne (linker settings old) x (reply_of outcome) (linker settings new)
told_one settings old new x (Taken epoch site count) h = rw h.0 (record { settings = refl; log = h.1; reply_is = rw (h.2, h.3, h.4) refl })
told_one settings old new x (Refused cause back) h = rw h.0 (record { same = ap (linker settings) h.3; reply_is = rw h.2 refl })

told_all : (settings : SettingsData) (old new : LogData) (xs : List ExposureData) (outcomes : List Outcome) → HoldsAll old xs outcomes new → DeliversAll (linker settings old) xs (map reply_of outcomes) (linker settings new)
told_all settings old new [] outcomes h = (ap (map reply_of) h.0, ap (linker settings) h.1)
told_all settings old new (x ∷ xs) outcomes h =
    (reply_of h.0, map reply_of h.1, linker settings h.2, told_one settings old h.2 x h.0 h.3, told_all settings h.2 new xs h.1 h.4, ap (map reply_of) h.5)

-- the linker keeps its settings, and the replies are those of the outcomes
pub delivered : (old new : LinkerState) (xs : List ExposureData) (outcomes : List Outcome) (replies : List Reply) → HoldsAll old.log xs outcomes new.log → new.settings ≡ old.settings → replies ≡ map reply_of outcomes → DeliversAll old xs replies new
delivered old new xs outcomes replies h same told =
    rw told (subst (λ (settings : SettingsData). DeliversAll old xs (map reply_of outcomes) (linker settings new.log)) (sym same) (told_all old.settings old.log new.log xs outcomes h))

pub one_more_told : (outcomes : List Outcome) (replies more : List Reply) (outcome : Outcome) (reply : Reply) → replies ≡ map reply_of outcomes → reply ≡ reply_of outcome → more ≡ replies ++ reply ∷ [] → more ≡ map reply_of (outcomes ++ outcome ∷ [])
one_more_told outcomes replies more outcome reply so_far is m = m ∙ (rw (so_far, is) (sym (map-append reply_of outcomes (outcome ∷ []))))

pub delivered_if : {E : Type 0} (old new : LinkerState) (xs : List ExposureData) (outcomes : List Outcome) (r : Result (Vec Reply Global) E) → HoldsAll old.log xs outcomes new.log → new.settings ≡ old.settings
    → IfOk r (λ replies. replies.items ≡ map reply_of outcomes) → IfOk r (λ replies. DeliversAll old xs replies.items new)
delivered_if old new xs outcomes (Ok replies) h same told = delivered old new xs outcomes replies.items h same told
delivered_if old new xs outcomes (Err e) h same told = tt
