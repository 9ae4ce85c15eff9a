use Rattle.std.proofs.Common.{◌≡◌, IfSome, OnErr, Ok, Err, inr, sym, ap, subst, ◌∙◌, rules, to_z, of_z, w64}
use mir.Facts.{to_z-of_z}
use mir.Val.{SFits}
use Rattle.std.specs.declared.result.Result.{Result}
use Rattle.sky_math.specs.Night.{night_at}
use Rattle.sky_units.specs.Limits.{IsNear}
use Rattle.exposure_log.specs.Held.{LogData}
use Rattle.kept_nights.proofs.KeptNights.{taken_out}
use Rattle.window_incr.specs.Keeping.{WereNightsBut, nights_under}
use Rattle.window_incr.proofs.Kept.{keeps_results, seen_alike, were_added}
use Rattle.window_incr.proofs.state.Linker.add.Goals as goal

pub renew_or_remove-requires-clause-but : goal.renew_or_remove-requires-clause-but
renew_or_remove-requires-clause-but c =
    let fits_epoch : SFits w64 c.epoch-epoch.result = search rules in
    let plain : to_z w64 (of_z w64 c.epoch-epoch.result) ≡ c.epoch-epoch.result = simp to_z-of_z in
    let taken = c.in_ok-count.ensures.ok in
    let were : WereNightsBut c.self.inside.settings c.add.new.self c.self.inside.nights.items (night_at c.self.inside.settings.night_shift c.args.exposure.now.epoch) =
    were_added c.self.inside.settings c.self.inside.log c.add.new.self c.args.exposure.now c.self.inside.nights.items c.window.ensures.orderly taken.0 taken.2 c.window-2.ensures.orderly c.self.invariant.0 c.self.invariant.2 in
    rw (plain, c.epoch-epoch.ensures.value) were

now_nights : (c : goal.In_ok-renew_or_remove) → c.renew_or_remove.new.nights.items ≡ nights_under c.self.inside.settings c.renew_or_remove.new.log
now_nights c = c.in_ok-renew_or_remove.ensures.nights ∙ ap (nights_under c.self.inside.settings) (sym c.in_ok-renew_or_remove.ensures.log)

pub returns-clause-kept : goal.returns-clause-kept
returns-clause-kept c = keeps_results c.self.inside.settings c.renew_or_remove.new.log c.renew_or_remove.new.nights.items c.renew_or_remove.new.kept (now_nights c) c.renew_or_remove.ensures.sets

pub invariant_of-self-2 : goal.invariant_of-self-2
invariant_of-self-2 c =
    let is = c.in_ok-count.ensures.ok.2.is in
    let log = c.in_ok-renew_or_remove.ensures.log in
    (ap (λ (l : LogData). l.night_shift) (log ∙ is) ∙ c.self.invariant.0, subst (λ window. IfSome window IsNear) (sym (ap (λ (l : LogData). l.window) (log ∙ is))) c.self.invariant.1, now_nights c, c.renew_or_remove.ensures.sets)

left_is : (c : goal.After-from_residual-in_err-renew_or_remove) → c.renew_or_remove.new.log ≡ c.self.inside.log
left_is c =
    let fits_epoch : SFits w64 c.epoch-epoch.result = search rules in
    let taken = c.in_ok-count.ensures.ok in
    let rest = simp to_z-of_z at c.in_err-renew_or_remove.ensures.removed in
    taken_out c.self.inside.log c.add.new.self c.renew_or_remove.new.log c.args.exposure.now c.window.ensures.orderly taken.0 taken.2
    (rw (c.epoch-epoch.ensures.value, c.site-site.ensures) at rest)

on_err : {T E : Type 0} (r : Result T E) (P : Type 0) → P → OnErr r P
on_err (Ok x) P p = tt
on_err (Err e) P p = p

left_nights : (c : goal.After-from_residual-in_err-renew_or_remove) → c.renew_or_remove.new.nights.items ≡ nights_under c.self.inside.settings c.renew_or_remove.new.log
left_nights c = c.in_err-renew_or_remove.ensures.err ∙ (c.self.invariant.2 ∙ ap (nights_under c.self.inside.settings) (sym (left_is c)))

pub invariant_of-self-in_err-renew_or_remove : goal.invariant_of-self-in_err-renew_or_remove
invariant_of-self-in_err-renew_or_remove c =
    (ap (λ (l : LogData). l.night_shift) (left_is c) ∙ c.self.invariant.0, subst (λ window. IfSome window IsNear) (sym (ap (λ (l : LogData). l.window) (left_is c))) c.self.invariant.1, left_nights c, c.renew_or_remove.ensures.sets)

pub returns-in_err-renew_or_remove-clause-err : goal.returns-in_err-renew_or_remove-clause-err
returns-in_err-renew_or_remove-clause-err c =
    rw (left_is c, c.in_err-renew_or_remove.ensures.err) (on_err c.from_residual-in_err-renew_or_remove.result _
    (seen_alike c.self.inside.settings c.self.inside.log c.self.inside.nights.items c.self.inside.kept c.renew_or_remove.new.kept c.in_err-renew_or_remove.ensures.same ∙ c.self.view_is))

pub returns-in_err-renew_or_remove-clause-kept : goal.returns-in_err-renew_or_remove-clause-kept
returns-in_err-renew_or_remove-clause-kept c = keeps_results c.self.inside.settings c.renew_or_remove.new.log c.renew_or_remove.new.nights.items c.renew_or_remove.new.kept (left_nights c) c.renew_or_remove.ensures.sets

pub returns-in_err-count-clause-kept : goal.returns-in_err-count-clause-kept
returns-in_err-count-clause-kept c =
    keeps_results c.self.inside.settings c.add.new.self c.self.inside.nights.items c.self.inside.kept (c.self.invariant.2 ∙ ap (nights_under c.self.inside.settings) (sym c.in_err-count.ensures.err.0)) c.self.invariant.3

pub returns-in_err-renew_or_remove-clause-wanting : goal.returns-in_err-renew_or_remove-clause-wanting
returns-in_err-renew_or_remove-clause-wanting c = rw (← c.self.view_is) (inr (c.add.new.self, c.in_ok-count.ensures.ok.2, c.renew_or_remove.ensures.work))

pub returns-clause-wanting : goal.returns-clause-wanting
returns-clause-wanting c = rw (← c.self.view_is) (inr (c.add.new.self, c.in_ok-count.ensures.ok.2, c.renew_or_remove.ensures.work))
