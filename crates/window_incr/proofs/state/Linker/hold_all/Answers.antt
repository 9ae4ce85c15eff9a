use Rattle.std.proofs.Common.{◌≡◌, IfSome, OnErr, Ok, Err, inr, refl, sym, ap, subst, ◌∙◌}
use Rattle.std.specs.declared.result.Result.{Result}
use Rattle.sky_units.specs.Limits.{IsNear}
use Rattle.exposure_log.specs.Held.{LogData}
use Rattle.window_incr.specs.Keeping.{nights_under}
use Rattle.window_incr.proofs.Kept.{keeps_results, seen_alike}
use Rattle.window_incr.proofs.state.Linker.hold_all.Goals as goal

pub renew_all_or_remove-requires-clause-shift : goal.renew_all_or_remove-requires-clause-shift
renew_all_or_remove-requires-clause-shift c = ap (λ (l : LogData). l.night_shift) (sym c.in_ok-outcomes.ensures.came.undone) ∙ c.self.invariant.0

pub renew_all_or_remove-requires-clause-had : goal.renew_all_or_remove-requires-clause-had
renew_all_or_remove-requires-clause-had c = record { before = c.self.inside.log; was_orderly = c.window.ensures.orderly; came = c.in_ok-outcomes.ensures.came; are = c.self.invariant.2 }

now_nights : (c : goal.In_ok-given) → c.renew_all_or_remove.new.nights.items ≡ nights_under c.self.inside.settings c.renew_all_or_remove.new.log
now_nights c = c.in_ok-given.ensures.nights ∙ ap (nights_under c.self.inside.settings) (sym c.in_ok-given.ensures.log.1)

pub returns-clause-ok : goal.returns-clause-ok
returns-clause-ok c = rw (c.in_ok-given.ensures.log.0, c.in_ok-given.ensures.log.1, ← c.self.view_is) (c.in_ok-outcomes.ensures.ok, refl)

pub returns-clause-kept : goal.returns-clause-kept
returns-clause-kept c = keeps_results c.self.inside.settings c.renew_all_or_remove.new.log c.renew_all_or_remove.new.nights.items c.renew_all_or_remove.new.kept (now_nights c) c.renew_all_or_remove.ensures.sets

pub invariant_of-self-2 : goal.invariant_of-self-2
invariant_of-self-2 c =
    let undone = c.in_ok-outcomes.ensures.came.undone in
    let log = c.in_ok-given.ensures.log.1 in
    (ap (λ (l : LogData). l.night_shift) log ∙ (ap (λ (l : LogData). l.night_shift) (sym undone) ∙ c.self.invariant.0), subst (λ window. IfSome window IsNear) (ap (λ (l : LogData). l.window) undone ∙ ap (λ (l : LogData). l.window) (sym log)) c.self.invariant.1, now_nights c, c.renew_all_or_remove.ensures.sets)

left_is : (c : goal.After-from_residual-in_err-given) → c.renew_all_or_remove.new.log ≡ c.self.inside.log
left_is c = c.in_err-given.ensures.removed ∙ sym c.in_ok-outcomes.ensures.came.undone

on_err : {T E : Type 0} (r : Result T E) (P : Type 0) → P → OnErr r P
on_err (Ok x) P p = tt
on_err (Err e) P p = p

left_nights : (c : goal.After-from_residual-in_err-given) → c.renew_all_or_remove.new.nights.items ≡ nights_under c.self.inside.settings c.renew_all_or_remove.new.log
left_nights c = c.in_err-given.ensures.err ∙ (c.self.invariant.2 ∙ ap (nights_under c.self.inside.settings) (sym (left_is c)))

pub invariant_of-self-in_err-given : goal.invariant_of-self-in_err-given
invariant_of-self-in_err-given c =
    (ap (λ (l : LogData). l.night_shift) (left_is c) ∙ c.self.invariant.0, subst (λ window. IfSome window IsNear) (sym (ap (λ (l : LogData). l.window) (left_is c))) c.self.invariant.1, left_nights c, c.renew_all_or_remove.ensures.sets)

pub returns-in_err-given-clause-err : goal.returns-in_err-given-clause-err
returns-in_err-given-clause-err c =
    rw (left_is c, c.in_err-given.ensures.err) (on_err c.from_residual-in_err-given.result _
    (seen_alike c.self.inside.settings c.self.inside.log c.self.inside.nights.items c.self.inside.kept c.renew_all_or_remove.new.kept c.in_err-given.ensures.same ∙ c.self.view_is))

pub returns-in_err-given-clause-kept : goal.returns-in_err-given-clause-kept
returns-in_err-given-clause-kept c = keeps_results c.self.inside.settings c.renew_all_or_remove.new.log c.renew_all_or_remove.new.nights.items c.renew_all_or_remove.new.kept (left_nights c) c.renew_all_or_remove.ensures.sets

pub returns-in_err-outcomes-clause-kept : goal.returns-in_err-outcomes-clause-kept
returns-in_err-outcomes-clause-kept c =
    keeps_results c.self.inside.settings c.hold_all.new.log c.self.inside.nights.items c.self.inside.kept (c.self.invariant.2 ∙ ap (nights_under c.self.inside.settings) (sym c.in_err-outcomes.ensures.err)) c.self.invariant.3

pub returns-in_err-given-clause-wanting : goal.returns-in_err-given-clause-wanting
returns-in_err-given-clause-wanting c = rw (← c.self.view_is) (inr (c.in_ok-outcomes.outcomes.items, c.hold_all.new.log, c.in_ok-outcomes.ensures.ok, c.renew_all_or_remove.ensures.work))

pub returns-clause-wanting : goal.returns-clause-wanting
returns-clause-wanting c = rw (← c.self.view_is) (inr (c.in_ok-outcomes.outcomes.items, c.hold_all.new.log, c.in_ok-outcomes.ensures.ok, c.renew_all_or_remove.ensures.work))
