use Rattle.std.proofs.Common.{◌≡◌, ℤ, None, Some, List, refl, sym, ap, subst, ◌∙◌, rules, to_z, of_z, w64}
use mir.Facts.{to_z-of_z}
use mir.Val.{SFits}
use Rattle.exposure_log.specs.Held.{LogData, window_refusal, moved}
use Rattle.exposure_log.proofs.Keeping.{moving_keeps_order}
use Rattle.kept_tracks.specs.KeptFor.{AreKeptFor, KeptData, since}
use Rattle.night_tree.specs.Nights.{NightData, tracklets_of_each}
use Rattle.sky_units.specs.Tracks.{AreNights}
use Rattle.window_incr.specs.Keeping.{nights_under}
use Rattle.window_incr.proofs.Kept.{follow_of, keeps_results, moved_under, rise_of}
use Rattle.window_incr.proofs.state.Linker.set_window.Goals as goal

pub returns-in_err-check_window-clause-cause : goal.returns-in_err-check_window-clause-cause
returns-in_err-check_window-clause-cause c =
    let fits_lo : SFits w64 c.args.lo = search rules in
    let fits_hi : SFits w64 c.args.hi = search rules in
    let refused : window_refusal c.self.inside.log.window c.args.lo c.args.hi ≡ Some c.in_err-check_window.field-0.0 = simp to_z-of_z at c.in_err-check_window.ensures in
    rw (← c.self.view_is, refused) (search rules)

pub returns-in_err-check_window-clause-kept : goal.returns-in_err-check_window-clause-kept
returns-in_err-check_window-clause-kept c = rw (← c.self.view_is) (keeps_results c.self.inside.settings c.self.inside.log c.self.inside.nights.items c.self.inside.kept c.self.invariant.2 c.self.invariant.3)

pub forget_before-requires-clause-rising : goal.forget_before-requires-clause-rising
forget_before-requires-clause-rising c = rise_of c.self.inside.settings c.self.inside.log c.self.inside.nights.items c.self.invariant.2

pub forget_before-requires-clause-follow : goal.forget_before-requires-clause-follow
forget_before-requires-clause-follow c = follow_of c.self.inside.settings c.self.inside.log c.self.inside.nights.items c.window.ensures.orderly c.self.invariant.2

pub forget_before-requires-clause-now : goal.forget_before-requires-clause-now
forget_before-requires-clause-now c =
    let fits_lo : SFits w64 c.args.lo = search rules in
    let fits_hi : SFits w64 c.args.hi = search rules in
    let passed : window_refusal c.self.inside.log.window c.args.lo c.args.hi ≡ None = simp to_z-of_z at c.in_ok-check_window.ensures in
    let plain : to_z w64 (of_z w64 c.args.lo) ≡ c.args.lo = simp to_z-of_z in
    let now : AreNights (tracklets_of_each (since c.args.lo c.self.inside.nights.items)) =
    follow_of c.self.inside.settings (moved c.self.inside.log c.args.lo c.args.hi) (since c.args.lo c.self.inside.nights.items) (moving_keeps_order c.self.inside.log c.args.lo c.args.hi c.window.ensures.orderly passed) (moved_under c.self.inside.settings c.self.inside.log c.args.lo c.args.hi c.self.inside.nights.items c.window.ensures.orderly passed c.self.invariant.2) in
    subst (λ (n : ℤ). AreNights (tracklets_of_each (since n c.self.inside.nights.items))) (sym plain) now

pub returns-in_err-forget_before-clause-kept : goal.returns-in_err-forget_before-clause-kept
returns-in_err-forget_before-clause-kept c =
    let err = c.in_err-forget_before.ensures.err in
    keeps_results c.self.inside.settings c.self.inside.log c.forget_before.new.nights.items c.forget_before.new.kept (err ∙ c.self.invariant.2)
    (subst (λ (kept : KeptData). AreKeptFor c.self.inside.settings c.forget_before.new.nights.items kept) (sym c.in_err-forget_before.ensures.same) (subst (λ (list : List NightData). AreKeptFor c.self.inside.settings list c.self.inside.kept) (sym err) c.self.invariant.3))

pub invariant_of-self-2 : goal.invariant_of-self-2
invariant_of-self-2 c =
    let fits_lo : SFits w64 c.args.lo = search rules in
    let fits_hi : SFits w64 c.args.hi = search rules in
    let passed : window_refusal c.self.inside.log.window c.args.lo c.args.hi ≡ None = simp to_z-of_z at c.in_ok-check_window.ensures in
    let moved_is : c.move_window.new.self ≡ moved c.self.inside.log c.args.lo c.args.hi = simp to_z-of_z at c.move_window.ensures in
    let plain : to_z w64 (of_z w64 c.args.lo) ≡ c.args.lo = simp to_z-of_z in
    let since_lo : c.forget_before.new.nights.items ≡ since c.args.lo c.self.inside.nights.items = subst (λ (n : ℤ). c.forget_before.new.nights.items ≡ since n c.self.inside.nights.items) plain c.in_ok-forget_before.ensures.nights in
    let left : c.forget_before.new.nights.items ≡ nights_under c.self.inside.settings c.move_window.new.self = since_lo ∙ (moved_under c.self.inside.settings c.self.inside.log c.args.lo c.args.hi c.self.inside.nights.items c.window.ensures.orderly passed c.self.invariant.2 ∙ ap (nights_under c.self.inside.settings) (sym moved_is)) in
    (ap (λ (l : LogData). l.night_shift) moved_is ∙ c.self.invariant.0, rw moved_is c.requires, left, c.in_ok-forget_before.ensures.ok c.self.inside.settings c.self.invariant.3)

pub returns-clause-ok : goal.returns-clause-ok
returns-clause-ok c =
    let fits_lo : SFits w64 c.args.lo = search rules in
    let fits_hi : SFits w64 c.args.hi = search rules in
    let moved_is : c.move_window.new.self ≡ moved c.self.inside.log c.args.lo c.args.hi = simp to_z-of_z at c.move_window.ensures in
    rw (moved_is, ← c.self.view_is) refl

pub returns-clause-kept : goal.returns-clause-kept
returns-clause-kept c =
    let fits_lo : SFits w64 c.args.lo = search rules in
    let fits_hi : SFits w64 c.args.hi = search rules in
    let passed : window_refusal c.self.inside.log.window c.args.lo c.args.hi ≡ None = simp to_z-of_z at c.in_ok-check_window.ensures in
    let moved_is : c.move_window.new.self ≡ moved c.self.inside.log c.args.lo c.args.hi = simp to_z-of_z at c.move_window.ensures in
    let plain : to_z w64 (of_z w64 c.args.lo) ≡ c.args.lo = simp to_z-of_z in
    let since_lo : c.forget_before.new.nights.items ≡ since c.args.lo c.self.inside.nights.items = subst (λ (n : ℤ). c.forget_before.new.nights.items ≡ since n c.self.inside.nights.items) plain c.in_ok-forget_before.ensures.nights in
    let left : c.forget_before.new.nights.items ≡ nights_under c.self.inside.settings c.move_window.new.self = since_lo ∙ (moved_under c.self.inside.settings c.self.inside.log c.args.lo c.args.hi c.self.inside.nights.items c.window.ensures.orderly passed c.self.invariant.2 ∙ ap (nights_under c.self.inside.settings) (sym moved_is)) in
    keeps_results c.self.inside.settings c.move_window.new.self c.forget_before.new.nights.items c.forget_before.new.kept left (c.in_ok-forget_before.ensures.ok c.self.inside.settings c.self.invariant.3)
