use Rattle.std.proofs.Common.{◌≡◌, ◌≤◌, ◌<◌, ℕ, true, false, None, Ok, length, nat_lt, refl, sym, ap, subst, ◌∙◌, rules, w64, arith}
use Rattle.std.proofs.lemmas.Bool.Decides.{nat_tests}
use mir.Facts.{to_z-of_z}
use mir.Val.{SFits, to_z, of_z}
use Rattle.sky_units.specs.declared.asked.Asked.TheVariants.{FewNights}
use Rattle.window_incr.specs.Asked.{asked_set, first_repeated, first_unknown}
use Rattle.window_incr.specs.Asking.{AreAsked, AreNumbersOf, IsFound}
use Rattle.window_incr.specs.LinkerState.{LinkerState}
use Rattle.window_incr.proofs.AskedNights.{is_choice}
use Rattle.window_incr.proofs.AskedOnce.{Answer}
use Rattle.window_incr.proofs.asking.asked.Goals as goal

pub returns-in-Untracked : goal.returns-in-Untracked
returns-in-Untracked c = λ h.
    let s : LinkerState = record { settings = c.args.settings.now; log = c.args.log.now } in
    let unknown : first_unknown s.log c.args.ids.now ≡ None = c.in_ok-numbers.ensures.ok.0 in
    let repeated : first_repeated c.args.ids.now ≡ None = sym c.first_repeat.ensures ∙ c.in_default.is in
    let a : AreAsked s.log c.args.nights.now c.as_slice.result.now s c.args.ids.now =
    record { log_is = refl; sound = c.requires.sound; kept = c.requires.kept; numbers_are = subst (AreNumbersOf s.log c.args.ids.now) (sym c.as_slice.ensures.value) c.in_ok-numbers.ensures.ok.1 } in
    let found : IsFound s c.args.ids.now c.in_ok-night.field-0 = c.in_ok-night.ensures s c.args.ids.now a in
    let untracked = subst (IsFound s c.args.ids.now) c.in-Untracked.is found in
    let fits : SFits w64 c.in-Untracked.night = search rules in
    let plain : to_z w64 (of_z w64 c.in-Untracked.night) ≡ c.in-Untracked.night = simp to_z-of_z in
    rw (unknown, repeated, untracked, plain) refl

pub returns-in-Tracked : goal.returns-in-Tracked
returns-in-Tracked c = λ h.
    let s : LinkerState = record { settings = c.args.settings.now; log = c.args.log.now } in
    let unknown : first_unknown s.log c.args.ids.now ≡ None = c.in_ok-numbers.ensures.ok.0 in
    let repeated : first_repeated c.args.ids.now ≡ None = sym c.first_repeat.ensures ∙ c.in_default.is in
    let a : AreAsked s.log c.args.nights.now c.as_slice.result.now s c.args.ids.now =
    record { log_is = refl; sound = c.requires.sound; kept = c.requires.kept; numbers_are = subst (AreNumbersOf s.log c.args.ids.now) (sym c.as_slice.ensures.value) c.in_ok-numbers.ensures.ok.1 } in
    let found : IsFound s c.args.ids.now c.in_ok-night.field-0 = c.in_ok-night.ensures s c.args.ids.now a in
    let all = subst (IsFound s c.args.ids.now) c.in-Tracked.is found in
    let below : nat_lt (length (asked_set s.log c.args.ids.now)) 3 ≡ true = grind (arith, nat_tests, all.1, c.if-this-lt3.true) in
    rw (unknown, repeated, all.0, below) (ap (λ (n : ℕ). Ok (FewNights n)) all.1)

pub spread-requires-clause-set : goal.spread-requires-clause-set
spread-requires-clause-set c =
    let s : LinkerState = record { settings = c.args.settings.now; log = c.args.log.now } in
    let unknown : first_unknown s.log c.args.ids.now ≡ None = c.in_ok-numbers.ensures.ok.0 in
    let repeated : first_repeated c.args.ids.now ≡ None = sym c.first_repeat.ensures ∙ c.in_default.is in
    let a : AreAsked s.log c.args.nights.now c.as_slice.result.now s c.args.ids.now =
    record { log_is = refl; sound = c.requires.sound; kept = c.requires.kept; numbers_are = subst (AreNumbersOf s.log c.args.ids.now) (sym c.as_slice.ensures.value) c.in_ok-numbers.ensures.ok.1 } in
    let found : IsFound s c.args.ids.now c.in_ok-night.field-0 = c.in_ok-night.ensures s c.args.ids.now a in
    let all = subst (IsFound s c.args.ids.now) c.in-Tracked.is found in
    record {
      choice = is_choice s c.args.ids.now c.requires.sound.orderly all.0;
      three = omega (arith, all.1, c.if-this-lt3.false);
      spots_are = c.as_slice-in-Tracked-2.ensures.value ∙ all.2;
    }

pub returns : goal.returns
returns c = λ h.
    let s : LinkerState = record { settings = c.args.settings.now; log = c.args.log.now } in
    let unknown : first_unknown s.log c.args.ids.now ≡ None = c.in_ok-numbers.ensures.ok.0 in
    let repeated : first_repeated c.args.ids.now ≡ None = sym c.first_repeat.ensures ∙ c.in_default.is in
    let a : AreAsked s.log c.args.nights.now c.as_slice.result.now s c.args.ids.now =
    record { log_is = refl; sound = c.requires.sound; kept = c.requires.kept; numbers_are = subst (AreNumbersOf s.log c.args.ids.now) (sym c.as_slice.ensures.value) c.in_ok-numbers.ensures.ok.1 } in
    let found : IsFound s c.args.ids.now c.in_ok-night.field-0 = c.in_ok-night.ensures s c.args.ids.now a in
    let all = subst (IsFound s c.args.ids.now) c.in-Tracked.is found in
    let above : nat_lt (length (asked_set s.log c.args.ids.now)) 3 ≡ false = grind (arith, nat_tests, all.1, c.if-this-lt3.false) in
    rw (unknown, repeated, all.0, above) c.in_ok-spread-in-Tracked-2.ensures
