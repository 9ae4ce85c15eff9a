use Rattle.std.proofs.Common.{◌≡◌, IfSome, List, refl, sym, ap, subst, ◌∙◌, rules, to_z, of_z, w64}
use mir.Facts.{to_z-of_z}
use mir.Val.{SFits}
use Rattle.exposure_log.specs.Held.{LogData}
use Rattle.kept_tracks.specs.KeptFor.{AreKeptFor}
use Rattle.night_tree.specs.Nights.{NightData}
use Rattle.sky_units.specs.Limits.{IsNear}
use Rattle.sky_units.specs.SettingsData.{SettingsData}
use Rattle.window_incr.proofs.Kept.{keeps_results, none_under}
use Rattle.window_incr.proofs.state.Linker.new.Goals as goal

pub returns-clause-empty : goal.returns-clause-empty
returns-clause-empty c =
    let fits : SFits w64 c.settings.inside.night_shift = search rules in
    let shift : to_z w64 (of_z w64 c.settings.inside.night_shift) ≡ c.args.settings.night_shift = simp to_z-of_z (ap (λ (s : SettingsData). s.night_shift) c.settings.view_is) in
    rw (c.in_ok-log.ensures, shift) refl

pub invariant_of-result : goal.invariant_of-result
invariant_of-result c =
    let fits : SFits w64 c.settings.inside.night_shift = search rules in
    let shift : to_z w64 (of_z w64 c.settings.inside.night_shift) ≡ c.args.settings.night_shift = simp to_z-of_z (ap (λ (s : SettingsData). s.night_shift) c.settings.view_is) in
    let none = ap (λ (l : LogData). l.window) c.in_ok-log.ensures in (
      ap (λ (l : LogData). l.night_shift) c.in_ok-log.ensures ∙ shift,
      subst (λ window. IfSome window IsNear) (sym none) tt,
      c.new-2.ensures.items ∙ sym (none_under c.args.settings c.in_ok-log.log none),
      subst (λ (list : List NightData). AreKeptFor c.args.settings list c.new-3.result) (sym c.new-2.ensures.items) (c.new-3.ensures c.args.settings),
    )

pub returns-clause-kept : goal.returns-clause-kept
returns-clause-kept c =
    let none = ap (λ (l : LogData). l.window) c.in_ok-log.ensures in
    keeps_results c.args.settings c.in_ok-log.log c.new-2.result.items c.new-3.result (c.new-2.ensures.items ∙ sym (none_under c.args.settings c.in_ok-log.log none))
    (subst (λ (list : List NightData). AreKeptFor c.args.settings list c.new-3.result) (sym c.new-2.ensures.items) (c.new-3.ensures c.args.settings))
