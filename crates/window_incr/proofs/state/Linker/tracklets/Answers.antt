use Rattle.std.proofs.Common.{◌≡◌, ℕ, ℤ, List, Some, None, map, sym, ap, subst, ◌∙◌, rules, to_z, of_z, w64}
use mir.Facts.{to_z-of_z}
use mir.Val.{SFits}
use Rattle.std.specs.List.{find}
use Rattle.std.specs.Ordering.{int_eq}
use Rattle.std.specs.Result.{IfOk}
use Rattle.night_tree.specs.Nights.{NightData}
use Rattle.window_incr.specs.Answers.{ids_of, tracklet_ids}
use Rattle.window_incr.specs.LinkerState.{LinkerState}
use Rattle.kept_nights.proofs.KeptNights.{found_tracklets, no_tracklets}
use Rattle.window_incr.proofs.state.Linker.tracklets.Goals as goal

pub returns-in-Some : goal.returns-in-Some
returns-in-Some c =
    let fits : SFits w64 c.args.night = search rules in
    let plain : to_z w64 (of_z w64 c.args.night) ≡ c.args.night = simp to_z-of_z in
    let found : Some c.in-Some.kept.now ≡ find (λ (kept : NightData). int_eq kept.number c.args.night) c.as_slice.result.now =
    subst (λ (n : ℤ). Some c.in-Some.kept.now ≡ find (λ (kept : NightData). int_eq kept.number n) c.as_slice.result.now) plain c.in-Some.ensures in
    let s : LinkerState = record { settings = c.self.inside.settings; log = c.self.inside.log } in
    let ids : map (ids_of c.self.inside.log) c.tracklets.result.now ≡ tracklet_ids s c.args.night =
    ap (map (ids_of c.self.inside.log)) c.tracklets.ensures ∙ ap (map (ids_of c.self.inside.log)) (found_tracklets s c.args.night c.as_slice.result.now c.in-Some.kept.now (c.as_slice.ensures.value ∙ c.self.invariant.2) (sym found)) in
    rw (← c.self.view_is) (subst (λ (z : List (List (List ℕ))). IfOk c.groups_of.result (λ groups. groups ≡ z)) ids c.groups_of.ensures)

pub returns-in-None : goal.returns-in-None
returns-in-None c =
    let fits : SFits w64 c.args.night = search rules in
    let plain : to_z w64 (of_z w64 c.args.night) ≡ c.args.night = simp to_z-of_z in
    let found : None ≡ find (λ (kept : NightData). int_eq kept.number c.args.night) c.as_slice.result.now =
    subst (λ (n : ℤ). None ≡ find (λ (kept : NightData). int_eq kept.number n) c.as_slice.result.now) plain c.in-None.ensures in
    let s : LinkerState = record { settings = c.self.inside.settings; log = c.self.inside.log } in
    rw (← c.self.view_is) (c.new.ensures ∙ sym (ap (map (ids_of c.self.inside.log)) (no_tracklets s c.args.night c.as_slice.result.now c.window.ensures.orderly (c.as_slice.ensures.value ∙ c.self.invariant.2) (sym found))))
