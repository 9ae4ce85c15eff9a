use Rattle.std.proofs.Common.{◌≡◌, List, Ok, sym, ap, subst, ◌∙◌, map, rules, refl, Some}
use Rattle.sky_units.specs.Arcs.{IsArc, MeetSpreadRule}
use Rattle.sky_units.specs.Faults.{IsFirstFault}
use Rattle.sky_units.specs.SpotData.{SpotData}
use Rattle.sky_units.specs.declared.asked.Asked.{Asked}
use Rattle.sky_units.specs.declared.axis.Axis.TheVariants.{Ra, Dec}
use Rattle.window_incr.specs.Asked.{IsAskedSpread, IsAskedTrack, IsShown, asked_set, labels, misfit, placed, placed_spot}
use Rattle.window_incr.specs.LinkerState.{LinkerState}
use Rattle.window_incr.proofs.AskedExists.{arc_of, none_shown, none_told, spread_of_misfit, spread_of_track, track_of, when_ok}
use Rattle.window_incr.proofs.asking.spread.Goals as goal

pub refuse-ra-requires : goal.refuse-ra-requires
refuse-ra-requires c =
    let s : LinkerState = record { settings = c.args.settings.now; log = c.args.log.now } in
    let spots : c.in_ok-placed.placed.items ≡ placed s.log c.args.ids.now = c.in_ok-placed.ensures ∙ ap (map (placed_spot s.log c.args.ids.now)) c.requires.set.spots_are in
    let near : MeetSpreadRule c.as_slice.result.now = search rules in
    let near' : MeetSpreadRule (placed s.log c.args.ids.now) = subst MeetSpreadRule (c.as_slice.ensures.value ∙ spots) near in
    subst IsArc (sym (c.as_slice-2.ensures.value ∙ spots)) (arc_of s c.args.ids.now c.requires.sound c.requires.set.choice near')

pub refuse-dec-requires : goal.refuse-dec-requires
refuse-dec-requires c =
    let s : LinkerState = record { settings = c.args.settings.now; log = c.args.log.now } in
    let spots : c.in_ok-placed.placed.items ≡ placed s.log c.args.ids.now = c.in_ok-placed.ensures ∙ ap (map (placed_spot s.log c.args.ids.now)) c.requires.set.spots_are in
    let near : MeetSpreadRule c.as_slice.result.now = search rules in
    let near' : MeetSpreadRule (placed s.log c.args.ids.now) = subst MeetSpreadRule (c.as_slice.ensures.value ∙ spots) near in
    subst IsArc (sym (c.as_slice-3.ensures.value ∙ spots)) (arc_of s c.args.ids.now c.requires.sound c.requires.set.choice near')

pub track-requires-clause-track : goal.track-requires-clause-track
track-requires-clause-track c =
    let s : LinkerState = record { settings = c.args.settings.now; log = c.args.log.now } in
    let spots : c.in_ok-placed.placed.items ≡ placed s.log c.args.ids.now = c.in_ok-placed.ensures ∙ ap (map (placed_spot s.log c.args.ids.now)) c.requires.set.spots_are in
    let near : MeetSpreadRule c.as_slice.result.now = search rules in
    let near' : MeetSpreadRule (placed s.log c.args.ids.now) = subst MeetSpreadRule (c.as_slice.ensures.value ∙ spots) near in
    let ra : IsShown Ra s.settings (placed s.log c.args.ids.now) c.refuse-ra.result =
    subst (λ (xs : List SpotData). IsShown Ra s.settings xs c.refuse-ra.result) (c.as_slice-2.ensures.value ∙ spots) (record { certificate = c.refuse-ra.ensures.certificate; none = c.refuse-ra.ensures.none }) in
    let dec : IsShown Dec s.settings (placed s.log c.args.ids.now) c.refuse-dec.result =
    subst (λ (xs : List SpotData). IsShown Dec s.settings xs c.refuse-dec.result) (c.as_slice-3.ensures.value ∙ spots) (record { certificate = c.refuse-dec.ensures.certificate; none = c.refuse-dec.ensures.none }) in
    let none = none_shown c.refuse-ra.result c.refuse-dec.result (none_told (misfit c.refuse-ra.result c.refuse-dec.result) (sym c.misfit.ensures ∙ c.in_default-misfit.is)) in
    record {
      set = asked_set s.log c.args.ids.now;
      track = track_of s c.args.ids.now c.requires.set.choice c.requires.set.three near' (ra.none.0 none.0) (dec.none.0 none.1);
      spots_are = c.requires.set.spots_are;
    }

pub returns-in-Some : goal.returns-in-Some
returns-in-Some c =
    let s : LinkerState = record { settings = c.args.settings.now; log = c.args.log.now } in
    let spots : c.in_ok-placed.placed.items ≡ placed s.log c.args.ids.now = c.in_ok-placed.ensures ∙ ap (map (placed_spot s.log c.args.ids.now)) c.requires.set.spots_are in
    (Some (c.in-Some.axis, c.in-Some.a, c.in-Some.b), subst (λ (xs : List SpotData). IsFirstFault xs c.in-Some.axis c.in-Some.a c.in-Some.b) (c.as_slice.ensures.value ∙ spots) c.in-Some.ensures, refl)

pub returns-in-Some-misfit : goal.returns-in-Some-misfit
returns-in-Some-misfit c =
    let s : LinkerState = record { settings = c.args.settings.now; log = c.args.log.now } in
    let spots : c.in_ok-placed.placed.items ≡ placed s.log c.args.ids.now = c.in_ok-placed.ensures ∙ ap (map (placed_spot s.log c.args.ids.now)) c.requires.set.spots_are in
    let near : MeetSpreadRule c.as_slice.result.now = search rules in
    let near' : MeetSpreadRule (placed s.log c.args.ids.now) = subst MeetSpreadRule (c.as_slice.ensures.value ∙ spots) near in
    let ra : IsShown Ra s.settings (placed s.log c.args.ids.now) c.refuse-ra.result =
    subst (λ (xs : List SpotData). IsShown Ra s.settings xs c.refuse-ra.result) (c.as_slice-2.ensures.value ∙ spots) (record { certificate = c.refuse-ra.ensures.certificate; none = c.refuse-ra.ensures.none }) in
    let dec : IsShown Dec s.settings (placed s.log c.args.ids.now) c.refuse-dec.result =
    subst (λ (xs : List SpotData). IsShown Dec s.settings xs c.refuse-dec.result) (c.as_slice-3.ensures.value ∙ spots) (record { certificate = c.refuse-dec.ensures.certificate; none = c.refuse-dec.ensures.none }) in
    spread_of_misfit s c.args.ids.now c.refuse-ra.result c.refuse-dec.result c.in-Some-misfit.asked near' ra dec (sym c.misfit.ensures ∙ c.in-Some-misfit.is)

pub returns : goal.returns
returns c =
    let s : LinkerState = record { settings = c.args.settings.now; log = c.args.log.now } in
    let spots : c.in_ok-placed.placed.items ≡ placed s.log c.args.ids.now = c.in_ok-placed.ensures ∙ ap (map (placed_spot s.log c.args.ids.now)) c.requires.set.spots_are in
    let near : MeetSpreadRule c.as_slice.result.now = search rules in
    let near' : MeetSpreadRule (placed s.log c.args.ids.now) = subst MeetSpreadRule (c.as_slice.ensures.value ∙ spots) near in
    let ra : IsShown Ra s.settings (placed s.log c.args.ids.now) c.refuse-ra.result =
    subst (λ (xs : List SpotData). IsShown Ra s.settings xs c.refuse-ra.result) (c.as_slice-2.ensures.value ∙ spots) (record { certificate = c.refuse-ra.ensures.certificate; none = c.refuse-ra.ensures.none }) in
    let dec : IsShown Dec s.settings (placed s.log c.args.ids.now) c.refuse-dec.result =
    subst (λ (xs : List SpotData). IsShown Dec s.settings xs c.refuse-dec.result) (c.as_slice-3.ensures.value ∙ spots) (record { certificate = c.refuse-dec.ensures.certificate; none = c.refuse-dec.ensures.none }) in
    when_ok c.track.result (λ (a : Asked). IsAskedTrack s (labels c.args.spots.now) (Ok a)) (λ (a : Asked). IsAskedSpread s c.args.ids.now (Ok a))
    (λ a t. spread_of_track s c.args.ids.now c.refuse-ra.result c.refuse-dec.result (Ok a) near' ra dec (sym c.misfit.ensures ∙ c.in_default-misfit.is)
    (subst (λ (xs : List SpotData). IsAskedTrack s (labels xs) (Ok a)) c.requires.set.spots_are t))
    c.track.ensures
