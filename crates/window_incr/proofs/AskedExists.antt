-- Each sound state has an answer to asked ids.
use Rattle.std.proofs.Common.{◌≡◌, ℕ, ◌+◌, ◌≤◌, nat_lt, Bool, true, false, Option, Some, None, Result, Ok, Err, List, [], ◌∷◌, length, map, refl, sym, ap, ◌∙◌, subst, arith, if◌then◌else◌}
use Rattle.std.specs.Prelude.{is_some, ◌||◌, IfOk}
use Rattle.std.specs.Option.{option_map}
use Rattle.std.proofs.lemmas.Bool.Decides.{nat_tests}
use Rattle.night_tree.specs.Nights.{tracklets_of_each}
use Rattle.plain_tracks.specs.Laws.{MaximalTracksExist}
use Rattle.plain_tracks.proofs.Choices.{testable_of_choice}
use Rattle.sky_units.specs.Arcs.{IsArc, MeetSpreadRule}
use Rattle.sky_units.specs.Motion.{AxisAdmits}
use Rattle.sky_units.specs.SettingsData.{AreSettings}
use Rattle.sky_units.specs.SpotData.{SpotData}
use Rattle.sky_units.specs.TrackletData.{TrackSetData, NightTracklets, spots_of}
use Rattle.sky_units.specs.Tracks.{IsChoice, IsTrack, numbers_of}
use Rattle.sky_units.specs.declared.ask_errors.AskError.{AskError}
use Rattle.sky_units.specs.declared.ask_errors.AskError.TheVariants.{Unknown, Twice}
use Rattle.sky_units.specs.declared.asked.Asked.{Asked}
use Rattle.sky_units.specs.declared.asked.Asked.TheVariants.{Listed, Inside, NotTracklet, FewNights, Spread, Misfit}
use Rattle.sky_units.specs.declared.axis.Axis.{Axis}
use Rattle.sky_units.specs.declared.axis.Axis.TheVariants.{Ra, Dec}
use Rattle.sky_units.specs.declared.certificates.Cert.{Cert}
use Rattle.kept_nights.specs.KeptNights.{nights_of}
use Rattle.kept_nights.proofs.HeldNights.{nights_follow}
use Rattle.window_incr.specs.Asked.{FirstCase, IsAsked, IsAskedFit, IsAskedSpread, IsAskedTrack, IsShown, IsSpreadFault, asked_set, few_nights, first_repeated, first_unknown, first_untracked, labels, misfit, number_around, number_of_track, placed}
use Rattle.window_incr.specs.Laws.{AskedExists}
use Rattle.window_incr.specs.LinkerState.{LinkerState}
use Rattle.window_incr.specs.Soundness.{IsSoundState}
use Rattle.window_incr.proofs.AskedFound.{fault_exists, shown_exists}
use Rattle.window_incr.proofs.AskedNights.{is_choice}
use Rattle.window_incr.proofs.AskedOnce.{Answer, OfHeld, OfNights, OfTracklets}
use Rattle.window_incr.proofs.AskedPlaces.{arc_placed, fits_placed, spread_unplaced}
use Rattle.window_incr.proofs.AskedTracks.{covered}
use Rattle.window_incr.proofs.ReportLists.{some_listed}

-- the first case that holds has an answer
some_case : {X : Type 0} (o : Option X) (answer_of : X → Answer) (later : Answer → Type 0) → (o ≡ None → (answer : Answer) × later answer) → (answer : Answer) × FirstCase o (λ x. answer ≡ answer_of x) (later answer)
some_case (Some x) answer_of later rest = (answer_of x, refl)
some_case None answer_of later rest = rest refl

-- ---- facts of a set
pub three_nights : (set : TrackSetData) → few_nights set ≡ None → 3 ≤ length set
three_nights set e = by (nat_lt (length set) 3) refl e
  where
    by : (b : Bool) → nat_lt (length set) 3 ≡ b → (if b then Some (length set) else None) ≡ None → 3 ≤ length set
    by true t e = cc
    by false f e = grind (arith, nat_tests)

pub none_shown : (ra dec : Option Cert) → misfit ra dec ≡ None → (ra ≡ None) × (dec ≡ None)
none_shown None None e = (refl, refl)
none_shown None (Some c) e = cc
none_shown (Some c) dec e = cc

pub arc_of : (s : LinkerState) (ids : List (List ℕ)) → IsSoundState s → IsChoice (tracklets_of_each (nights_of s)) (asked_set s.log ids) → MeetSpreadRule (placed s.log ids) → IsArc (placed s.log ids)
arc_of s ids sound choice spread =
    arc_placed s.log ids (spots_of (asked_set s.log ids)) (testable_of_choice (tracklets_of_each (nights_of s)) (asked_set s.log ids) (nights_follow s sound) choice) spread

pub track_of : (s : LinkerState) (ids : List (List ℕ)) → IsChoice (tracklets_of_each (nights_of s)) (asked_set s.log ids) → 3 ≤ length (asked_set s.log ids) → MeetSpreadRule (placed s.log ids)
    → AxisAdmits Ra s.settings (placed s.log ids) → AxisAdmits Dec s.settings (placed s.log ids) → IsTrack s.settings (tracklets_of_each (nights_of s)) (asked_set s.log ids)
track_of s ids choice three spread ra dec = record {
  fitting = record {
    choice = choice;
    spread = spread_unplaced s.log ids (spots_of (asked_set s.log ids)) spread;
    fits = fits_placed s.log ids s.settings (spots_of (asked_set s.log ids)) ra dec;
  };
  three = three;
}

-- ---- the answer, as the code finds it
abbrev Misfits : Type 0
Misfits = Option (Option Cert × Option Cert)

abbrev told : Misfits → Option Asked
told o = option_map (λ (shown : Option Cert × Option Cert). Misfit shown.0 shown.1) o

abbrev ok : Asked → Answer
ok asked = Ok asked

misfit_case : (o : Misfits) (asked : Asked) (later : Type 0) → told o ≡ Some asked → FirstCase o (λ shown. ok asked ≡ ok (Misfit shown.0 shown.1)) later
misfit_case None asked later e = cc
misfit_case (Some shown) asked later e =
    let same : Misfit shown.0 shown.1 ≡ asked = cc in
    sym (ap ok same)

pub none_told : (o : Misfits) → told o ≡ None → o ≡ None
none_told None e = refl
none_told (Some shown) e = cc

pub spread_of_misfit : (s : LinkerState) (ids : List (List ℕ)) (ra dec : Option Cert) (asked : Asked) → MeetSpreadRule (placed s.log ids) → IsShown Ra s.settings (placed s.log ids) ra → IsShown Dec s.settings (placed s.log ids) dec
    → told (misfit ra dec) ≡ Some asked → IsAskedSpread s ids (Ok asked)
spread_of_misfit s ids ra dec asked near a b e = (None, near, (ra, dec, a, b, misfit_case (misfit ra dec) asked _ e))

pub spread_of_track : (s : LinkerState) (ids : List (List ℕ)) (ra dec : Option Cert) (answer : Answer) → MeetSpreadRule (placed s.log ids) → IsShown Ra s.settings (placed s.log ids) ra → IsShown Dec s.settings (placed s.log ids) dec
    → told (misfit ra dec) ≡ None → IsAskedTrack s (labels (spots_of (asked_set s.log ids))) answer → IsAskedSpread s ids answer
spread_of_track s ids ra dec answer near a b e t =
    let none : misfit ra dec ≡ None = none_told (misfit ra dec) e in
    (None, near, (ra, dec, a, b, subst (λ (o : Misfits). FirstCase o (λ shown. answer ≡ Ok (Misfit shown.0 shown.1)) (IsAskedTrack s (labels (spots_of (asked_set s.log ids))) answer)) (sym none) t))

pub when_ok : {T E : Type 0} → (r : Result T E) (P Q : T → Type 0) → ((x : T) → P x → Q x) → IfOk r P → IfOk r Q
when_ok (Ok x) P Q f p = f x p
when_ok (Err e) P Q f p = p

-- ---- the answer
module _ (lists : MaximalTracksExist) (s : LinkerState) (ids : List (List ℕ)) (sound : IsSoundState s) (are : AreSettings s.settings) where
  abbrev mine : TrackSetData
  mine = asked_set s.log ids

  abbrev nights : List NightTracklets
  nights = tracklets_of_each (nights_of s)

  track_exists : IsTrack s.settings nights mine → (answer : Answer) × IsAskedTrack s (labels (spots_of mine)) answer
  track_exists track =
      let all = lists s.settings nights (nights_follow s sound) in
      let found = some_listed s all.0 sound all.1 in
      let list : List TrackSetData = found.ordered in
      let case = some_case (number_of_track list (labels (spots_of mine))) (λ k. Ok (Listed k)) (λ answer. FirstCase (number_around list (labels (spots_of mine))) (λ k. answer ≡ Ok (Inside k)) ⊥)
      (λ same. some_case (number_around list (labels (spots_of mine))) (λ k. Ok (Inside k)) (λ answer. ⊥)
      (λ around. absurd (covered s.settings nights list mine (nights_follow s sound) found.is_list.listed track same around))) in
      (case.0, (list, found.is_list, case.1))

  fit_exists : IsChoice nights mine → 3 ≤ length mine → MeetSpreadRule (placed s.log ids) → (answer : Answer) × IsAskedFit s ids answer
  fit_exists choice three spread =
      let arc = arc_of s ids sound choice spread in
      let ra = shown_exists Ra s.settings (placed s.log ids) are arc in
      let dec = shown_exists Dec s.settings (placed s.log ids) are arc in
      let case = some_case (misfit ra.0 dec.0) (λ shown. Ok (Misfit shown.0 shown.1)) (IsAskedTrack s (labels (spots_of mine)))
      (λ e. (let none = none_shown ra.0 dec.0 e in track_exists (track_of s ids choice three spread (ra.1.none.0 none.0) (dec.1.none.0 none.1)))) in
      (case.0, (ra.0, dec.0, ra.1, dec.1, case.1))

  spread_exists : IsChoice nights mine → 3 ≤ length mine → (answer : Answer) × IsAskedSpread s ids answer
  spread_exists choice three =
      let fault = fault_exists (placed s.log ids) in
      let case = some_case fault.0 (λ f. Ok (Spread f.0 f.1 f.2)) (IsAskedFit s ids)
      (λ e. fit_exists choice three (subst (IsSpreadFault (placed s.log ids)) e fault.1)) in
      (case.0, (fault.0, fault.1, case.1))

  nights_exist : IsChoice nights mine → (answer : Answer) × OfNights s ids answer
  nights_exist choice = some_case (few_nights mine) (λ n. Ok (FewNights n)) (IsAskedSpread s ids) (λ few. spread_exists choice (three_nights mine few))

  tracklets_exist : (answer : Answer) × OfTracklets s ids answer
  tracklets_exist = some_case (first_untracked s ids) (λ night. Ok (NotTracklet night)) (OfNights s ids) (λ tracked. nights_exist (is_choice s ids sound.orderly tracked))

  held_exists : (answer : Answer) × OfHeld s ids answer
  held_exists = some_case (first_repeated ids) (λ place. Err (Twice place)) (OfTracklets s ids) (λ once. tracklets_exist)

  answer_exists : (answer : Answer) × IsAsked s ids answer
  answer_exists = some_case (first_unknown s.log ids) (λ place. Err (Unknown place)) (OfHeld s ids) (λ known. held_exists)

pub asked_exists : MaximalTracksExist → AskedExists
asked_exists lists = λ s ids sound are. answer_exists lists s ids sound are
