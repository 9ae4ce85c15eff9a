-- The sets of a report list can be told, and are as tracks.
use Rattle.std.proofs.Common.{length, List, [], ◌∷◌, get_or, refl, arith}
use Rattle.std.specs.List.{All}
use Rattle.std.proofs.lemmas.List.Elements.{All-head, All-tail, Contains-get_or}
use Rattle.sky_units.specs.SettingsData.{AreSettings}
use Rattle.sky_units.specs.TrackletData.{IsTracklet, NightTracklets, TrackSetData, spots_of}
use Rattle.sky_units.specs.Tracks.{IsTrack}
use Rattle.sky_units.specs.declared.axis.Axis.TheVariants.{Ra, Dec}
use Rattle.sky_units.specs.declared.reports.Track.{Track}
use Rattle.quad_fit.proofs.ReportedExists.{reported_exists}
use Rattle.exposure_log.specs.Orderly.{IsOrderly}
use Rattle.night_tree.specs.Nights.{tracklets_of_each}
use Rattle.plain_tracks.proofs.Choices.{chosen_have, few_chosen, testable_of_choice, two_each}
use Rattle.kept_nights.specs.KeptNights.{nights_of}
use Rattle.kept_nights.proofs.HeldNights.{in_order_follow}
use Rattle.window_incr.specs.Answers.{AreTracksOf, CanBeTold, IsReportList, IsTrackOf, ids_of}
use Rattle.window_incr.specs.LinkerState.{LinkerState}
use Rattle.window_incr.proofs.Valid.{few_nights}

-- ---- they can be told

track_can_be_told : (s : LinkerState) (set : TrackSetData) → IsOrderly s.log → IsTrack s.settings (tracklets_of_each (nights_of s)) set → CanBeTold s.settings set
track_can_be_told s set o track =
    let nights : List NightTracklets = tracklets_of_each (nights_of s) in
    let follow = in_order_follow s o in
    let testable = testable_of_choice nights set follow track.fitting.choice in
    let two = two_each set (chosen_have IsTracklet nights set follow.tracklets track.fitting.choice) in
    record {
      few = omega (arith, few_chosen nights set track.fitting.choice, few_nights s o);
      two = omega (arith, two, track.three);
      arc = record { rising = testable.rising; short = testable.short; spread = track.fitting.spread };
      fits = track.fitting.fits;
    }

pub can_be_told : (s : LinkerState) (list : List TrackSetData) → IsOrderly s.log → IsReportList s list → All (CanBeTold s.settings) list
can_be_told s list o is = λ k d kn. track_can_be_told s (get_or list k d) o ((is.listed (get_or list k d)).0 (Contains-get_or list k d kn)).track

-- ---- they are

some_track : (s : LinkerState) (set : TrackSetData) → AreSettings s.settings → CanBeTold s.settings set → (track : Track) × IsTrackOf s set track
some_track s set are can =
    let ra = reported_exists Ra s.settings (spots_of set) are can.arc can.two can.fits.0 in
    let dec = reported_exists Dec s.settings (spots_of set) are can.arc can.two can.fits.1 in
    (record { nights = length set; ids = ids_of s.log (spots_of set); ra = ra.0; dec = dec.0 }, record { nights = refl; ids = refl; ra = ra.1; dec = dec.1 })

pub some_tracks : (s : LinkerState) (sets : List TrackSetData) → AreSettings s.settings → All (CanBeTold s.settings) sets → (tracks : List Track) × AreTracksOf s sets tracks
some_tracks s [] are can = ([], tt)
some_tracks s (set ∷ sets) are can =
    let first = some_track s set are (All-head (CanBeTold s.settings) set sets can) in
    let rest = some_tracks s sets are (All-tail (CanBeTold s.settings) set sets can) in
    (first.0 ∷ rest.0, (first.1, rest.1))
