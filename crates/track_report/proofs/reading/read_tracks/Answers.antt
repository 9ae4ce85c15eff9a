use Rattle.std.proofs.Common.{◌≡◌, ◌<◌, ◌+◌, ◌^◌, ◌∙◌, suc, arith, length, drop}
use Rattle.std.specs.List.{flat_map, enumerate_from}
use Rattle.track_report.specs.ReportText.{track_text}
use Rattle.track_report.proofs.NextTracks.{next_track, tracks_next, track_pushed, tracks_rest, none_refused, some_given}
use Rattle.track_report.proofs.reading.read_tracks.Goals as goal

pub returns-in_default : goal.returns-in_default
returns-in_default c tracks count all is =
    let place = c.loop.counter in
    let before = c.loop.invariant tracks count all is in
    let within : place < length tracks = omega (arith, count, c.loop-test.true) in
    let next = next_track tracks place within all in
    let here = tracks_next tracks c.loop.text.now place next before.1 in
    let more = flat_map track_text (enumerate_from (1 + place + 1) (drop (suc place) tracks)) in
    let low : 1 + place < 10 ^ 64 = omega (arith, c.loop-test.true, c.ranges.count.fits) in
    let got = c.in_ok-track.ensures (1 + place) next.track more low next.valid here in
    absurd (none_refused (λ f. (f.0 ≡ next.track) × (f.1.now ≡ more)) c.in_ok-track.field-0 c.in_default.is got)

pub loop-preserved : goal.loop-preserved
loop-preserved c tracks count all is =
    let place = c.loop.counter in
    let before = c.loop.invariant tracks count all is in
    let within : place < length tracks = omega (arith, count, c.loop-test.true) in
    let next = next_track tracks place within all in
    let here = tracks_next tracks c.loop.text.now place next before.1 in
    let more = flat_map track_text (enumerate_from (1 + place + 1) (drop (suc place) tracks)) in
    let low : 1 + place < 10 ^ 64 = omega (arith, c.loop-test.true, c.ranges.count.fits) in
    let got = c.in_ok-track.ensures (1 + place) next.track more low next.valid here in
    let both = some_given (λ f. (f.0 ≡ next.track) × (f.1.now ≡ more)) c.in_ok-track.field-0 _ c.in-Some.is got in
    (c.in_ok-push.ensures.ok ∙ track_pushed tracks c.loop.tracks _ place next before.0 both.0, tracks_rest tracks _ place both.1)
