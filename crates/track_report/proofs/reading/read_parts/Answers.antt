use Rattle.std.proofs.Common.{◌≡◌, ◌<◌, ◌++◌, ◌∷◌, ◌^◌, refl, rules, codes, arith, length, ap}
use Rattle.track_report.specs.ReportText.{counts_line, quad_line, track_text}
use Rattle.track_report.specs.Words.{line}
use Rattle.track_report.proofs.Counts.{few_ids}
use Rattle.track_report.proofs.ValidTracks.{told_ra, told_dec, ids_unparted, regrouped}
use Rattle.track_report.proofs.reading.read_parts.Goals as goal

pub returns : goal.returns
returns c number track more low valid is =
    let counts = counts_line number track in
    let ra = quad_line (codes "ra") track.ra in
    let dec = quad_line (codes "dec") track.dec in
    let ids = line (codes "ids" ∷ track.ids) in
    let parts = regrouped c.args.text.now counts ra dec ids more is in
    let whole : length c.args.text.now ≡ length (track_text (number, track) ++ more) = ap length is in
    let few = few_ids number track more in
    let short : length c.args.text.now < 2 ^ 64 = search rules in
    let ids_low : length track.ids < 2 ^ 64 = omega (arith, short, whole, few) in
    let s1 = c.read_counts-nights.ensures number track (ra ++ (dec ++ (ids ++ more))) low (omega (arith, valid.few)) ids_low parts in
    let s2 = c.read_quad-ra.ensures (codes "ra") track.ra (dec ++ (ids ++ more)) refl (told_ra track.ra valid.ra) s1.2 in
    let s3 = c.read_quad-dec.ensures (codes "dec") track.dec (ids ++ more) refl (told_dec track.dec valid.dec) s2.1 in
    let count : c.min.result ≡ length track.ids = omega (arith, c.min.ensures, s1.1, whole, few) in
    let s4 = c.in_ok-ids.ensures track.ids more count (ids_unparted track.ids valid.ids) s3.1 in
    (s1.0, s2.0, s3.0, s4)
