-- A state has one report, and one answer to what its statistics are.
use Rattle.std.proofs.Common.{◌≡◌, ℕ, ℤ, Option, List, [], ◌∷◌, length, refl, sym, subst, ap, ap₂, ◌∙◌}
use Rattle.std.specs.Cmp.{IsTotalOrder}
use Rattle.std.specs.Cmp.Lexicographic.{options_total}
use Rattle.std.specs.Option.{option_cmp}
use Rattle.std.specs.Ordering.{ordering_reverse}
use Rattle.std.specs.declared.cmp.Ordering.TheVariants.{Less, Greater}
use Rattle.std.proofs.lemmas.Cmp.{lists_total, on_total}
use Rattle.miti_text.specs.CanonicalOrder.{canonical_cmp}
use Rattle.exposure_log.specs.Held.{LogData}
use Rattle.exposure_log.proofs.Sorting.{canonical_total}
use Rattle.sky_units.proofs.ReportedOnce.{reported_is_unique}
use Rattle.sky_units.specs.QuadData.{QuadData}
use Rattle.sky_units.specs.TrackletData.{TrackSetData, spots_of}
use Rattle.sky_units.specs.declared.axis.Axis.TheVariants.{Ra, Dec}
use Rattle.sky_units.specs.declared.reports.Report.{Report}
use Rattle.sky_units.specs.declared.reports.Track.{Track}
use Rattle.sky_units.specs.declared.statistics.Stats.{Stats}
use Rattle.plain_tracks.proofs.Agreement.{same_members}
use Rattle.window_incr.specs.Answers.{IsReportList, IsReport, IsTrackOf, AreTracksOf, AreStats, held_of, set_cmp}
use Rattle.window_incr.specs.LinkerState.{LinkerState}

pub held_total : IsTotalOrder (option_cmp canonical_cmp)
held_total = options_total canonical_total

pub set_total : (log : LogData) → IsTotalOrder (set_cmp log)
set_total log = on_total (λ (set : TrackSetData). held_of log (spots_of set)) (lists_total held_total)

-- nothing stands before what stands before it
pub never_both : {K : Type 0} {cmp : K → K → _} → IsTotalOrder cmp → (k l : K) → cmp k l ≡ Less → cmp l k ≡ Less → ⊥
never_both {cmp = cmp} o k l p q =
    let clash : Less ≡ Greater = sym p ∙ (o.antisymm k l ∙ ap ordering_reverse q) in
    cc

pub lists_agree : (s : LinkerState) (one other : List TrackSetData) → IsReportList s one → IsReportList s other → one ≡ other
lists_agree s one other p q = same_members (λ a b. set_cmp s.log a b ≡ Less) (never_both (set_total s.log)) one other p.in_order q.in_order
    (λ set c. (q.listed set).1 ((p.listed set).0 c)) (λ set c. (p.listed set).1 ((q.listed set).0 c))

-- ---- the tracks of sets
abbrev track_with : ℕ × List (List ℕ) → QuadData × QuadData → Track
track_with told motion = record { nights = told.0; ids = told.1; ra = motion.0; dec = motion.1 }

track_is_unique : (s : LinkerState) (set : TrackSetData) (one other : Track) → IsTrackOf s set one → IsTrackOf s set other → one ≡ other
track_is_unique s set one other a b =
    ap₂ track_with (ap₂ (λ (nights : ℕ) (ids : List (List ℕ)). (nights, ids)) (a.nights ∙ sym b.nights) (a.ids ∙ sym b.ids))
    (ap₂ (λ (ra dec : QuadData). (ra, dec)) (reported_is_unique Ra s.settings (spots_of set) one.ra other.ra a.ra b.ra) (reported_is_unique Dec s.settings (spots_of set) one.dec other.dec a.dec b.dec))

tracks_are_unique : (s : LinkerState) (sets : List TrackSetData) (ones others : List Track) → AreTracksOf s sets ones → AreTracksOf s sets others → ones ≡ others
tracks_are_unique s [] [] [] a b = refl
tracks_are_unique s [] (one ∷ ones) others a b = absurd a
tracks_are_unique s [] [] (other ∷ others) a b = absurd b
tracks_are_unique s (set ∷ sets) [] others a b = absurd a
tracks_are_unique s (set ∷ sets) (one ∷ ones) [] a b = absurd b
tracks_are_unique s (set ∷ sets) (one ∷ ones) (other ∷ others) a b =
    ap₂ (λ (track : Track) (tracks : List Track). track ∷ tracks) (track_is_unique s set one other a.0 b.0) (tracks_are_unique s sets ones others a.1 b.1)

-- ---- the report and the statistics
abbrev report_with : Option (ℤ × ℤ) → List Track → Report
report_with window tracks = record { window = window; tracks = tracks }

pub report_is_unique : (s : LinkerState) (one other : Report) → IsReport s one → IsReport s other → one ≡ other
report_is_unique s one other a b =
    let lists : a.list ≡ b.list = lists_agree s a.list b.list a.is_list b.is_list in
    ap₂ report_with (a.window ∙ sym b.window)
    (tracks_are_unique s b.list one.tracks other.tracks (subst (λ list. AreTracksOf s list one.tracks) lists a.tracks) b.tracks)

abbrev stats_with : ℕ × ℕ → ℕ × ℕ → Stats
stats_with held linked = record { exposures = held.0; detections = held.1; tracklets = linked.0; tracks = linked.1 }

abbrev pair : ℕ → ℕ → ℕ × ℕ
pair m n = (m, n)

pub stats_are_unique : (s : LinkerState) (one other : Stats) → AreStats s one → AreStats s other → one ≡ other
stats_are_unique s one other a b =
    let lists : a.list ≡ b.list = lists_agree s a.list b.list a.is_list b.is_list in
    ap₂ stats_with (ap₂ pair (a.exposures ∙ sym b.exposures) (a.detections ∙ sym b.detections))
    (ap₂ pair (a.tracklets ∙ sym b.tracklets) (a.tracks ∙ ap (λ (list : List TrackSetData). length list) lists ∙ sym b.tracks))
