-- Tracklets that fit together may by the boxes that their own ends make.
use Rattle.std.proofs.Common.{◌≡◌, ◌++◌, refl}
use Rattle.std.specs.Prelude.{ℤ, ◌≤ℤ◌}
use Rattle.box_tree.specs.Boxes.{Covers, end_on}
use Rattle.sky_units.specs.Arcs.{IsArc}
use Rattle.sky_units.specs.Motion.{Fits}
use Rattle.sky_units.specs.SettingsData.{SettingsData}
use Rattle.sky_units.specs.TrackletData.{IsTracklet, TrackletData}
use Rattle.bound_prune.specs.BoxEnds.{AreEnds, boxed, ends_of}
use Rattle.bound_prune.specs.Bounds.{May}
use Rattle.bound_prune.specs.Boxes.{BoxedTracklet, box_low, box_high}
use Rattle.bound_prune.specs.EndsData.{EndsData, bounds_of}
use Rattle.bound_prune.specs.Lossless.{two_may}
use Rattle.bound_prune.proofs.FiveAxes.{each_of_five, no_less}

-- a tracklet's own ends hold it
pub own_covers : (box : BoxedTracklet) → Covers 5 (box_low box) (box_high box) (bounds_of (ends_of box))
own_covers box = record {
  from = each_of_five (λ axis. end_on (bounds_of (ends_of box)).low axis ≤ℤ box_low box axis) (no_less (box_low box 0)) (no_less (box_low box 1)) (no_less (box_low box 2)) (no_less (box_low box 3)) (no_less (box_low box 4));
  to = each_of_five (λ axis. box_high box axis ≤ℤ end_on (bounds_of (ends_of box)).high axis) (no_less (box_high box 0)) (no_less (box_high box 1)) (no_less (box_high box 2)) (no_less (box_high box 3)) (no_less (box_high box 4));
}

abbrev with_tolerances : SettingsData → TrackletData → BoxedTracklet
with_tolerances settings spots = boxed spots settings.tol_ra settings.tol_dec

-- two tracklets that are an arc that fits may be of one object
pub own_may : (settings : SettingsData) (s t : TrackletData) → IsTracklet s → IsTracklet t → IsArc (s ++ t) → Fits settings (s ++ t) → May settings (bounds_of (ends_of (boxed s settings.tol_ra settings.tol_dec))) (bounds_of (ends_of (boxed t settings.tol_ra settings.tol_dec)))
own_may settings s t is_s is_t arc fits =
    two_may settings (with_tolerances settings s) (with_tolerances settings t) (bounds_of (ends_of (with_tolerances settings s))) (bounds_of (ends_of (with_tolerances settings t)))
    (record {
      tested = record {
        first = record { tracklet = is_s; ra = refl; dec = refl };
        second = record { tracklet = is_t; ra = refl; dec = refl };
        arc = arc;
      };
      fits = fits;
    })
    (own_covers (with_tolerances settings s)) (own_covers (with_tolerances settings t))

-- ends that are those of a box
abbrev ends_by : ℤ → ℤ → ℤ → ℤ → ℤ → ℤ → ℤ → ℤ → EndsData
ends_by ra dec first last ra_least ra_greatest dec_least dec_greatest = record {
  ra = ra;
  dec = dec;
  first_epoch = first;
  last_epoch = last;
  ra_rates = record { least = ra_least; greatest = ra_greatest };
  dec_rates = record { least = dec_least; greatest = dec_greatest };
}

same_ends : (a b c d e f g h k l m n o p q r : ℤ) → a ≡ k → b ≡ l → c ≡ m → d ≡ n → e ≡ o → f ≡ p → g ≡ q → h ≡ r → ends_by a b c d e f g h ≡ ends_by k l m n o p q r
same_ends a b c d e f g h k l m n o p q r s1 s2 s3 s4 s5 s6 s7 s8 = rw (s1, s2, s3, s4, s5, s6, s7, s8) refl

pub ends_are : (box : BoxedTracklet) (ends : EndsData) → AreEnds box ends → ends ≡ ends_of box
ends_are box ends e =
    same_ends ends.ra ends.dec ends.first_epoch ends.last_epoch ends.ra_rates.least ends.ra_rates.greatest ends.dec_rates.least ends.dec_rates.greatest
    (box_low box 0) (box_low box 1) (box_low box 2) (box_high box 2) (box_low box 3) (box_high box 3) (box_low box 4) (box_high box 4)
    e.ra e.dec e.first_epoch e.last_epoch e.ra_least e.ra_greatest e.dec_least e.dec_greatest
