-- A night whose exposures are of one epoch has no tracklets, as if it had no spots.
use Rattle.std.proofs.Common.{◌≡◌, ℤ, ◌≤ℤ◌, List, [], get_or, sym, ap, ◌∙◌, inl, inr, arith}
use Rattle.std.specs.List.{Contains}
use Rattle.std.specs.Ordering.{int_eq}
use Rattle.std.proofs.lemmas.Bool.{cases_order}
use Rattle.std.proofs.lemmas.Bool.Decides.{Decides-int_eq}
use Rattle.std.proofs.lemmas.Int.{ints}
use Rattle.std.proofs.lemmas.List.{get_or_read}
use Rattle.sky_math.specs.Lists.{EachTwo}
use Rattle.sky_math.specs.Night.{night_at}
use Rattle.sky_units.specs.SettingsData.{SettingsData}
use Rattle.sky_units.specs.SpotData.{SpotData}
use Rattle.exposure_log.specs.Held.{LogData, HeldExposure, AreOfOneEpoch, of_night, spots_of_night}
use Rattle.exposure_log.specs.Orderly.{IsOrderly}
use Rattle.night_tree.specs.Nights.{tracklets_of}
use Rattle.night_tree.proofs.NoPairs.{none_made}
use Rattle.plain_tracks.proofs.Tracks.{filter_exact}
use Rattle.kept_nights.proofs.HeldNights.{IsSpotOf, epoch_of, spots_are_of}
use Rattle.kept_nights.proofs.KeptNights.{of_no_spots}

one_epoch : (xs : List HeldExposure) (x y : HeldExposure) → EachTwo (λ (a b : HeldExposure). a.epoch ≡ b.epoch) xs → Contains xs x → Contains xs y → x.epoch ≡ y.epoch
one_epoch xs x y same c d =
    let one : x ≡ get_or xs c.0 x = sym c.2 in
    let other : y ≡ get_or xs d.0 x = get_or_read xs d.0 y d.1 (sym d.2) x in
    let from : x.epoch ≡ (get_or xs c.0 x).epoch = ap (λ (a : HeldExposure). a.epoch) one in
    let to : (get_or xs d.0 x).epoch ≡ y.epoch = ap (λ (a : HeldExposure). a.epoch) (sym other) in
    elim (cases_order c.0 d.0) [
      | inl e ↦ from ∙ (ap (λ k. (get_or xs k x).epoch) e ∙ to)
      | inr (inl less) ↦ from ∙ (same c.0 d.0 x less d.1 ∙ to)
      | inr (inr more) ↦ from ∙ (sym (same d.0 c.0 x more c.1) ∙ to)
    ]

in_its_night : (log : LogData) (night : ℤ) (spot : SpotData) (h : IsSpotOf log night spot) → Contains (of_night log.night_shift night log.exposures) h.exposure
in_its_night log night spot h =
    (filter_exact (λ x. int_eq (night_at log.night_shift x.epoch) night) log.exposures h.exposure).1 (h.held, (Decides-int_eq (night_at log.night_shift h.exposure.epoch) night).1 h.night_is)

spots_of_one : (log : LogData) (night : ℤ) (a b : SpotData) → IsOrderly log → AreOfOneEpoch log night → IsSpotOf log night a → IsSpotOf log night b → b.epoch ≤ℤ a.epoch
spots_of_one log night a b o one h k =
    let same = one_epoch (of_night log.night_shift night log.exposures) h.exposure k.exposure one (in_its_night log night a h) (in_its_night log night b k) in
    let first = epoch_of log night a h o.of_one in
    let second = epoch_of log night b k o.of_one in
    omega (arith, ints, same, first, second)

pub as_of_no_spots : (settings : SettingsData) (log : LogData) (night : ℤ) → IsOrderly log → AreOfOneEpoch log night → tracklets_of settings [] ≡ tracklets_of settings (spots_of_night log night)
as_of_no_spots settings log night o one =
    let spots : List SpotData = spots_of_night log night in
    of_no_spots settings ∙ sym (none_made settings spots (λ i j d hi hj. spots_of_one log night (get_or spots i d) (get_or spots j d) o one (spots_are_of log night i d hi) (spots_are_of log night j d hj)))
