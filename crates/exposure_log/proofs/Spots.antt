-- The spots of a night, exposure by exposure.
use Rattle.std.proofs.Common.{◌≡◌, ℕ, ◌+◌, ◌<◌, ℤ, Option, Some, None, List, [], ◌∷◌, ◌++◌, length, get_or, take, map, refl, sym, ap, ◌∙◌}
use Rattle.std.specs.List.{filter}
use Rattle.std.specs.Option.{option_map}
use Rattle.std.specs.Ordering.{int_eq}
use Rattle.std.proofs.lemmas.List.{take_more, append-nil, map-append}
use Rattle.std.proofs.lemmas.List.Elements.{filter_map-append}
use Rattle.std.proofs.lemmas.Grind.{flat_map-append}
use Rattle.sky_math.specs.Night.{night_at}
use Rattle.sky_units.specs.SpotData.{SpotData}
use Rattle.miti_text.specs.Observation.{Observation}
use Rattle.exposure_log.specs.declared.numbered.NumberedExposure.{NumberedExposure}
use Rattle.number_register.specs.Numbering.{slot}
use Rattle.exposure_log.specs.Held.{HeldExposure, spot_of, detections_of, of_night}
use Rattle.exposure_log.specs.Numbered.{entries_of, exposure_of}
use Rattle.exposure_log.proofs.Searching.{filter_map_is}

abbrev Slots : Type 0
Slots = List (Option Observation)

-- the spots of the exposures
abbrev pub spots : Slots → List NumberedExposure → List SpotData
spots slots listed = map spot_of (detections_of (map (exposure_of slots) listed))

spots_append : (slots : Slots) (xs ys : List NumberedExposure) → spots slots (xs ++ ys) ≡ spots slots xs ++ spots slots ys
spots_append slots xs ys =
    rw (
      map-append (exposure_of slots) xs ys,
      flat_map-append (λ (x : HeldExposure). x.detections) (map (exposure_of slots) xs) (map (exposure_of slots) ys),
      map-append spot_of (detections_of (map (exposure_of slots) xs)) (detections_of (map (exposure_of slots) ys)),
    ) refl

one_numbered : (slots : Slots) (g : NumberedExposure) → spots slots (g ∷ []) ≡ map spot_of (entries_of slots g.numbers.items)
one_numbered slots g = rw (append-nil (entries_of slots g.numbers.items)) refl

pub one_more : (slots : Slots) (listed : List NumberedExposure) (i : ℕ) (g : NumberedExposure) → i < length listed → g ≡ get_or listed i g
    → spots slots (take (i + 1) listed) ≡ spots slots (take i listed) ++ map spot_of (entries_of slots g.numbers.items)
one_more slots listed i g h is =
    let step : take (i + 1) listed ≡ take i listed ++ g ∷ [] = take_more listed i g h ∙ ap (λ (x : NumberedExposure). take i listed ++ x ∷ []) (sym is) in
    rw (step, spots_append slots (take i listed) (g ∷ []), one_numbered slots g) refl

-- the spots of the exposures of a night are those of its exposures
pub night_spots : (slots : Slots) (shift night : ℤ) (listed : List NumberedExposure) → spots slots (filter (λ g. int_eq (night_at shift g.epoch) night) listed) ≡ map spot_of (detections_of (of_night shift night (map (exposure_of slots) listed)))
night_spots slots shift night listed = ap (λ (xs : List HeldExposure). map spot_of (detections_of xs)) (sym (filter_map_is (λ x. int_eq (night_at shift x.epoch) night) (exposure_of slots) listed))

-- ---- number by number

abbrev entry_of : Slots → ℕ → Option (ℕ × Observation)
entry_of slots n = option_map (λ d. (n, d)) (slot slots n)

abbrev pub one_spot : Option Observation → ℕ → List SpotData
one_spot None n = []
one_spot (Some d) n = spot_of (n, d) ∷ []

entry_spot : (slots : Slots) (n : ℕ) (held : Option Observation) → slot slots n ≡ held → map spot_of (entries_of slots (n ∷ [])) ≡ one_spot held n
entry_spot slots n None e = rw e refl
entry_spot slots n (Some d) e = rw e refl

pub one_number : (slots : Slots) (ns : List ℕ) (i : ℕ) (held : Option Observation) → i < length ns → slot slots (get_or ns i 0) ≡ held
    → map spot_of (entries_of slots (take (i + 1) ns)) ≡ map spot_of (entries_of slots (take i ns)) ++ one_spot held (get_or ns i 0)
one_number slots ns i held h e =
    rw (take_more ns i 0 h, filter_map-append (entry_of slots) (take i ns) (get_or ns i 0 ∷ []), map-append spot_of (entries_of slots (take i ns)) (entries_of slots (get_or ns i 0 ∷ [])), entry_spot slots (get_or ns i 0) held e) refl
