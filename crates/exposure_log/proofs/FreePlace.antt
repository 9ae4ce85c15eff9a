-- A free place among the exposures is one among the exposures.
use Rattle.std.proofs.Common.{◌≡◌, ℕ, ◌<◌, ◌≤◌, ℤ, Option, List, [], ◌∷◌, length, get_or, map, zero, suc, refl, arith}
use Rattle.std.proofs.Math.ListN.{get_or-map}
use Rattle.std.specs.List.{filter}
use Rattle.std.specs.List.Sorted.{IsPartitionPoint}
use Rattle.std.specs.Ordering.{int_eq}
use Rattle.std.specs.declared.cmp.Ordering.TheVariants.{Less, Greater}
use Rattle.sky_math.specs.Night.{night_at}
use Rattle.miti_text.specs.Observation.{Observation}
use Rattle.exposure_log.specs.declared.numbered.NumberedExposure.{NumberedExposure}
use Rattle.exposure_log.specs.Held.{HeldExposure, IsFreePlace, of_night, exposure_cmp}
use Rattle.exposure_log.specs.Nights.{IsFree, is_of_night}
use Rattle.exposure_log.specs.Numbered.{numbered_cmp, exposure_of}
use Rattle.exposure_log.proofs.Searching.{filter_map_is}

abbrev Slots : Type 0
Slots = List (Option Observation)

length_map : (f : NumberedExposure → HeldExposure) (gs : List NumberedExposure) → length (map f gs) ≡ length gs
length_map f [] = refl
length_map f (g ∷ gs) = let e = length_map f gs in omega (arith, e)

at_place : (P : HeldExposure → Type 0) (f : NumberedExposure → HeldExposure) (gs : List NumberedExposure) (k : ℕ) (d : HeldExposure) → k < length gs → ((g : NumberedExposure) → P (f (get_or gs k g))) → P (get_or (map f gs) k d)
at_place P f [] k d h all = absurd (omega arith)
at_place P f (g ∷ gs) zero d h all = all g
at_place P f (g ∷ gs) (suc k) d h all = at_place P f gs k d (omega arith) all

among_exposures : (slots : Slots) (listed : List NumberedExposure) (epoch : ℤ) (site : List ℕ) (i : ℕ) → i ≤ length listed
    → IsPartitionPoint (λ g. numbered_cmp epoch site g ≡ Less) (λ g. numbered_cmp epoch site g ≡ Greater) listed i → IsFreePlace epoch site (map (exposure_of slots) listed) i
among_exposures slots listed epoch site i h parts =
    let len = length_map (exposure_of slots) listed in
    record {
      within = omega (arith, h, len);
      earlier = λ k d low high. at_place (λ x. exposure_cmp epoch site x ≡ Less) (exposure_of slots) listed k d (omega (arith, high, h)) (λ g. parts.0 k g low high);
      later = λ k d low high. at_place (λ x. exposure_cmp epoch site x ≡ Greater) (exposure_of slots) listed k d (omega (arith, high, len)) (λ g. parts.1 k g low (omega (arith, high, len)));
    }

among_listed : (slots : Slots) (listed : List NumberedExposure) (epoch : ℤ) (site : List ℕ) (i : ℕ) → IsFreePlace epoch site (map (exposure_of slots) listed) i
    → (i ≤ length listed) × IsPartitionPoint (λ g. numbered_cmp epoch site g ≡ Less) (λ g. numbered_cmp epoch site g ≡ Greater) listed i
among_listed slots listed epoch site i free =
    let len = length_map (exposure_of slots) listed in (
      omega (arith, free.within, len),
      (
        (λ k g low high. rw (get_or-map (exposure_of slots) listed k g) at (free.earlier k (exposure_of slots g) low high)),
        (λ k g low high. rw (get_or-map (exposure_of slots) listed k g) at (free.later k (exposure_of slots g) low (omega (arith, high, len)))),
      ),
    )

of_its_night : (slots : Slots) (shift night : ℤ) (listed : List NumberedExposure) → of_night shift night (map (exposure_of slots) listed) ≡ map (exposure_of slots) (filter (is_of_night shift night) listed)
of_its_night slots shift night listed = filter_map_is (λ x. int_eq (night_at shift x.epoch) night) (exposure_of slots) listed

-- the same within a night
pub among_exposures_of_night : (slots : Slots) (shift night : ℤ) (listed : List NumberedExposure) (epoch : ℤ) (site : List ℕ) (i : ℕ)
    → IsFree epoch site (filter (is_of_night shift night) listed) i → IsFreePlace epoch site (of_night shift night (map (exposure_of slots) listed)) i
among_exposures_of_night slots shift night listed epoch site i free = rw (of_its_night slots shift night listed) (among_exposures slots (filter (is_of_night shift night) listed) epoch site i free.0 free.1)

pub among_listed_of_night : (slots : Slots) (shift night : ℤ) (listed : List NumberedExposure) (epoch : ℤ) (site : List ℕ) (i : ℕ)
    → IsFreePlace epoch site (of_night shift night (map (exposure_of slots) listed)) i → IsFree epoch site (filter (is_of_night shift night) listed) i
among_listed_of_night slots shift night listed epoch site i free = among_listed slots (filter (is_of_night shift night) listed) epoch site i (rw (of_its_night slots shift night listed) at free)
