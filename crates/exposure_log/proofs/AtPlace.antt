-- What stands at a place, an epoch and a site: it is among the exposures of its night.
use Rattle.std.proofs.Common.{◌≡◌, ℕ, ◌<◌, ℤ, Bool, true, not, None, Vec, Global, List, [], ◌∷◌, length, get_or, sym, ap, ◌∙◌, arith, inl, inr}
use Rattle.std.specs.List.{filter, remove}
use Rattle.std.specs.Ordering.{is_eq}
use Rattle.std.specs.declared.cmp.Ordering.TheVariants.{Equal}
use Rattle.std.proofs.lemmas.Bool.{cases_lt}
use Rattle.sky_math.specs.Night.{night_at}
use Rattle.exposure_log.specs.declared.numbered.NumberedExposure.{NumberedExposure}
use Rattle.exposure_log.specs.Numbered.{numbered_cmp, RiseStrictly}
use Rattle.exposure_log.specs.Nights.{all_listed, list_of, is_of_night, AreByNight, IsFree}
use Rattle.exposure_log.proofs.NightOrder.{same_night}
use Rattle.exposure_log.proofs.Searching.{filter_none, filter_only, filter_remove, other_place}
use Rattle.exposure_log.proofs.ByNight.{none_at_night, no_listed_of_night, its_night}
use Rattle.exposure_log.proofs.Searching.{filter_within}

abbrev Nights : Type 0
Nights = List (ℤ × Vec NumberedExposure Global)

abbrev pub at_place : ℤ → List ℕ → NumberedExposure → Bool
at_place epoch site g = is_eq (numbered_cmp epoch site g)

of_its_night : (shift epoch : ℤ) (site : List ℕ) (g : NumberedExposure) → at_place epoch site g ≡ true → is_of_night shift (night_at shift epoch) g ≡ true
of_its_night shift epoch site g h = its_night shift (night_at shift epoch) g (same_night shift epoch site g h)

-- what stands at a place is found among the exposures of its night
pub found_in_night : (shift epoch : ℤ) (site : List ℕ) (listed : List NumberedExposure) → filter (at_place epoch site) (filter (is_of_night shift (night_at shift epoch)) listed) ≡ filter (at_place epoch site) listed
found_in_night shift epoch site listed = filter_within (at_place epoch site) (is_of_night shift (night_at shift epoch)) listed (of_its_night shift epoch site)

free_is_none : (epoch : ℤ) (site : List ℕ) (listed : List NumberedExposure) (i : ℕ) → IsFree epoch site listed i → filter (at_place epoch site) listed ≡ []
free_is_none epoch site listed i free = filter_none (at_place epoch site) listed (λ k d h. elim (cases_lt k i) [
  | inl lt ↦ ap is_eq (free.1.0 k d (omega arith) lt)
  | inr ge ↦ ap is_eq (free.1.1 k d ge h)
])

-- nothing stands at a place that is free in its night
pub none_at_place : (shift epoch : ℤ) (site : List ℕ) (listed : List NumberedExposure) (i : ℕ) → IsFree epoch site (filter (is_of_night shift (night_at shift epoch)) listed) i → filter (at_place epoch site) listed ≡ []
none_at_place shift epoch site listed i free =
    sym (found_in_night shift epoch site listed) ∙ free_is_none epoch site (filter (is_of_night shift (night_at shift epoch)) listed) i free

-- nothing stands at a place of a night without a list
pub none_without_list : (shift epoch : ℤ) (site : List ℕ) (ns : Nights) → AreByNight shift ns → list_of ns (night_at shift epoch) ≡ None → filter (at_place epoch site) (all_listed ns) ≡ []
none_without_list shift epoch site ns by missing =
    sym (found_in_night shift epoch site (all_listed ns))
    ∙ ap (filter (at_place epoch site)) (no_listed_of_night shift (night_at shift epoch) (all_listed ns) (none_at_night shift (night_at shift epoch) ns by.under_their_night missing))

-- ---- in a list in strict order

module _ (listed : List NumberedExposure) (epoch : ℤ) (site : List ℕ) (i : ℕ) (g : NumberedExposure) (rise : RiseStrictly listed) (h : i < length listed)
    (found : (d : NumberedExposure) → numbered_cmp epoch site (get_or listed i d) ≡ Equal) (is : g ≡ get_or listed i g) where
  stands_there : (d : NumberedExposure) → at_place epoch site (get_or listed i d) ≡ true
  stands_there d = ap is_eq (found d)

  -- the one exposure of a place
  pub one_at_place : filter (at_place epoch site) listed ≡ g ∷ []
  one_at_place = filter_only (at_place epoch site) listed i g h (stands_there g) (λ k d l ne. other_place listed epoch site i d rise h (found d) k l ne)
      ∙ ap (λ (x : NumberedExposure). x ∷ []) (sym is)

  pub without_place : filter (λ x. not (at_place epoch site x)) listed ≡ remove listed i
  without_place = filter_remove (λ (x : NumberedExposure). not (at_place epoch site x)) listed i g h (ap not (stands_there g)) (λ k d l ne. ap not (other_place listed epoch site i d rise h (found d) k l ne))
