-- The family of the fitting sets of some nights, in the form of a value.
use Rattle.std.specs.Prelude.{ℕ, List}
use Rattle.closed_sets.specs.Families.{IsHereditary}
use Rattle.sky_units.specs.SettingsData.{SettingsData}
use Rattle.set_grow.specs.Fitting.{FitsByNumber}
use Rattle.set_grow.specs.Nights.{NumberedNightData, by_night}
use Rattle.set_grow.specs.declared.places.Place.{Place}

-- settings, nights, and the table of their tracklets
pub record SkyData : Type 0 where
  pub settings : SettingsData
  pub nights : List NumberedNightData
  pub table : List Place

-- the sets that fit
abbrev pub FitsIn : SkyData → List ℕ → Type 0
FitsIn sky = FitsByNumber sky.settings (by_night sky.nights)

-- the same with the fact that their parts fit, which holds of nights that follow one another
pub record FitsWithParts (sky : SkyData) (set : List ℕ) : Type 0 where
  pub parts : IsHereditary (FitsIn sky)
  pub fits : FitsIn sky set

pub with_parts : (sky : SkyData) → IsHereditary (FitsWithParts sky)
with_parts sky = record {
  sets = λ set f. f.parts.sets set f.fits;
  parts = λ set part f is_set among. record { parts = f.parts; fits = f.parts.parts set part f.fits is_set among };
}
