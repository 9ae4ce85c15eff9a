-- Spots of one epoch make no tracklets.
use Rattle.std.proofs.Common.{◌≡◌, pos, List, [], refl, inl, inr}
use Rattle.std.specs.Ordering.{int_eq}
use Rattle.std.proofs.lemmas.Bool.{cases_Bool}
use Rattle.sky_units.specs.Pairs.{pairs_of}
use Rattle.sky_units.specs.SettingsData.{SettingsData}
use Rattle.sky_units.specs.SpotData.{SpotData}
use Rattle.pair_finder.specs.OneEpoch.{AreOfOneEpoch}
use Rattle.pair_finder.proofs.NonePaired.{none_paired}
use Rattle.night_tree.specs.Nights.{tracklets_of}

none_of_no_pairs : (settings : SettingsData) (spots : List SpotData) → pairs_of settings spots ≡ [] → tracklets_of settings spots ≡ []
none_of_no_pairs settings spots none = elim (cases_Bool (int_eq settings.stages (pos 1))) [
  | inl t ↦ rw (t, none) refl
  | inr f ↦ elim (cases_Bool (int_eq settings.stages (pos 2))) [ inl t ↦ rw (f, t, none) refl | inr g ↦ rw (f, g, none) refl ]
]

pub none_made : (settings : SettingsData) (spots : List SpotData) → AreOfOneEpoch spots → tracklets_of settings spots ≡ []
none_made settings spots one = none_of_no_pairs settings spots (none_paired settings spots one)
