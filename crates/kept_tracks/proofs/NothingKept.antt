-- Of no nights nothing is kept.
use Rattle.std.proofs.Common.{◌≤◌, ℕ, List, [], ◌∷◌, length, refl, subst, arith}
use Rattle.std.proofs.lemmas.Bool.{false≢true}
use Rattle.std.specs.List.{Contains}
use Rattle.set_grow.proofs.Members.{among, in_front, in_none}
use Rattle.set_grow.specs.Fitting.{FitsByNumber}
use Rattle.set_grow.specs.Numbered.{NumberedTracklets, numbers_in}
use Rattle.sky_units.specs.SettingsData.{SettingsData}
use Rattle.kept_tracks.specs.KeptFor.{AreKeptFor}

-- no set of three or more fits
no_large : (settings : SettingsData) (set : List ℕ) → FitsByNumber settings [] set → 3 ≤ length set → ⊥
no_large settings [] f large = omega (arith, large)
no_large settings (x ∷ set) f large = in_none x (subst (λ (list : NumberedTracklets). Contains (numbers_in list) x) f.are.choice (among (x ∷ set) (numbers_in f.are.chosen) x f.are.found (in_front x set)))

pub nothing_kept : (settings : SettingsData) → AreKeptFor settings [] (record { register = record { nights = []; taken = [] }; sets = [] })
nothing_kept settings = record {
  numbered = λ night c. absurd (in_none night c);
  no_others = λ number none. refl;
  none_waits = λ number t. absurd (false≢true t);
  sets = record {
    once = λ i j d ij jl. absurd (omega (arith, jl));
    exactly = λ set. (λ c. absurd (in_none set c), λ w. absurd (no_large settings set w.0.fits w.1));
  };
}
