-- Searches for the first spots that an axis doesn't admit, behind places that were chosen already.
use Rattle.std.specs.Prelude.{ℕ, ◌+◌, List, [], ◌∷◌, ◌++◌, length, Option, MatchOption}
use Rattle.sky_units.specs.SettingsData.{SettingsData}
use Rattle.sky_units.specs.SpotData.{SpotData}
use Rattle.sky_units.specs.declared.axis.Axis.{Axis}
use Rattle.refusal_cert.specs.Certificates.{AdmitsAt, AllAdmitted, IsFirstRefused}

-- the first place behind some rising places
abbrev pub behind : List ℕ → ℕ
behind [] = 0
behind (place ∷ []) = place + 1
behind (place ∷ next ∷ rest) = behind (next ∷ rest)

-- places as a list
abbrev pub one : ℕ → List ℕ
one place = place ∷ []

abbrev pub two : ℕ × ℕ → List ℕ
two places = places.0 ∷ places.1 ∷ []

abbrev pub three : ℕ × ℕ × ℕ → List ℕ
three places = places.0 ∷ places.1 ∷ places.2 ∷ []

abbrev pub four : ℕ × ℕ × ℕ × ℕ → List ℕ
four places = places.0 ∷ places.1 ∷ places.2 ∷ places.3 ∷ []

-- the first so many places behind the chosen ones at which, together with these, the axis doesn't admit the spots; none where it admits them at all such places
abbrev pub FindsFirst : {X : Type 0} → ℕ → (X → List ℕ) → Axis → SettingsData → List SpotData → List ℕ → Option X → Type 0
FindsFirst count places_of axis settings spots chosen result = MatchOption result
    (AllAdmitted (λ rest. AdmitsAt axis settings spots (chosen ++ rest)) (behind chosen) (length spots) count)
    (λ found. IsFirstRefused (λ rest. AdmitsAt axis settings spots (chosen ++ rest)) (behind chosen) (length spots) count (places_of found))
