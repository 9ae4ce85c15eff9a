-- Certificates: the first three, or else the first four, detections of an arc that an axis doesn't admit.
use Rattle.std.specs.Prelude.{◌≡◌, ◌≢◌, ℕ, ◌+◌, ◌<◌, ◌≤◌, ⊤, List, [], ◌∷◌, length, map, slice_index_or, Option, Some, None, MatchOption}
use Rattle.std.specs.Cmp.Lexicographic.{slice_cmp}
use Rattle.std.specs.Ordering.{nat_cmp}
use Rattle.std.specs.declared.cmp.Ordering.TheVariants.{Less}
use Rattle.sky_math.specs.Lists.{EachTwo}
use Rattle.sky_units.specs.AtPlaces.{spots_at}
use Rattle.sky_units.specs.Motion.{AxisAdmits}
use Rattle.sky_units.specs.SettingsData.{SettingsData}
use Rattle.sky_units.specs.SpotData.{SpotData}
use Rattle.sky_units.specs.declared.axis.Axis.{Axis}
use Rattle.sky_units.specs.declared.certificates.Cert.{Cert}
use Rattle.sky_units.specs.declared.certificates.Cert.TheVariants.{Three, Four}

-- places from `from` on and below n, each behind the one before it
abbrev pub ArePlaces : ℕ → ℕ → List ℕ → Type 0
ArePlaces from n [] = ⊤
ArePlaces from n (place ∷ rest) = (from ≤ place) × (place < n) × ArePlaces (place + 1) n rest

-- so many such places
abbrev pub IsChoice : ℕ → ℕ → ℕ → List ℕ → Type 0
IsChoice from n count places = ArePlaces from n places × (length places ≡ count)

-- one list of places comes before another one in lexicographic order
abbrev pub ComesBefore : List ℕ → List ℕ → Type 0
ComesBefore one other = slice_cmp nat_cmp one other ≡ Less

-- each choice of so many places is admitted
abbrev pub AllAdmitted : (List ℕ → Type 0) → ℕ → ℕ → ℕ → Type 0
AllAdmitted IsAdmitted from n count = (places : List ℕ) → IsChoice from n count places → IsAdmitted places

-- of the choices of so many places, this is the first one that isn't admitted
pub record IsFirstRefused (IsAdmitted : List ℕ → Type 0) (from n count : ℕ) (places : List ℕ) : Type 0 where
  pub choice : IsChoice from n count places
  pub refused : ¬ IsAdmitted places
  pub first : (other : List ℕ) → IsChoice from n count other → ComesBefore other places → IsAdmitted other

-- the axis admits the spots at the places
abbrev pub AdmitsAt : Axis → SettingsData → List SpotData → List ℕ → Type 0
AdmitsAt axis settings spots places = AxisAdmits axis settings (spots_at spots places)

-- the axis admits each three of the spots, or each four
abbrev pub AdmitsEach : ℕ → Axis → SettingsData → List SpotData → Type 0
AdmitsEach count axis settings spots = AllAdmitted (AdmitsAt axis settings spots) 0 (length spots) count

-- the numbers of the spots at the places
abbrev pub numbers_at : List SpotData → List ℕ → List ℕ
numbers_at spots places = map (λ (spot : SpotData). spot.num) (spots_at spots places)

-- of the spots, these are the numbers of the first so many, in lexicographic order of their places, that the axis doesn't admit
abbrev pub AreFirstRefused : ℕ → Axis → SettingsData → List SpotData → List ℕ → Type 0
AreFirstRefused count axis settings spots numbers =
    (places : List ℕ) × IsFirstRefused (AdmitsAt axis settings spots) 0 (length spots) count places × (numbers ≡ numbers_at spots places)

-- the certificate of spots in order of epoch: the first three that the axis doesn't admit; where it admits each three, the first such four; where it admits each four too, none
abbrev pub IsCertificate : Axis → SettingsData → List SpotData → Option Cert → Type 0
IsCertificate axis settings spots (Some (Three numbers)) = AreFirstRefused 3 axis settings spots numbers
IsCertificate axis settings spots (Some (Four numbers)) = AdmitsEach 3 axis settings spots × AreFirstRefused 4 axis settings spots numbers
IsCertificate axis settings spots None = AdmitsEach 3 axis settings spots × AdmitsEach 4 axis settings spots

-- the numbers of a certificate
abbrev pub numbers_of : Cert → List ℕ
numbers_of (Three numbers) = numbers
numbers_of (Four numbers) = numbers

-- the spots with these numbers stand at rising places, and the axis doesn't admit them
pub record AreShown (axis : Axis) (settings : SettingsData) (spots : List SpotData) (numbers : List ℕ) : Type 0 where
  pub places : List ℕ
  pub rising : ArePlaces 0 (length spots) places
  pub named : numbers ≡ numbers_at spots places
  pub refused : ¬ AdmitsAt axis settings spots places

-- no two spots have one number
abbrev pub HaveDifferentNumbers : List SpotData → Type 0
HaveDifferentNumbers = EachTwo (λ a b. a.num ≢ b.num)

-- the first place, at `from` or later, of a spot with the number
abbrev pub IsPlaceOf : List SpotData → ℕ → ℕ → Option ℕ → Type 0
IsPlaceOf spots from number result = MatchOption result
    ((place : ℕ) (d : SpotData) → from ≤ place → place < length spots → (slice_index_or spots place d).num ≢ number)
    (λ place. (from ≤ place) × (place < length spots) × ((d : SpotData) → (slice_index_or spots place d).num ≡ number))
