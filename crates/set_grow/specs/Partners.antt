-- Which two numbers fit together with an item.
use Rattle.std.specs.Prelude.{ℕ, ◌≡◌, ◌<◌, ◌⊎◌, if◌then◌else◌, nat_lt, List, [], ◌∷◌, map}
use Rattle.std.specs.List.{Contains}
use Rattle.closed_sets.specs.Around.{FitTogether}
use Rattle.closed_sets.specs.Counting.{AreDifferent}
use Rattle.bound_prune.specs.EndsData.{EndsData}
use Rattle.set_grow.specs.Ends.{MayGo, ends_there}
use Rattle.set_grow.specs.Seats.{IsSeatOf}
use Rattle.set_grow.specs.SkyData.{FitsWithParts, SkyData}
use Rattle.set_grow.specs.declared.partners.Partner.{Partner}
use Rattle.set_grow.specs.declared.seats.Seat.{Seat}

-- the numbers of some partners
abbrev pub partner_numbers : List Partner → List ℕ
partner_numbers partners = map (λ (partner : Partner). partner.number) partners

-- a partner stands where its number stands, and its ends are those of its tracklet
pub record IsPartner (sky : SkyData) (partner : Partner) : Type 0 where
  pub seat : IsSeatOf sky.nights partner.number partner.seat
  pub ends : partner.ends ≡ ends_there sky.settings sky.nights partner.seat

-- it may be of one object with an item of another night
pub record IsPartnerOf (sky : SkyData) (item partner : Partner) : Type 0 where
  pub is : IsPartner sky partner
  pub may : MayGo sky.settings item.seat.night item.ends partner.seat.night partner.ends

-- partners of an item: other numbers, each once, among them all that fit together with it
pub record ArePartners (sky : SkyData) (item : Partner) (partners : List Partner) : Type 0 where
  pub different : AreDifferent (partner_numbers partners)
  pub others : ¬ Contains (partner_numbers partners) item.number
  pub each : (partner : Partner) → Contains partners partner → IsPartnerOf sky item partner
  pub complete : (number : ℕ) → ¬ (number ≡ item.number) → FitTogether (FitsWithParts sky) (item.number ∷ number ∷ []) → Contains (partner_numbers partners) number

-- a seat stands before a place of a night
abbrev pub IsPassed : ℕ → ℕ → Seat → Type 0
IsPassed night place seat = (seat.night < night) ⊎ ((seat.night ≡ night) × (seat.place < place))

-- the partners of an item before a place of a night
pub record HoldPartners (sky : SkyData) (item : Partner) (night place : ℕ) (partners : List Partner) : Type 0 where
  pub different : AreDifferent (partner_numbers partners)
  pub each : (partner : Partner) → Contains partners partner → IsPartnerOf sky item partner
  pub passed : (partner : Partner) → Contains partners partner → IsPassed night place partner.seat
  pub complete : (number : ℕ) (seat : Seat) → IsSeatOf sky.nights number seat → IsPassed night place seat → MayGo sky.settings item.seat.night item.ends seat.night (ends_there sky.settings sky.nights seat) → Contains (partner_numbers partners) number

-- a number with its seat and its ends
abbrev pub partner_of : ℕ → Seat → EndsData → Partner
partner_of number seat ends = record { number = number; seat = seat; ends = ends }

-- two numbers, the lesser first
abbrev pub ordered : ℕ → ℕ → ℕ × ℕ
ordered a b = if nat_lt a b then (a, b) else (b, a)

-- two partners are of different nights, and their numbers fit together with the item
abbrev pub FitApart : SkyData → ℕ → Partner → Partner → Type 0
FitApart sky item one other = (¬ (one.seat.night ≡ other.seat.night)) × FitTogether (FitsWithParts sky) (item ∷ (ordered one.number other.number).0 ∷ (ordered one.number other.number).1 ∷ [])

-- two partners of different nights give a pair: their numbers, which fit together with the item
pub record IsPairOf (sky : SkyData) (item : ℕ) (one other : Partner) (pair : ℕ × ℕ) : Type 0 where
  pub apart : ¬ (one.seat.night ≡ other.seat.night)
  pub is : pair ≡ ordered one.number other.number
  pub fit : FitTogether (FitsWithParts sky) (item ∷ pair.0 ∷ pair.1 ∷ [])

-- a pair of one partner and another one
abbrev pub IsPairWith : SkyData → ℕ → Partner → List Partner → ℕ × ℕ → Type 0
IsPairWith sky item one others pair = (other : Partner) × Contains others other × IsPairOf sky item one other pair

-- a pair of two partners, the earlier one first
abbrev pub IsPairAmong : SkyData → ℕ → List Partner → ℕ × ℕ → Type 0
IsPairAmong sky item [] pair = ⊥
IsPairAmong sky item (one ∷ others) pair = IsPairWith sky item one others pair ⊎ IsPairAmong sky item others pair

-- two numbers rise, and neither is the item
pub record IsRisingPair (item : ℕ) (pair : ℕ × ℕ) : Type 0 where
  pub rising : pair.0 < pair.1
  pub first : ¬ (pair.0 ≡ item)
  pub second : ¬ (pair.1 ≡ item)

-- two partners may be of one object with each other too, and so their pair of numbers is tested
pub record IsTestedOf (sky : SkyData) (one other : Partner) (pair : ℕ × ℕ) : Type 0 where
  pub may : MayGo sky.settings one.seat.night one.ends other.seat.night other.ends
  pub is : pair ≡ ordered one.number other.number

-- the same of one partner and another one of some
abbrev pub IsTestedWith : SkyData → Partner → List Partner → ℕ × ℕ → Type 0
IsTestedWith sky one others pair = (other : Partner) × Contains others other × IsTestedOf sky one other pair

-- and of two of some, the earlier one first
abbrev pub IsTestedAmong : SkyData → List Partner → ℕ × ℕ → Type 0
IsTestedAmong sky [] pair = ⊥
IsTestedAmong sky (one ∷ others) pair = IsTestedWith sky one others pair ⊎ IsTestedAmong sky others pair
