-- Where numbered tracklets stand: a night's index, and a place among its tracklets.
use Rattle.std.specs.Prelude.{ℕ, ◌≡◌, ◌<◌, ◌≤◌, pos, List, [], Some, length, map, get_or, slice_get, take}
use Rattle.std.specs.List.{All, Contains}
use Rattle.sky_math.specs.Lists.{EachTwo}
use Rattle.sky_units.specs.TrackletData.{TrackSetData}
use Rattle.set_grow.specs.Nights.{NumberedNightData}
use Rattle.set_grow.specs.Numbered.{NumberedTracklet}
use Rattle.set_grow.specs.declared.seats.Seat.{Seat}

-- a tracklet of this number stands at a seat
pub record IsSeatOf (nights : List NumberedNightData) (number : ℕ) (seat : Seat) : Type 0 where
  pub night : NumberedNightData
  pub one : NumberedTracklet
  pub at_night : slice_get nights seat.night ≡ Some night
  pub at_place : slice_get night.tracklets seat.place ≡ Some one
  pub is : one.num ≡ number

-- a tracklet stands at a seat
abbrev pub IsSeat : List NumberedNightData → Seat → Type 0
IsSeat nights seat = (number : ℕ) × IsSeatOf nights number seat

-- no tracklet of the nights has this number
abbrev pub HasNoSeat : List NumberedNightData → ℕ → Type 0
HasNoSeat nights number = (seat : Seat) → ¬ IsSeatOf nights number seat

-- seats in order of their nights, no two of one night
abbrev pub HaveRisingNights : List Seat → Type 0
HaveRisingNights = EachTwo (λ one other. one.night < other.night)

-- so many seats stand before a night, and the others behind it
pub record IsPlaceAmong (seats : List Seat) (night index : ℕ) : Type 0 where
  pub within : index ≤ length seats
  pub before : All (λ (seat : Seat). seat.night < night) (take index seats)
  pub after : (d : Seat) → index < length seats → night < (get_or seats index d).night

-- the seats of some numbers, in order of their nights, no two of one night
pub record AreSeatsOf (nights : List NumberedNightData) (numbers : List ℕ) (seats : List Seat) : Type 0 where
  pub rising : HaveRisingNights seats
  pub each : (number : ℕ) → Contains numbers number → (seat : Seat) × Contains seats seat × IsSeatOf nights number seat
  pub only : (seat : Seat) → Contains seats seat → (number : ℕ) × Contains numbers number × IsSeatOf nights number seat

-- the numbered tracklet at a seat, if one stands there
abbrev pub one_at : List NumberedNightData → Seat → NumberedTracklet
one_at nights seat = get_or (get_or nights seat.night (record { number = pos 0; tracklets = [] })).tracklets seat.place (record { num = 0; tracklet = [] })

-- the tracklets at some seats
abbrev pub tracklets_at : List NumberedNightData → List Seat → TrackSetData
tracklets_at nights seats = map (λ (seat : Seat). (one_at nights seat).tracklet) seats
