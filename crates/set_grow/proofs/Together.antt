-- Numbers fit together exactly where the spots of their tracklets, in order of their nights, are an arc that fits.
use Rattle.std.proofs.Common.{◌≡◌, ℕ, ◌<◌, List, [], ◌∷◌, ◌++◌, append_assoc, ◌↔◌, ◌∙◌, sym, subst, ap, arith}
use Rattle.std.proofs.lemmas.List.{append-nil}
use Rattle.std.proofs.lemmas.List.Elements.{All-cons, All-nil}
use Rattle.std.specs.List.{All}
use mathlib.Core.Logic.{inl, inr}
use Rattle.closed_sets.specs.Around.{FitTogether}
use Rattle.sky_units.specs.Arcs.{IsArc}
use Rattle.sky_units.specs.Motion.{Fits}
use Rattle.sky_units.specs.SpotData.{SpotData}
use Rattle.sky_units.specs.TrackletData.{spots_of}
use Rattle.sky_units.specs.Tracks.{AreAmong}
use Rattle.set_grow.specs.Nights.{AreInPlace, NumberedNightData}
use Rattle.set_grow.specs.Seats.{AreSeatsOf, IsSeatOf, one_at, tracklets_at}
use Rattle.set_grow.specs.SkyData.{FitsWithParts, SkyData, with_parts}
use Rattle.set_grow.specs.declared.seats.Seat.{Seat}
use Rattle.set_grow.proofs.Members.{among, each_among, each_two_cons, front_or_rest, in_front, in_rest}
use Rattle.set_grow.proofs.NumberSets.{set_of}
use Rattle.set_grow.proofs.Seating.{no_seats}
use Rattle.set_grow.proofs.SkyFits.{fits_there}

-- the spots of the tracklets at some seats are an arc that fits
abbrev pub FitThere : SkyData → List Seat → Type 0
FitThere sky seats = IsArc (spots_of (tracklets_at sky.nights seats)) × Fits sky.settings (spots_of (tracklets_at sky.nights seats))

-- the seats of numbers are those of others that are the same as a set
same_seats : (nights : List NumberedNightData) (numbers set : List ℕ) (seats : List Seat) → AreAmong numbers set → AreAmong set numbers → AreSeatsOf nights numbers seats → AreSeatsOf nights set seats
same_seats nights numbers set seats there back s = record {
  rising = s.rising;
  each = λ x c. s.each x (among set numbers x back c);
  only = λ seat c. (let v = s.only seat c in (v.0, among numbers set v.0 there v.1, v.2));
}

pub together_there : (sky : SkyData) (numbers : List ℕ) (seats : List Seat) → AreInPlace sky.nights sky.table → AreSeatsOf sky.nights numbers seats → FitThere sky seats ↔ FitTogether (FitsWithParts sky) numbers
together_there sky numbers seats p s =
    let set = set_of numbers in
    let there = fits_there sky.settings sky.nights sky.table set.0 seats p set.1 (same_seats sky.nights numbers set.0 seats set.3 set.2 s) in (
      λ f. record { whole = set.0; fits = there.0 f; has = set.3 },
      λ f. there.1 ((with_parts sky).parts f.whole set.0 f.fits set.1 (each_among set.0 f.whole (λ x c. among numbers f.whole x f.has (among set.0 numbers x set.2 c)))),
    )

-- ---- the seats of two and of three numbers
abbrev IsBefore : Seat → Seat → Type 0
IsBefore one other = one.night < other.night

-- a number before others, in an earlier night
pub seat_before : (nights : List NumberedNightData) (number : ℕ) (seat : Seat) (numbers : List ℕ) (seats : List Seat) → IsSeatOf nights number seat → All (IsBefore seat) seats → AreSeatsOf nights numbers seats → AreSeatsOf nights (number ∷ numbers) (seat ∷ seats)
seat_before nights number seat numbers seats w before s = record {
  rising = each_two_cons IsBefore seat seats before s.rising;
  each = λ x c. elim (front_or_rest number numbers x c) [
    | inl e ↦ (seat, in_front seat seats, subst (λ n. IsSeatOf nights n seat) e w)
    | inr d ↦ (let v = s.each x d in (v.0, in_rest seat seats v.0 v.1, v.2))
  ];
  only = λ other c. elim (front_or_rest seat seats other c) [
    | inl e ↦ (number, in_front number numbers, subst (IsSeatOf nights number) e w)
    | inr d ↦ (let v = s.only other d in (v.0, in_rest number numbers v.0 v.1, v.2))
  ];
}

pub seats_of_two : (nights : List NumberedNightData) (a b : ℕ) (s t : Seat) → IsSeatOf nights a s → IsSeatOf nights b t → s.night < t.night → AreSeatsOf nights (a ∷ b ∷ []) (s ∷ t ∷ [])
seats_of_two nights a b s t v w later =
    seat_before nights a s (b ∷ []) (t ∷ []) v (All-cons (IsBefore s) t [] later (All-nil (IsBefore s)))
    (seat_before nights b t [] [] w (All-nil (IsBefore t)) (no_seats nights))

pub seats_of_three : (nights : List NumberedNightData) (a b c : ℕ) (s t u : Seat) → IsSeatOf nights a s → IsSeatOf nights b t → IsSeatOf nights c u → s.night < t.night → t.night < u.night → AreSeatsOf nights (a ∷ b ∷ c ∷ []) (s ∷ t ∷ u ∷ [])
seats_of_three nights a b c s t u v w x first second =
    let whole : s.night < u.night = omega (arith, first, second) in
    seat_before nights a s (b ∷ c ∷ []) (t ∷ u ∷ []) v (All-cons (IsBefore s) t (u ∷ []) first (All-cons (IsBefore s) u [] whole (All-nil (IsBefore s))))
    (seats_of_two nights b c t u w x second)

-- ---- three numbers
pub three_there : (sky : SkyData) (a b c : ℕ) (s t u : Seat) → AreInPlace sky.nights sky.table → IsSeatOf sky.nights a s → IsSeatOf sky.nights b t → IsSeatOf sky.nights c u → s.night < t.night → t.night < u.night →
    (IsArc ((one_at sky.nights s).tracklet ++ (one_at sky.nights t).tracklet ++ (one_at sky.nights u).tracklet) × Fits sky.settings ((one_at sky.nights s).tracklet ++ (one_at sky.nights t).tracklet ++ (one_at sky.nights u).tracklet)) ↔ FitTogether (FitsWithParts sky) (a ∷ b ∷ c ∷ [])
three_there sky a b c s t u p v w x first second =
    subst (λ (list : List SpotData). (IsArc list × Fits sky.settings list) ↔ FitTogether (FitsWithParts sky) (a ∷ b ∷ c ∷ []))
    (one_after_the_other (one_at sky.nights s).tracklet (one_at sky.nights t).tracklet (one_at sky.nights u).tracklet)
    (together_there sky (a ∷ b ∷ c ∷ []) (s ∷ t ∷ u ∷ []) p (seats_of_three sky.nights a b c s t u v w x first second))
  where
    one_after_the_other : (k l m : List SpotData) → k ++ (l ++ (m ++ [])) ≡ k ++ l ++ m
    one_after_the_other k l m = ap (λ (last : List SpotData). k ++ (l ++ last)) (append-nil m) ∙ sym (append_assoc k l m)

-- ---- fewer numbers, and the same ones in another order
pub fewer : (Fits : List ℕ → Type 0) (numbers some : List ℕ) → AreAmong some numbers → FitTogether Fits numbers → FitTogether Fits some
fewer Fits numbers some h f = record { whole = f.whole; fits = f.fits; has = each_among some f.whole (λ x c. among numbers f.whole x f.has (among some numbers x h c)) }
