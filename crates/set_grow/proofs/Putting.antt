-- A seat is put among seats in order of their nights.
use Rattle.std.proofs.Common.{◌≡◌, ℕ, ◌<◌, List, [], ◌∷◌, ◌++◌, length, get_or, take, drop, zero, suc, sym, subst, arith}
use Rattle.std.proofs.lemmas.List.{take-append-drop}
use Rattle.std.proofs.lemmas.List.Elements.{All-cons, All-contains, All-head, All-nil, All-tail, Contains-append_left, Contains-append_right, Contains-append_cases, Contains-get_or}
use Rattle.std.specs.List.{All, Contains}
use mathlib.Core.Logic.{◌⊎◌, inl, inr}
use Rattle.set_grow.specs.Seats.{HaveRisingNights}
use Rattle.set_grow.specs.declared.seats.Seat.{Seat}
use Rattle.set_grow.proofs.Members.{each_two_cons, each_two_head, each_two_tail, front_or_rest, in_front, in_rest}

abbrev IsBefore : Seat → Seat → Type 0
IsBefore one other = one.night < other.night

-- ---- members
pub put_in : {X : Type 0} → (xs : List X) (n : ℕ) (x y : X) → (x ≡ y) ⊎ Contains xs y → Contains (take n xs ++ x ∷ drop n xs) y
put_in xs n x y (inl e) = Contains-append_right (take n xs) (x ∷ drop n xs) y (subst (Contains (x ∷ drop n xs)) e (in_front x (drop n xs)))
put_in xs n x y (inr c) = elim (Contains-append_cases (take n xs) (drop n xs) y (subst (λ list. Contains list y) (sym (take-append-drop n xs)) c)) [
  | inl d ↦ Contains-append_left (take n xs) (x ∷ drop n xs) y d
  | inr d ↦ Contains-append_right (take n xs) (x ∷ drop n xs) y (in_rest x (drop n xs) y d)
]

pub of_put : {X : Type 0} → (xs : List X) (n : ℕ) (x y : X) → Contains (take n xs ++ x ∷ drop n xs) y → (x ≡ y) ⊎ Contains xs y
of_put xs n x y c = elim (Contains-append_cases (take n xs) (x ∷ drop n xs) y c) [
  | inl d ↦ inr (subst (λ list. Contains list y) (take-append-drop n xs) (Contains-append_left (take n xs) (drop n xs) y d))
  | inr d ↦ elim (front_or_rest x (drop n xs) y d) [
    | inl e ↦ inl e
    | inr f ↦ inr (subst (λ list. Contains list y) (take-append-drop n xs) (Contains-append_right (take n xs) (drop n xs) y f))
  ]
]

-- ---- order
-- behind a place whose seat is later than a night all seats are later
later_on : (seats : List Seat) (n : ℕ) (night : ℕ) → HaveRisingNights seats → ((d : Seat) → n < length seats → night < (get_or seats n d).night) → All (λ (s : Seat). night < s.night) (drop n seats)
later_on [] zero night rise h = All-nil (λ (s : Seat). night < s.night)
later_on [] (suc n) night rise h = All-nil (λ (s : Seat). night < s.night)
later_on (seat ∷ seats) zero night rise h =
    let first : night < seat.night = h seat (omega arith) in
    All-cons (λ (s : Seat). night < s.night) seat seats first (λ k d l. let later = each_two_head IsBefore seat seats rise k d l in omega (arith, first, later))
later_on (seat ∷ seats) (suc n) night rise h = later_on seats n night (each_two_tail IsBefore seat seats rise) (λ d l. h d (omega arith))

put_between : (seats : List Seat) (n : ℕ) (seat : Seat) → HaveRisingNights seats → All (λ (s : Seat). s.night < seat.night) (take n seats) → All (λ (s : Seat). seat.night < s.night) (drop n seats) → HaveRisingNights (take n seats ++ seat ∷ drop n seats)
put_between [] zero seat rise before after = each_two_cons IsBefore seat [] (All-nil (IsBefore seat)) rise
put_between [] (suc n) seat rise before after = each_two_cons IsBefore seat [] (All-nil (IsBefore seat)) rise
put_between (s ∷ seats) zero seat rise before after = each_two_cons IsBefore seat (s ∷ seats) after rise
put_between (s ∷ seats) (suc n) seat rise before after =
    let first : s.night < seat.night = All-head (λ (s : Seat). s.night < seat.night) s (take n seats) before in
    let rest = put_between seats n seat (each_two_tail IsBefore s seats rise) (All-tail (λ (s : Seat). s.night < seat.night) s (take n seats) before) after in
    each_two_cons IsBefore s (take n seats ++ seat ∷ drop n seats)
    (λ k d l. elim (of_put seats n seat (get_or (take n seats ++ seat ∷ drop n seats) k d) (Contains-get_or (take n seats ++ seat ∷ drop n seats) k d l)) [
      | inl e ↦ subst (IsBefore s) e first
      | inr c ↦ All-contains (IsBefore s) seats (get_or (take n seats ++ seat ∷ drop n seats) k d) (each_two_head IsBefore s seats rise) c
    ]) rest

-- where no seat at the place is of its night, a seat may be put there
pub put_rising : (seats : List Seat) (n : ℕ) (seat : Seat) → HaveRisingNights seats → All (λ (s : Seat). s.night < seat.night) (take n seats) → ((d : Seat) → n < length seats → seat.night < (get_or seats n d).night) → HaveRisingNights (take n seats ++ seat ∷ drop n seats)
put_rising seats n seat rise before at = put_between seats n seat rise before (later_on seats n seat.night rise at)
