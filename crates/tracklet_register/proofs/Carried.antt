-- Choices by the numbers of the nights, which an exchange carries from one list of nights to another.
use Rattle.std.proofs.Common.{◌≡◌, ℤ, ◌<ℤ◌, List, [], ◌∷◌, refl, sym, subst, inl, inr, arith}
use Rattle.std.proofs.lemmas.Int.{ints}
use Rattle.std.specs.Bool.{⊤}
use Rattle.std.specs.List.{Contains}
use Rattle.std.proofs.lemmas.List.Elements.{All-contains}
use Rattle.sky_units.proofs.Members.{front_or_rest, in_front, in_none, in_rest}
use Rattle.set_grow.proofs.Members.{each_two_head, each_two_tail}
use Rattle.set_grow.specs.Numbered.{IsNumberedChoice, NumberedTracklet, NumberedTracklets}
use Rattle.set_grow.specs.Nights.{HaveRisingNumbers, NumberedNightData, by_night}
use Rattle.tracklet_register.specs.Nights.{StandsIn}

-- tracklets of nights whose numbers rise, the first one's with a property
abbrev pub AreChosen : List NumberedNightData → (ℤ → Type 0) → NumberedTracklets → Type 0
AreChosen nights First [] = ⊤
AreChosen nights First (one ∷ rest) = (number : ℤ) × First number × StandsIn nights number one × AreChosen nights (λ later. number <ℤ later) rest

-- each of the nights has a number that is below some number
is_behind : (night : NumberedNightData) (nights : List NumberedNightData) (later : NumberedNightData) → HaveRisingNumbers (night ∷ nights) → Contains nights later → night.number <ℤ later.number
is_behind night nights later order c = All-contains (λ (later : NumberedNightData). night.number <ℤ later.number) nights later (each_two_head (λ (one later : NumberedNightData). one.number <ℤ later.number) night nights order) c

order_tail : (night : NumberedNightData) (nights : List NumberedNightData) → HaveRisingNumbers (night ∷ nights) → HaveRisingNumbers nights
order_tail night nights order = each_two_tail (λ (one later : NumberedNightData). one.number <ℤ later.number) night nights order

later_stands : (night : NumberedNightData) (nights : List NumberedNightData) (number : ℤ) (one : NumberedTracklet) → StandsIn nights number one → StandsIn (night ∷ nights) number one
later_stands night nights number one s = record { night = s.night; kept = in_rest night nights s.night s.kept; is = s.is; has = s.has }

later_chosen : (night : NumberedNightData) (nights : List NumberedNightData) (First : ℤ → Type 0) (chosen : NumberedTracklets) → AreChosen nights First chosen → AreChosen (night ∷ nights) First chosen
later_chosen night nights First [] c = tt
later_chosen night nights First (one ∷ rest) c = (c.0, c.1, later_stands night nights c.0 one c.2, later_chosen night nights (λ later. c.0 <ℤ later) rest c.3)

-- a choice is chosen by the numbers of its nights
pub chosen_by_number : (nights : List NumberedNightData) (First : ℤ → Type 0) (chosen : NumberedTracklets) → HaveRisingNumbers nights → ((night : NumberedNightData) → Contains nights night → First night.number)
    → IsNumberedChoice (by_night nights) chosen → AreChosen nights First chosen
chosen_by_number [] First chosen order first e = subst (AreChosen [] First) (sym e) tt
chosen_by_number (night ∷ nights) First chosen order first (inl c) =
    later_chosen night nights First chosen (chosen_by_number nights First chosen (order_tail night nights order) (λ later d. first later (in_rest night nights later d)) c)
chosen_by_number (night ∷ nights) First chosen order first (inr w) =
    let behind : (later : NumberedNightData) → Contains nights later → night.number <ℤ later.number = λ later d. is_behind night nights later order d in
    let rest : AreChosen nights (λ later. night.number <ℤ later) w.1 = chosen_by_number nights (λ later. night.number <ℤ later) w.1 (order_tail night nights order) behind w.4 in
    let stands : StandsIn (night ∷ nights) night.number w.0 = record { night = night; kept = in_front night nights; is = refl; has = w.2 } in
    subst (AreChosen (night ∷ nights) First) (sym w.3)
    (night.number, first night (in_front night nights), stands, later_chosen night nights (λ later. night.number <ℤ later) w.1 rest)

-- what is chosen behind a night is chosen of the nights after it
behind_chosen : (night : NumberedNightData) (nights : List NumberedNightData) (First : ℤ → Type 0) (chosen : NumberedTracklets) → ((number : ℤ) → First number → night.number <ℤ number)
    → AreChosen (night ∷ nights) First chosen → AreChosen nights First chosen
behind_chosen night nights First [] behind c = tt
behind_chosen night nights First (one ∷ rest) behind c =
    let past : night.number <ℤ c.0 = behind c.0 c.1 in
    let stands : StandsIn nights c.0 one =
    elim (front_or_rest night nights c.2.night c.2.kept) [
      | inl e ↦ (let is : night.number ≡ c.0 = subst (λ (n : NumberedNightData). n.number ≡ c.0) (sym e) c.2.is in absurd (omega (arith, ints, past, is)))
      | inr d ↦ record { night = c.2.night; kept = d; is = c.2.is; has = c.2.has }
    ] in
    (c.0, c.1, stands, behind_chosen night nights (λ later. c.0 <ℤ later) rest (λ number later. omega (arith, ints, past, later)) c.3)

-- and what is chosen by the numbers of nights is a choice
pub choice_by_number : (nights : List NumberedNightData) (First : ℤ → Type 0) (chosen : NumberedTracklets) → HaveRisingNumbers nights → AreChosen nights First chosen → IsNumberedChoice (by_night nights) chosen
choice_by_number [] First [] order c = refl
choice_by_number [] First (one ∷ rest) order c = absurd (in_none c.2.night c.2.kept)
choice_by_number (night ∷ nights) First [] order c = inl (choice_by_number nights First [] (order_tail night nights order) tt)
choice_by_number (night ∷ nights) First (one ∷ rest) order c =
    let tail : HaveRisingNumbers nights = order_tail night nights order in
    elim (front_or_rest night nights c.2.night c.2.kept) [
      | inl e ↦ (
          let is : night.number ≡ c.0 = subst (λ (n : NumberedNightData). n.number ≡ c.0) (sym e) c.2.is in
          let here : Contains night.tracklets one = subst (λ (n : NumberedNightData). Contains n.tracklets one) (sym e) c.2.has in
          let more : AreChosen nights (λ later. c.0 <ℤ later) rest = behind_chosen night nights (λ later. c.0 <ℤ later) rest (λ number later. omega (arith, ints, is, later)) c.3 in
          inr (one, rest, here, refl, choice_by_number nights (λ later. c.0 <ℤ later) rest tail more))
      | inr d ↦ (
          let stands : StandsIn nights c.0 one = record { night = c.2.night; kept = d; is = c.2.is; has = c.2.has } in
          let past : night.number <ℤ c.0 = subst (λ number. night.number <ℤ number) c.2.is (is_behind night nights c.2.night order d) in
          let more : AreChosen nights (λ later. c.0 <ℤ later) rest = behind_chosen night nights (λ later. c.0 <ℤ later) rest (λ number later. omega (arith, ints, past, later)) c.3 in
          inl (choice_by_number nights (λ number. night.number <ℤ number) (one ∷ rest) tail (c.0, past, stands, more)))
    ]

-- what is chosen is chosen of other nights where each of it stands in the same night of these
pub chosen_there : (from to : List NumberedNightData) (First : ℤ → Type 0) (chosen : NumberedTracklets) → ((night : ℤ) (one : NumberedTracklet) → Contains chosen one → StandsIn from night one → StandsIn to night one)
    → AreChosen from First chosen → AreChosen to First chosen
chosen_there from to First [] carry c = tt
chosen_there from to First (one ∷ rest) carry c =
    (c.0, c.1, carry c.0 one (in_front one rest) c.2, chosen_there from to (λ later. c.0 <ℤ later) rest (λ night other d s. carry night other (in_rest one rest other d) s) c.3)
