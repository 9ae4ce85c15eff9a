-- Spots of one epoch make no pair.
use Rattle.std.proofs.Common.{◌≡◌, ℕ, ◌-◌, ◌<◌, ◌≤◌, ℤ, pos, ◌-ℤ◌, ◌≤ℤ◌, Bool, false, ◌&&◌, List, [], ◌∷◌, length, get_or, Option, Some, None, refl, ◌∙◌, inl, inr, arith}
use Rattle.std.specs.Int.Signed.{le_z, lt_z}
use Rattle.std.specs.List.{filter, slice_get}
use Rattle.std.proofs.lemmas.Bool.{cases_lt, cases_order}
use Rattle.std.proofs.lemmas.Int.{ints}
use Rattle.std.proofs.lemmas.List.{get_or_read}
use Rattle.std.proofs.lemmas.List.Elements.{filter_agree}
use Rattle.std.proofs.lemmas.Option.{slice_get-get_or, slice_get_past}
use Rattle.sky_math.specs.Circle.{wrapped}
use Rattle.sky_units.specs.SpotData.{SpotData}
use Rattle.sky_units.specs.SettingsData.{SettingsData}
use Rattle.sky_units.specs.Pairs.{are_pair, are_pair_at, are_some_pair, all_pairs, keeps_rate, pairs_of, EpochsDontFall}
use Rattle.pair_finder.specs.OneEpoch.{AreOfOneEpoch}

no_later : (spots : List SpotData) (i j : ℕ) (d : SpotData) → EpochsDontFall spots → j ≤ i → i < length spots → (get_or spots j d).epoch ≤ℤ (get_or spots i d).epoch
no_later spots i j d order le within = elim (cases_order j i) [
  | inl same ↦ rw same (omega (arith, ints))
  | inr (inl less) ↦ order j i d less within
  | inr (inr more) ↦ absurd (omega arith)
]

-- where the last spot is no later than the first one
pub of_one_epoch : (spots : List SpotData) (first last : SpotData) → EpochsDontFall spots → 0 < length spots → first ≡ get_or spots 0 first → last ≡ get_or spots (length spots - 1) last → last.epoch ≤ℤ first.epoch → AreOfOneEpoch spots
of_one_epoch spots first last order some first_is last_is le = λ i j d hi hj.
    let one : first ≡ get_or spots 0 d = get_or_read spots 0 first some first_is d in
    let other : last ≡ get_or spots (length spots - 1) d = get_or_read spots (length spots - 1) last (omega arith) last_is d in
    let between : (get_or spots (length spots - 1) d).epoch ≤ℤ (get_or spots 0 d).epoch = rw (← one, ← other) le in
    let from = no_later spots i 0 d order (omega arith) hi in
    let to = no_later spots (length spots - 1) j d order (omega arith) (omega arith) in
    omega (arith, ints, between, from, to)

pub of_no_spots : (spots : List SpotData) → length spots ≡ 0 → AreOfOneEpoch spots
of_no_spots spots none = λ i j d hi hj. absurd (omega arith)

not_first : (a b c d : Bool) → a ≡ false → (a && b && c && d) ≡ false
not_first a b c d e = rw e refl

not_after : (a b : ℤ) → b ≤ℤ a → lt_z a b ≡ false
not_after a b h = grind (arith, ints)

no_pair : (s : SettingsData) (a b : SpotData) → b.epoch ≤ℤ a.epoch → are_pair s a b ≡ false
no_pair s a b h = not_first (lt_z a.epoch b.epoch) (le_z (b.epoch -ℤ a.epoch) s.pair_gap) (keeps_rate s.rate_ra (b.epoch -ℤ a.epoch) (wrapped (b.ra -ℤ a.ra))) (keeps_rate s.rate_dec (b.epoch -ℤ a.epoch) (b.dec -ℤ a.dec)) (not_after a.epoch b.epoch h)

no_second : (s : SettingsData) (one : Option SpotData) → are_some_pair s one None ≡ false
no_second s (Some a) = refl
no_second s None = refl

abbrev some_spot : SpotData
some_spot = record { num = 0; epoch = pos 0; ra = pos 0; dec = pos 0 }

no_pair_at : (s : SettingsData) (spots : List SpotData) → AreOfOneEpoch spots → (places : ℕ × ℕ) → are_pair_at s spots places ≡ false
no_pair_at s spots one places = elim (cases_lt places.0 (length spots)) [
  | inr past ↦ rw (slice_get_past spots places.0 past) refl
  | inl first ↦ elim (cases_lt places.1 (length spots)) [
    | inr past ↦ rw (slice_get_past spots places.1 past) (no_second s (slice_get spots places.0))
    | inl second ↦
        rw (slice_get-get_or spots places.0 some_spot first, slice_get-get_or spots places.1 some_spot second)
        (no_pair s (get_or spots places.0 some_spot) (get_or spots places.1 some_spot) (one places.0 places.1 some_spot first second))
  ]
]

none_kept : {X : Type 0} (xs : List X) → filter (λ x. false) xs ≡ []
none_kept [] = refl
none_kept (x ∷ xs) = none_kept xs

pub none_paired : (s : SettingsData) (spots : List SpotData) → AreOfOneEpoch spots → pairs_of s spots ≡ []
none_paired s spots one =
    filter_agree (are_pair_at s spots) (λ places. false) (no_pair_at s spots one) (all_pairs (length spots) (length spots))
    ∙ none_kept (all_pairs (length spots) (length spots))
