-- Spots at places, one place after the other.
use Rattle.std.proofs.Common.{◌≡◌, ℕ, ◌+◌, ◌<◌, List, [], ◌∷◌, ◌++◌, length, take, map, get_or, refl, sym, ap, ◌∙◌}
use Rattle.std.specs.List.{All}
use Rattle.std.specs.Prelude.{Some, slice_get}
use Rattle.std.proofs.lemmas.List.{length-map, take_more}
use Rattle.std.proofs.lemmas.List.Elements.{All-head, All-tail, filter_map-append}
use Rattle.std.proofs.lemmas.Option.{slice_get-get_or}
use Rattle.sky_units.specs.AtPlaces.{spots_at}
use Rattle.sky_units.specs.SpotData.{SpotData}

pub spots_are : (spots : List SpotData) (places : List ℕ) (d : SpotData) → All (λ p. p < length spots) places → spots_at spots places ≡ map (λ p. get_or spots p d) places
spots_are spots [] d h = refl
spots_are spots (p ∷ rest) d h =
    let one : slice_get spots p ≡ Some (get_or spots p d) = slice_get-get_or spots p d (All-head (λ p. p < length spots) p rest h) in
    let others = spots_are spots rest d (All-tail (λ p. p < length spots) p rest h) in
    rw one (ap (λ (xs : List SpotData). get_or spots p d ∷ xs) others)

pub spots_length : (spots : List SpotData) (places : List ℕ) → All (λ p. p < length spots) places → (d : SpotData) → length (spots_at spots places) ≡ length places
spots_length spots places h d = ap length (spots_are spots places d h) ∙ length-map places (λ p. get_or spots p d)

pub one_more_spot : (spots : List SpotData) (places : List ℕ) (i : ℕ) (x : SpotData) (found : List SpotData) → i < length places → All (λ p. p < length spots) places → x ≡ get_or spots (get_or places i 0) x →
    found ≡ spots_at spots (take i places) → found ++ x ∷ [] ≡ spots_at spots (take (i + 1) places)
one_more_spot spots places i x found h within e f =
    let one : slice_get spots (get_or places i 0) ≡ Some x = slice_get-get_or spots (get_or places i 0) x (within i 0 h) ∙ ap (λ (s : SpotData). Some s) (sym e) in
    let last : spots_at spots (get_or places i 0 ∷ []) ≡ x ∷ [] = rw one refl in
    let more : take (i + 1) places ≡ take i places ++ get_or places i 0 ∷ [] = take_more places i 0 h in
    rw (more, filter_map-append (slice_get spots) (take i places) (get_or places i 0 ∷ []), last, f) refl
