-- Spots compared by their numbers, and the number of the first track that passes a test.
use Rattle.std.proofs.Common.{◌≡◌, ℕ, zero, suc, ◌+◌, ◌<◌, ◌≤◌, Bool, true, false, Option, Some, None, List, [], ◌∷◌, ◌++◌, map, length, take, get_or, refl, sym, ap, ap₂, ◌∙◌, subst, arith}
use Rattle.std.specs.Prelude.{nat_eq, slice_index_or}
use Rattle.std.specs.Cmp.Lexicographic.{pointwise, bytes_decides}
use Rattle.std.specs.Option.{option_map}
use Rattle.std.proofs.lemmas.Bool.{cases_Bool, cases_eq, false≢true}
use Rattle.std.proofs.lemmas.List.{get_or_default, get_or-map, length-map, map-append}
use mathlib.Core.Logic.{inl, inr}
use Rattle.sky_units.specs.SpotData.{SpotData}
use Rattle.sky_units.specs.TrackletData.{TrackSetData, spots_of}
use Rattle.sky_units.specs.Tracks.{numbers_of}
use Rattle.plain_tracks.proofs.Steps.{spots_of-push, taken}
use Rattle.window_incr.specs.Asked.{first_number, labels}
use Rattle.window_incr.proofs.FirstPlaces.{NonePass, none_more, place_found, place_missing}

-- ---- two lists of spots
num_of : SpotData → ℕ
num_of spot = spot.num

same_labels : (xs ys : List SpotData) → length xs ≡ length ys → ((k : ℕ) (d : SpotData) → k < length xs → (get_or xs k d).num ≡ (get_or ys k d).num) → labels xs ≡ labels ys
same_labels [] [] e h = refl
same_labels [] (y ∷ ys) e h = absurd (omega (arith, e))
same_labels (x ∷ xs) [] e h = absurd (omega (arith, e))
same_labels (x ∷ xs) (y ∷ ys) e h = ap₂ (λ (n : ℕ) (ns : List ℕ). n ∷ ns) (h 0 x (omega arith)) (same_labels xs ys (omega (arith, e)) (λ k d l. h (suc k) d (omega (arith, l))))

falsely : (b : Bool) → (b ≡ true → ⊥) → b ≡ false
falsely true h = absurd (h refl)
falsely false h = refl

pub other_lengths : (xs ys : List SpotData) → (length xs ≡ length ys → ⊥) → false ≡ pointwise nat_eq (labels xs) (labels ys)
other_lengths xs ys h = sym (falsely _ (λ t.
    let same = ap (λ (ns : List ℕ). length ns) ((bytes_decides (labels xs) (labels ys)).0 t) in
    h (omega (arith, same, length-map xs (λ (s : SpotData). s.num), length-map ys (λ (s : SpotData). s.num)))))

pub other_number : (xs ys : List SpotData) (k : ℕ) (x y : SpotData) → k < length xs → k < length ys → x ≡ get_or xs k x → y ≡ get_or ys k y → (x.num ≡ y.num → ⊥) → false ≡ pointwise nat_eq (labels xs) (labels ys)
other_number xs ys k x y l m e f h = sym (falsely _ (λ t.
    let same = ap (λ (ns : List ℕ). get_or ns k 0) ((bytes_decides (labels xs) (labels ys)).0 t) in
    let one = get_or-map (λ (s : SpotData). s.num) xs k x 0 l in
    let other = get_or-map (λ (s : SpotData). s.num) ys k y 0 m in
    h (ap (λ (s : SpotData). s.num) e ∙ (sym one ∙ (same ∙ (other ∙ sym (ap (λ (s : SpotData). s.num) f)))))))

pub same_numbers : (xs ys : List SpotData) (i : ℕ) → length xs ≡ length ys → length xs ≤ i → ((k : ℕ) (d : SpotData) → k < i → (get_or xs k d).num ≡ (get_or ys k d).num) → true ≡ pointwise nat_eq (labels xs) (labels ys)
same_numbers xs ys i e l h = sym ((bytes_decides (labels xs) (labels ys)).1 (same_labels xs ys e (λ k d m. h k d (omega (arith, l, m)))))

pub one_number_more : (xs ys : List SpotData) (i : ℕ) (x y : SpotData) → i < length xs → i < length ys → x ≡ get_or xs i x → y ≡ get_or ys i y → x.num ≡ y.num
    → ((k : ℕ) (d : SpotData) → k < i → (get_or xs k d).num ≡ (get_or ys k d).num) → (k : ℕ) (d : SpotData) → k < i + 1 → (get_or xs k d).num ≡ (get_or ys k d).num
one_number_more xs ys i x y l m e f same h k d b = elim (cases_eq k i) [
  | inl s ↦
      let one : get_or xs i d ≡ x = get_or_default xs i d x l ∙ sym e in
      let other : get_or ys i d ≡ y = get_or_default ys i d y m ∙ sym f in
      rw (s, one, other) same
  | inr ne ↦ h k d (omega (arith, b, ne))
]

-- ---- tracks
abbrev pub TestAt : (List ℕ → Bool) → List TrackSetData → ℕ → Bool
TestAt passes list place = passes (numbers_of (slice_index_or list place []))

at_place : (passes : List ℕ → Bool) (list : List TrackSetData) (i : ℕ) (set : TrackSetData) (b : Bool) → i < length list → set ≡ get_or list i set → passes (numbers_of set) ≡ b → TestAt passes list i ≡ b
at_place passes list i set b l e t = ap (λ (s : TrackSetData). passes (numbers_of s)) (get_or_default list i [] set l ∙ sym e) ∙ t

pub number_found : (passes : List ℕ → Bool) (list : List TrackSetData) (i : ℕ) (set : TrackSetData) → i < length list → set ≡ get_or list i set → passes (numbers_of set) ≡ true → NonePass (TestAt passes list) i → first_number passes list ≡ Some (i + 1)
number_found passes list i set l e t none =
    ap (λ (o : Option ℕ). option_map (λ (place : ℕ). place + 1) o) (place_found (TestAt passes list) (length list) i l (at_place passes list i set true l e t) none)

pub number_missing : (passes : List ℕ → Bool) (list : List TrackSetData) (i : ℕ) → length list ≤ i → NonePass (TestAt passes list) i → first_number passes list ≡ None
number_missing passes list i l none = ap (λ (o : Option ℕ). option_map (λ (place : ℕ). place + 1) o) (place_missing (TestAt passes list) (length list) i l none)

pub number_later : (passes : List ℕ → Bool) (list : List TrackSetData) (i : ℕ) (set : TrackSetData) → i < length list → set ≡ get_or list i set → passes (numbers_of set) ≡ false → NonePass (TestAt passes list) i → NonePass (TestAt passes list) (i + 1)
number_later passes list i set l e f none = none_more (TestAt passes list) i none (at_place passes list i set false l e f)

pub numbers_one_more : (set : TrackSetData) (i : ℕ) (t : List SpotData) → i < length set → t ≡ get_or set i t → numbers_of (take i set) ++ labels t ≡ numbers_of (take (i + 1) set)
numbers_one_more set i t h same =
    sym (ap numbers_of (taken set i t h same) ∙ (ap labels (spots_of-push (take i set) t) ∙ map-append (λ (s : SpotData). s.num) (spots_of (take i set)) t))
