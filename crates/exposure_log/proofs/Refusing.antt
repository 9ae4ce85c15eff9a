-- Why an exposure isn't taken, by what the exposures and the slots say.
use Rattle.std.proofs.Common.{◌≡◌, ◌≢◌, ℕ, ◌+◌, ◌<◌, ◌≤◌, ℤ, Bool, true, false, ◌||◌, Option, Some, None, List, [], ◌∷◌, length, get_or, take, map, refl, sym, ap, ◌∙◌, arith, zero, suc, inl, inr, ◌⊎◌, nat_eq, length-take}
use Rattle.std.specs.List.{list_any, slice_get, range_with_len, filter, find}
use Rattle.std.specs.Option.{option_map_or}
use Rattle.std.specs.declared.cmp.Ordering.TheVariants.{Equal}
use Rattle.std.specs.Ordering.{is_eq, int_eq}
use Rattle.std.specs.Cmp.Lexicographic.{pointwise, bytes_decides}
use Rattle.std.proofs.lemmas.Bool.{cases_eq, or_from, or_left, or_right, false_from_ne_true}
use Rattle.std.proofs.lemmas.Option.{get_or_from_slice_get}
use Rattle.std.proofs.lemmas.List.{get_or-take}
use Rattle.sky_math.specs.Night.{night_at}
use Rattle.miti_text.specs.Observation.{Observation}
use Rattle.exposure_log.specs.declared.numbered.NumberedExposure.{NumberedExposure}
use Rattle.number_register.specs.Numbering.{slot}
use Rattle.exposure_log.specs.Held.{HeldExposure, stands_at, is_held_id, is_taken, first_taken, of_night}
use Rattle.exposure_log.specs.Numbered.{numbered_cmp, exposure_of, AreListed}
use Rattle.exposure_log.specs.Nights.{is_of_night}
use Rattle.exposure_log.proofs.HeldList.{none_held, some_held, any_at}
use Rattle.exposure_log.proofs.Removing.{still_there}
use Rattle.exposure_log.proofs.Searching.{any_map, any_none, filter_map_is}

abbrev Slots : Type 0
Slots = List (Option Observation)

abbrev Ds : Type 0
Ds = List Observation

any_default : (xs : List NumberedExposure) (i : ℕ) (d e : NumberedExposure) → i < length xs → get_or xs i e ≡ get_or xs i d
any_default [] i d e h = absurd (omega arith)
any_default (x ∷ xs) zero d e h = refl
any_default (x ∷ xs) (suc i) d e h = any_default xs i d e (omega arith)

at_place : (listed : List NumberedExposure) (epoch : ℤ) (site : List ℕ) (i : ℕ) → i < length listed → ((g : NumberedExposure) → numbered_cmp epoch site (get_or listed i g) ≡ Equal) → list_any (λ g. is_eq (numbered_cmp epoch site g)) listed ≡ true
at_place [] epoch site i h found = absurd (omega arith)
at_place (x ∷ xs) epoch site i h found = any_at (λ (g : NumberedExposure). is_eq (numbered_cmp epoch site g)) (x ∷ xs) i (get_or (x ∷ xs) i x) h (any_default (x ∷ xs) i x (get_or (x ∷ xs) i x) h) (ap is_eq (found x))

-- what stands among the exposures of a night is held
pub place_is_held_in_night : (slots : Slots) (listed : List NumberedExposure) (q : NumberedExposure → Bool) (epoch : ℤ) (site : List ℕ) (i : ℕ) → (i < length (filter q listed)) × ((g : NumberedExposure) → numbered_cmp epoch site (get_or (filter q listed) i g) ≡ Equal) → list_any (stands_at epoch site) (map (exposure_of slots) listed) ≡ true
place_is_held_in_night slots listed q epoch site i found = any_map (stands_at epoch site) (exposure_of slots) listed ∙ still_there (λ (g : NumberedExposure). is_eq (numbered_cmp epoch site g)) q listed (at_place (filter q listed) epoch site i found.0 found.1)

-- ---- the first taken id

other_id : (x y : List ℕ) → x ≢ y → pointwise nat_eq x y ≡ false
other_id x y h = false_from_ne_true (pointwise nat_eq x y) (λ t. h ((bytes_decides x y).0 t))

same_id : (x y : List ℕ) → x ≡ y → pointwise nat_eq x y ≡ true
same_id x y e = (bytes_decides x y).1 e

read_default : (ds : Ds) (j : ℕ) (x d : Observation) → j < length ds → get_or ds j d ≡ get_or ds j x
read_default [] j x d h = absurd (omega arith)
read_default (e ∷ es) zero x d h = refl
read_default (e ∷ es) (suc j) x d h = read_default es j x d (omega arith)

defaults : (ds : Ds) (k j : ℕ) (d x : Observation) → j < length (take k ds) → j < k → get_or ds j d ≡ get_or (take k ds) j x
defaults ds k j d x l m =
    let within : j < length ds = omega (arith, l, length-take k ds) in
    read_default ds j x d within ∙ sym (get_or-take k ds j x m)

not_taken : (slots : Slots) (listed : List NumberedExposure) (ds : Ds) (k : ℕ) (o : Option Observation) → slice_get ds k ≡ o → ((n : ℕ) (d e : Observation) → slot slots n ≡ Some d → d.id ≢ (get_or ds k e).id) → ((j : ℕ) (e : Observation) → j < k → (get_or ds j e).id ≢ (get_or ds k e).id)
    → option_map_or (λ d. is_held_id (map (exposure_of slots) listed) d.id || list_any (λ e. pointwise nat_eq e.id d.id) (take k ds)) o false ≡ false
not_taken slots listed ds k None e fresh apart = refl
not_taken slots listed ds k (Some d) e fresh apart =
    let here : get_or ds k d ≡ d = get_or_from_slice_get ds k d d e in
    or_from (is_held_id (map (exposure_of slots) listed) d.id) (list_any (λ e. pointwise nat_eq e.id d.id) (take k ds))
    (none_held (λ p. pointwise nat_eq p.1.id d.id) slots listed (λ n x held. other_id x.id d.id (λ same. fresh n x d held (same ∙ ap (λ (o : Observation). o.id) (sym here)))))
    (any_none (λ (x : Observation). pointwise nat_eq x.id d.id) (take k ds) (λ j x l.
    let m : j < k = omega (arith, l, length-take k ds) in
    other_id (get_or (take k ds) j x).id d.id (λ same. apart j d m (ap (λ (o : Observation). o.id) (defaults ds k j d x l m) ∙ (same ∙ ap (λ (o : Observation). o.id) (sym here))))))

shifted : (a k : ℕ) → a + suc k ≡ (a + 1) + k
shifted a k = omega arith

pos_first : (p : ℕ → Bool) (a n i : ℕ) → i < n → p (a + i) ≡ true → ((k : ℕ) → k < i → p (a + k) ≡ false) → find p (range_with_len a n) ≡ Some (a + i)
pos_first p a zero i h t f = absurd (omega arith)
pos_first p a (suc n) zero h t f = let e : a + 0 ≡ a = omega arith in let t' : p a ≡ true = rw e at t in rw (t', e) refl
pos_first p a (suc n) (suc i) h t f =
    let e : a + 0 ≡ a = omega arith in
    let no : p a ≡ false = rw e at (f 0 (omega arith)) in
    let t' : p ((a + 1) + i) ≡ true = ap p (sym (shifted a i)) ∙ t in
    let rest = pos_first p (a + 1) n i (omega arith) t' (λ k l. ap p (sym (shifted a k)) ∙ f (suc k) (omega arith)) in
    rw (no, shifted a i) rest

pos_none : (p : ℕ → Bool) (a n : ℕ) → ((k : ℕ) → k < n → p (a + k) ≡ false) → find p (range_with_len a n) ≡ None
pos_none p a zero f = refl
pos_none p a (suc n) f =
    let e : a + 0 ≡ a = omega arith in
    let no : p a ≡ false = rw e at (f 0 (omega arith)) in
    rw no (pos_none p (a + 1) n (λ k l. ap p (sym (shifted a k)) ∙ f (suc k) (omega arith)))

zero_first : (p : ℕ → Bool) (n i : ℕ) → find p (range_with_len 0 n) ≡ Some (0 + i) → find p (range_with_len 0 n) ≡ Some i
zero_first p n i h = let e : 0 + i ≡ i = omega arith in h ∙ ap (λ (k : ℕ). Some k) e

from_zero : (p : ℕ → Bool) (k : ℕ) (b : Bool) → p k ≡ b → p (0 + k) ≡ b
from_zero p k b h = let e : 0 + k ≡ k = omega arith in rw e h

is_there : (ds : Ds) (i : ℕ) → i < length ds → slice_get ds i ≡ None → ⊥
is_there [] i h e = omega arith
is_there (d ∷ ds) zero h e = cc
is_there (d ∷ ds) (suc i) h e = is_there ds i (omega arith) e

-- the id at place i is held, or equals an earlier one
abbrev IsTaken : Slots → Ds → ℕ → Type 0
IsTaken slots list i = ((n : ℕ) × (d : Observation) × (slot slots n ≡ Some d) × (d.id ≡ (get_or list i d).id)) ⊎ ((j : ℕ) × (j < i) × ((e : Observation) → (get_or list j e).id ≡ (get_or list i e).id))

taken_here : (slots : Slots) (listed : List NumberedExposure) (a : AreListed slots listed) (ds : Ds) (i : ℕ) (o : Option Observation) → slice_get ds i ≡ o → i < length ds → IsTaken slots ds i
    → option_map_or (λ d. is_held_id (map (exposure_of slots) listed) d.id || list_any (λ e. pointwise nat_eq e.id d.id) (take i ds)) o false ≡ true
taken_here slots listed a ds i None e l t = absurd (is_there ds i l e)
taken_here slots listed a ds i (Some d) e l (inl (n, x, held, same)) =
    let here : get_or ds i x ≡ d = get_or_from_slice_get ds i d x e in
    or_left (is_held_id (map (exposure_of slots) listed) d.id) (list_any (λ e. pointwise nat_eq e.id d.id) (take i ds))
    (some_held (λ p. pointwise nat_eq p.1.id d.id) slots listed a n x held (same_id x.id d.id (same ∙ ap (λ (o : Observation). o.id) here)))
taken_here slots listed a ds i (Some d) e l (inr (j, m, same)) =
    let here : get_or ds i d ≡ d = get_or_from_slice_get ds i d d e in
    let len : j < length (take i ds) = omega (arith, m, l, length-take i ds) in
    or_right (is_held_id (map (exposure_of slots) listed) d.id) (list_any (λ e. pointwise nat_eq e.id d.id) (take i ds))
    (any_at (λ (x : Observation). pointwise nat_eq x.id d.id) (take i ds) j (get_or (take i ds) j d) len (sym (read_default (take i ds) j (get_or (take i ds) j d) d len))
    (same_id (get_or (take i ds) j d).id d.id (ap (λ (o : Observation). o.id) (get_or-take i ds j d m) ∙ (same d ∙ ap (λ (o : Observation). o.id) here))))

-- no place before n is taken, whichever exposures these slots are
abbrev pub NoneTaken : Slots → Ds → ℕ → Type 0
NoneTaken slots ds n = (listed : List NumberedExposure) → AreListed slots listed → (k : ℕ) → k < n → is_taken (map (exposure_of slots) listed) ds k ≡ false

pub none_more : (slots : Slots) (ds : Ds) (i : ℕ) → NoneTaken slots ds i → ((n : ℕ) (d e : Observation) → slot slots n ≡ Some d → d.id ≢ (get_or ds i e).id) → ((j : ℕ) (e : Observation) → j < i → (get_or ds j e).id ≢ (get_or ds i e).id)
    → NoneTaken slots ds (i + 1)
none_more slots ds i none fresh apart listed a k h = elim (cases_eq k i) [
  | inl e ↦ rw e (not_taken slots listed ds i (slice_get ds i) refl fresh apart)
  | inr ne ↦ none listed a k (omega (arith, h, ne))
]

pub no_taken : (slots : Slots) (ds : Ds) (n : ℕ) → length ds ≤ n → NoneTaken slots ds n → (listed : List NumberedExposure) → AreListed slots listed → None ≡ first_taken (map (exposure_of slots) listed) ds
no_taken slots ds n h none listed a = sym (pos_none (is_taken (map (exposure_of slots) listed) ds) 0 (length ds) (λ k l. from_zero (is_taken (map (exposure_of slots) listed) ds) k false (none listed a k (omega (arith, h, l)))))

pub taken_first : (slots : Slots) (ds : Ds) (i : ℕ) → NoneTaken slots ds i → i < length ds → IsTaken slots ds i → (listed : List NumberedExposure) → AreListed slots listed → Some i ≡ first_taken (map (exposure_of slots) listed) ds
taken_first slots ds i none l taken listed a = sym (zero_first (is_taken (map (exposure_of slots) listed) ds) (length ds) i (pos_first (is_taken (map (exposure_of slots) listed) ds) 0 (length ds) i l
    (from_zero (is_taken (map (exposure_of slots) listed) ds) i true (taken_here slots listed a ds i (slice_get ds i) refl l taken))
    (λ k m. from_zero (is_taken (map (exposure_of slots) listed) ds) k false (none listed a k m))))

-- ---- the room that is left

length_map : (f : NumberedExposure → HeldExposure) (gs : List NumberedExposure) → length (map f gs) ≡ length gs
length_map f [] = refl
length_map f (g ∷ gs) = let e = length_map f gs in omega (arith, e)

-- how many exposures a night has
pub counted_night : (slots : Slots) (shift night : ℤ) (listed here : List NumberedExposure) → here ≡ filter (is_of_night shift night) listed → length (of_night shift night (map (exposure_of slots) listed)) ≡ length here
counted_night slots shift night listed here is =
    ap length (filter_map_is (λ x. int_eq (night_at shift x.epoch) night) (exposure_of slots) listed)
    ∙ (length_map (exposure_of slots) (filter (is_of_night shift night) listed) ∙ ap length (sym is))
