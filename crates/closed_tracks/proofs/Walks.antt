-- The walks over the nights: what was made of the first nights, and what is left.
use Rattle.std.proofs.Common.{◌≡◌, ℕ, zero, suc, Vec, Global, ◌+◌, ◌<◌, ◌≤◌, List, [], ◌∷◌, ◌++◌, append_assoc, length, length-append, map, take, drop, get_or, refl, sym, subst, ap, ◌∙◌, arith}
use Rattle.std.proofs.lemmas.List.{append-nil, drop_all, drop_more, get_or-map, length-map, map-append}
use Rattle.std.proofs.lemmas.List.FromFn.{length-range_with_len}
use Rattle.std.specs.List.{All, range_with_len}
use Rattle.night_tree.specs.Nights.{NightData}
use Rattle.sky_units.proofs.Steps.{taken}
use Rattle.set_grow.specs.Nights.{NumberedNightData, numbered_by}
use Rattle.closed_tracks.specs.InOneList.{all_tracklets, numbered_from}

-- ---- lists joined night by night
pub walk_more : {X : Type 0} → (whole : List NightData → List X) (own : NightData → List X) → ((night : NightData) (nights : List NightData) → whole (night ∷ nights) ≡ own night ++ whole nights) → (nights : List NightData) (i : ℕ) (night : NightData) (old new : List X) → i < length nights → night ≡ get_or nights i night → new ≡ old ++ own night → old ++ whole (drop i nights) ≡ whole nights → new ++ whole (drop (i + 1) nights) ≡ whole nights
walk_more {X} whole own step nights i night old new l is e h =
    let next : List NightData = drop (i + 1) nights in
    let left : drop i nights ≡ night ∷ drop (i + 1) nights = drop_more nights i night l ∙ ap (λ (n : NightData). n ∷ drop (i + 1) nights) (sym is) in
    let split : whole (drop i nights) ≡ own night ++ whole (drop (i + 1) nights) = ap whole left ∙ step night next in
    ap (λ (xs : List X). xs ++ whole (drop (i + 1) nights)) e
    ∙ (append_assoc old (own night) (whole next) ∙ (ap (λ (xs : List X). old ++ xs) (sym split) ∙ h))

pub walk_end : {X : Type 0} → (whole : List NightData → List X) → whole [] ≡ [] → (nights : List NightData) (i : ℕ) (all : List X) → length nights ≤ i → all ++ whole (drop i nights) ≡ whole nights → all ≡ whole nights
walk_end {X} whole none nights i all l h =
    let left : whole (drop i nights) ≡ [] = ap whole (drop_all i nights l) ∙ none in
    sym (append-nil all) ∙ (ap (λ (xs : List X). all ++ xs) (sym left) ∙ h)

-- ---- numbers that rise by one
one_more : (first count : ℕ) → range_with_len first (count + 1) ≡ range_with_len first count ++ (first + count) ∷ []
one_more first zero = let e : first + 0 ≡ first = omega arith in rw e refl
one_more first (suc count) =
    let e : suc count + 1 ≡ suc (count + 1) = omega arith in
    let f : first + suc count ≡ (first + 1) + count = omega arith in
    rw (e, f, one_more (first + 1) count) refl

pub mapped_more : {X : Type 0} → (f : ℕ → X) (old : List X) (count : ℕ) → (old ++ map f (range_with_len 0 count)) ++ f count ∷ [] ≡ old ++ map f (range_with_len 0 (count + 1))
mapped_more {X} f old count =
    let e : 0 + count ≡ count = omega arith in
    let range : range_with_len 0 (count + 1) ≡ range_with_len 0 count ++ count ∷ [] = one_more 0 count ∙ ap (λ n. range_with_len 0 count ++ n ∷ []) e in
    let mapped : map f (range_with_len 0 (count + 1)) ≡ map f (range_with_len 0 count) ++ f count ∷ [] = ap (map f) range ∙ map-append f (range_with_len 0 count) (count ∷ []) in
    append_assoc old (map f (range_with_len 0 count)) (f count ∷ []) ∙ ap (λ (xs : List X). old ++ xs) (sym mapped)

front_range : (first count more : ℕ) → take count (range_with_len first (count + more)) ≡ range_with_len first count
front_range first zero more = refl
front_range first (suc count) more =
    let e : suc count + more ≡ suc (count + more) = omega arith in
    rw (e, front_range (first + 1) count more) refl

back_range : (first count more : ℕ) → drop count (range_with_len first (count + more)) ≡ range_with_len (first + count) more
back_range first zero more = let e : first + 0 ≡ first = omega arith in let none : 0 + more ≡ more = omega arith in rw (e, none) refl
back_range first (suc count) more =
    let e : suc count + more ≡ suc (count + more) = omega arith in
    let f : first + suc count ≡ (first + 1) + count = omega arith in
    rw (e, f, back_range (first + 1) count more) refl

-- ---- numbers given to the nights
-- the numbers that are left are those of the nights that are left
pub record AreNumberedTo (nights : List NightData) (count : ℕ) (left : List ℕ) (done : List NumberedNightData) : Type 0 where
  pub first : ℕ
  pub left_is : left ≡ range_with_len first (length (all_tracklets (drop count nights)))
  pub done_is : done ++ numbered_from first (drop count nights) ≡ numbered_from 0 nights

pub none_numbered : (nights : List NightData) (numbers : List ℕ) → numbers ≡ range_with_len 0 (length (all_tracklets nights)) → AreNumberedTo nights 0 numbers []
none_numbered nights numbers e = record { first = 0; left_is = e; done_is = refl }

-- the next night, and how many tracklets are left with its own
next_night : (nights : List NightData) (count : ℕ) (night : NightData) → count < length nights → night ≡ get_or nights count night → drop count nights ≡ night ∷ drop (count + 1) nights
next_night nights count night l is = drop_more nights count night l ∙ ap (λ (n : NightData). n ∷ drop (count + 1) nights) (sym is)

left_with : (nights : List NightData) (count : ℕ) (night : NightData) → count < length nights → night ≡ get_or nights count night → length (all_tracklets (drop count nights)) ≡ length night.tracklets + length (all_tracklets (drop (count + 1) nights))
left_with nights count night l is = ap (λ (ns : List NightData). length (all_tracklets ns)) (next_night nights count night l is) ∙ length-append night.tracklets (all_tracklets (drop (count + 1) nights))

pub enough_left : (nights : List NightData) (count : ℕ) (left : List ℕ) (done : List NumberedNightData) (night : NightData) → count < length nights → night ≡ get_or nights count night → AreNumberedTo nights count left done → length night.tracklets ≤ length left
enough_left nights count left done night l is n =
    let size : length left ≡ length (all_tracklets (drop count nights)) = ap length n.left_is ∙ length-range_with_len n.first (length (all_tracklets (drop count nights))) in
    let split : length (all_tracklets (drop count nights)) ≡ length night.tracklets + length (all_tracklets (drop (count + 1) nights)) = left_with nights count night l is in
    omega (arith, size, split)

pub one_numbered : (nights : List NightData) (count : ℕ) (left own others : List ℕ) (done : List NumberedNightData) (night : NightData) → count < length nights → night ≡ get_or nights count night → own ≡ take (length night.tracklets) left → others ≡ drop (length night.tracklets) left → AreNumberedTo nights count left done →
    AreNumberedTo nights (count + 1) others (done ++ record { number = night.number; tracklets = numbered_by own night.tracklets } ∷ [])
one_numbered nights count left own others done night l is front back n =
    let more : ℕ = length (all_tracklets (drop (count + 1) nights)) in
    let mine : ℕ = length night.tracklets in
    let whole : left ≡ range_with_len n.first (length night.tracklets + length (all_tracklets (drop (count + 1) nights))) = n.left_is ∙ ap (range_with_len n.first) (left_with nights count night l is) in
    let own_is : own ≡ range_with_len n.first (length night.tracklets) = front ∙ (ap (take mine) whole ∙ front_range n.first mine more) in
    let named : NumberedNightData = record { number = night.number; tracklets = numbered_by (range_with_len n.first (length night.tracklets)) night.tracklets } in
    let here : done ++ (named ∷ numbered_from (n.first + length night.tracklets) (drop (count + 1) nights)) ≡ numbered_from 0 nights = subst (λ (ns : List NightData). done ++ numbered_from n.first ns ≡ numbered_from 0 nights) (next_night nights count night l is) n.done_is in
    record {
      first = n.first + length night.tracklets;
      left_is = back ∙ (ap (drop mine) whole ∙ back_range n.first mine more);
      done_is = subst (λ ns. (done ++ record { number = night.number; tracklets = numbered_by ns night.tracklets } ∷ []) ++ numbered_from (n.first + length night.tracklets) (drop (count + 1) nights) ≡ numbered_from 0 nights) (sym own_is)
          (append_assoc done (named ∷ []) (numbered_from (n.first + length night.tracklets) (drop (count + 1) nights)) ∙ here);
    }

pub all_numbered : (nights : List NightData) (count : ℕ) (left : List ℕ) (done : List NumberedNightData) → length nights ≤ count → AreNumberedTo nights count left done → done ≡ numbered_from 0 nights
all_numbered nights count left done l n =
    let none : numbered_from n.first (drop count nights) ≡ [] = ap (numbered_from n.first) (drop_all count nights l) in
    sym (append-nil done) ∙ (ap (λ (xs : List NumberedNightData). done ++ xs) (sym none) ∙ n.done_is)

-- ---- a walk over sets of numbers
-- what holds of the numbers of each set holds of those of this one
pub of_each : (P : List ℕ → Type 0) (sets : List (Vec ℕ Global)) (i : ℕ) (set : Vec ℕ Global) → All P (map (λ (set : Vec ℕ Global). set.items) sets) → i < length sets → set ≡ get_or sets i set → P set.items
of_each P sets i set h l is =
    let items : Vec ℕ Global → List ℕ = λ set. set.items in
    let size : length (map (λ (set : Vec ℕ Global). set.items) sets) ≡ length sets = length-map sets items in
    subst P (get_or-map items sets i set [] l ∙ ap items (sym is)) (h i [] (omega (arith, l, size)))

pub within_all : {X Y : Type 0} → (f : X → Y) (xs : List X) (numbers : List ℕ) → All (λ number. number < length (map f xs)) numbers → All (λ number. number < length xs) numbers
within_all f xs numbers h = λ k d l.
    let m = h k d l in
    let size : length (map f xs) ≡ length xs = length-map xs f in
    omega (arith, m, size)

pub one_more_of : {X : Type 0} → (f : List ℕ → X) (sets : List (Vec ℕ Global)) (i : ℕ) (set : Vec ℕ Global) (old new : List X) (one : X) → i < length sets → set ≡ get_or sets i set → one ≡ f set.items → new ≡ old ++ one ∷ [] → old ≡ map f (map (λ (set : Vec ℕ Global). set.items) (take i sets)) → new ≡ map f (map (λ (set : Vec ℕ Global). set.items) (take (i + 1) sets))
one_more_of {X} f sets i set old new one l is e n h =
    let items : Vec ℕ Global → List ℕ = λ set. set.items in
    let front : map (λ (set : Vec ℕ Global). set.items) (take (i + 1) sets) ≡ map (λ (set : Vec ℕ Global). set.items) (take i sets) ++ set.items ∷ [] = ap (map items) (taken sets i set l is) ∙ map-append items (take i sets) (set ∷ []) in
    n ∙ (ap (λ (x : X). old ++ x ∷ []) e
    ∙ (ap (λ (xs : List X). xs ++ f set.items ∷ []) h
    ∙ sym (ap (map f) front ∙ map-append f (map items (take i sets)) (set.items ∷ []))))
