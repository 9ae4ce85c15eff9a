-- Rising epochs of lists one after the other.
use Rattle.std.proofs.Common.{◌≡◌, ℕ, ◌+◌, ◌-◌, ◌<◌, ◌≤◌, ◌<ℤ◌, List, [], ◌∷◌, ◌++◌, length, take, drop, get_or, refl, sym, subst, ap, ◌∙◌, append_assoc, length-append, arith}
use Rattle.std.proofs.lemmas.Bool.{cases_lt}
use Rattle.std.proofs.lemmas.Int.{ints}
use Rattle.std.proofs.lemmas.List.{get_or_append_left, get_or-append_right, append-nil, take_more, take-append-drop, get_or_read, take_all}
use mathlib.Core.Logic.{inl, inr}
use Rattle.sky_units.proofs.EpochOrder.{not_above, not_below}
use Rattle.sky_units.specs.Arcs.{HaveRisingEpochs}
use Rattle.sky_units.specs.SpotData.{SpotData}
use Rattle.sky_units.specs.TrackletData.{spots_of, IsTracklet, IsTrackSet}

at_left : (p q : List SpotData) (i : ℕ) (d : SpotData) → i < length p → get_or (p ++ q) i d ≡ get_or p i d
at_left p q i d h = get_or_append_left p q d i h

at_right : (p q : List SpotData) (i : ℕ) (d : SpotData) → length p ≤ i → get_or (p ++ q) i d ≡ get_or q (i - length p) d
at_right p q i d h = get_or-append_right p q (length p) i d refl h

-- a part of a rising list rises
pub rising_left : (p q : List SpotData) → HaveRisingEpochs (p ++ q) → HaveRisingEpochs p
rising_left p q r = λ i j d ij jn.
    let s = r i j d ij (omega (arith, length-append p q)) in
    rw (at_left p q i d (omega arith), at_left p q j d jn) at s

pub rising_right : (p q : List SpotData) → HaveRisingEpochs (p ++ q) → HaveRisingEpochs q
rising_right p q r = λ i j d ij jn.
    let s = r (length p + i) (length p + j) d (omega arith) (omega (arith, length-append p q)) in
    let a : get_or (p ++ q) (length p + i) d ≡ get_or q i d = at_right p q (length p + i) d (omega arith) ∙ ap (λ (n : ℕ). get_or q n d) (omega arith) in
    let b : get_or (p ++ q) (length p + j) d ≡ get_or q j d = at_right p q (length p + j) d (omega arith) ∙ ap (λ (n : ℕ). get_or q n d) (omega arith) in
    rw (a, b) at s

-- two rising lists of which the first ends before the second begins
pub rising_across : (p q : List SpotData) → HaveRisingEpochs p → HaveRisingEpochs q → ((i j : ℕ) (d : SpotData) → i < length p → j < length q → (get_or p i d).epoch <ℤ (get_or q j d).epoch) → HaveRisingEpochs (p ++ q)
rising_across p q rp rq cross = λ i j d ij jn.
    let n : length (p ++ q) ≡ length p + length q = length-append p q in
    elim (cases_lt j (length p)) as (λ _. (get_or (p ++ q) i d).epoch <ℤ (get_or (p ++ q) j d).epoch) [
      | inl l ↦ rw (at_left p q i d (omega arith), at_left p q j d l) (rp i j d ij l)
      | inr l ↦ elim (cases_lt i (length p)) as (λ _. (get_or (p ++ q) i d).epoch <ℤ (get_or (p ++ q) j d).epoch) [
        | inl m ↦ rw (at_left p q i d m, at_right p q j d l) (cross i (j - length p) d m (omega arith))
        | inr m ↦ rw (at_right p q i d m, at_right p q j d l) (rq (i - length p) (j - length p) d (omega arith) (omega arith))
      ]
    ]

-- lists that overlap in one that isn't empty
pub rising_join : (p q r : List SpotData) → 0 < length q → HaveRisingEpochs (p ++ q) → HaveRisingEpochs (q ++ r) → HaveRisingEpochs ((p ++ q) ++ r)
rising_join p q r some left right = rising_across (p ++ q) r left (rising_right q r right) (λ i j d ip jr.
    let n : length (p ++ q) ≡ length p + length q = length-append p q in
    let m : length (q ++ r) ≡ length q + length r = length-append q r in
    let step : (get_or q (length q - 1) d).epoch <ℤ (get_or r j d).epoch =
    (let s = right (length q - 1) (length q + j) d (omega arith) (omega arith) in
    let a : get_or (q ++ r) (length q - 1) d ≡ get_or q (length q - 1) d = at_left q r (length q - 1) d (omega arith) in
    let b : get_or (q ++ r) (length q + j) d ≡ get_or r j d = at_right q r (length q + j) d (omega arith) ∙ ap (λ (k : ℕ). get_or r k d) (omega arith) in
    rw (a, b) at s) in
    let last : get_or (p ++ q) (length (p ++ q) - 1) d ≡ get_or q (length q - 1) d = at_right p q (length (p ++ q) - 1) d (omega arith) ∙ ap (λ (k : ℕ). get_or q k d) (omega arith) in
    elim (cases_lt i (length (p ++ q) - 1)) as (λ _. (get_or (p ++ q) i d).epoch <ℤ (get_or r j d).epoch) [
      | inl l ↦ let s = left i (length (p ++ q) - 1) d l (omega arith) in let s' = rw last at s in omega (arith, ints, s', step)
      | inr l ↦ let e : length (p ++ q) - 1 ≡ i = omega arith in subst (λ (k : ℕ). (get_or (p ++ q) k d).epoch <ℤ (get_or r j d).epoch) e (rw last step)
    ])

spots_append : (xs ys : List (List SpotData)) → spots_of (xs ++ ys) ≡ spots_of xs ++ spots_of ys
spots_append [] ys = refl
spots_append (x ∷ xs) ys = rw (spots_append xs ys) (sym (append_assoc x (spots_of xs) (spots_of ys)))

-- ---- tracklets one after the other, from the first on
pub set_start : (list : List (List SpotData)) → IsTrackSet (take 0 list)
set_start list = record { rising = λ i j d ij jn. absurd (omega arith) }

grown : (list : List (List SpotData)) (t : List SpotData) (i : ℕ) → i < length list → t ≡ get_or list i t → spots_of (take (i + 1) list) ≡ spots_of (take i list) ++ t
grown list t i h e =
    let more : take (i + 1) list ≡ take i list ++ get_or list i t ∷ [] = take_more list i t h in
    let named : take i list ++ get_or list i t ∷ [] ≡ take i list ++ t ∷ [] = ap (λ (u : List SpotData). take i list ++ u ∷ []) (sym e) in
    ap spots_of (more ∙ named) ∙ spots_append (take i list) (t ∷ []) ∙ ap (λ (u : List SpotData). spots_of (take i list) ++ u) (append-nil t)

pub set_first : (list : List (List SpotData)) (t : List SpotData) (i : ℕ) → i ≡ 0 → i < length list → t ≡ get_or list i t → IsTracklet t → IsTrackSet (take (i + 1) list)
set_first list t i z h e one =
    let none : spots_of (take i list) ≡ [] = ap (λ (n : ℕ). spots_of (take n list)) z in
    let s : spots_of (take (i + 1) list) ≡ t = grown list t i h e ∙ ap (λ (u : List SpotData). u ++ t) none in
    record { rising = rw s one.rising }

pub set_step : (list : List (List SpotData)) (b t : List SpotData) (i : ℕ) → 0 < i → i < length list → b ≡ get_or list (i - 1) b → t ≡ get_or list i t → IsTracklet b → HaveRisingEpochs (b ++ t) → IsTrackSet (take i list) → IsTrackSet (take (i + 1) list)
set_step list b t i p h eb et one across before =
    let back : i - 1 + 1 ≡ i = omega arith in
    let g : spots_of (take (i - 1 + 1) list) ≡ spots_of (take (i - 1) list) ++ b = grown list b (i - 1) (omega arith) eb in
    let f : spots_of (take i list) ≡ spots_of (take (i - 1) list) ++ b = rw back at g in
    let s : spots_of (take (i + 1) list) ≡ (spots_of (take (i - 1) list) ++ b) ++ t = grown list t i h et ∙ ap (λ (u : List SpotData). u ++ t) f in
    let two = one.two in
    record { rising = rw s (rising_join (spots_of (take (i - 1) list)) b t (omega arith) (rw f at before.rising) across) }

pub set_stop : (list : List (List SpotData)) (b t : List SpotData) (i : ℕ) → 0 < i → i < length list → b ≡ get_or list (i - 1) b → t ≡ get_or list i t → (¬ HaveRisingEpochs (b ++ t)) → ¬ IsTrackSet list
set_stop list b t i p h eb et apart whole =
    let back : i - 1 + 1 ≡ i = omega arith in
    let g : spots_of (take (i - 1 + 1) list) ≡ spots_of (take (i - 1) list) ++ b = grown list b (i - 1) (omega arith) eb in
    let f : spots_of (take i list) ≡ spots_of (take (i - 1) list) ++ b = rw back at g in
    let s : spots_of (take (i + 1) list) ≡ spots_of (take (i - 1) list) ++ (b ++ t) = grown list t i h et ∙ ap (λ (u : List SpotData). u ++ t) f ∙ append_assoc (spots_of (take (i - 1) list)) b t in
    let w : spots_of list ≡ spots_of (take (i + 1) list) ++ spots_of (drop (i + 1) list) = ap spots_of (sym (take-append-drop (i + 1) list)) ∙ spots_append (take (i + 1) list) (drop (i + 1) list) in
    let r : HaveRisingEpochs (spots_of (take (i + 1) list)) = rising_left (spots_of (take (i + 1) list)) (spots_of (drop (i + 1) list)) (subst HaveRisingEpochs w whole.rising) in
    apart (rising_right (spots_of (take (i - 1) list)) (b ++ t) (subst HaveRisingEpochs s r))

pub set_all : (list : List (List SpotData)) (i : ℕ) → length list ≤ i → IsTrackSet (take i list) → IsTrackSet list
set_all list i big s = rw (take_all i list big) at s

-- ---- one tracklet after another
pub across_of_ends : (b t : List SpotData) (last first : SpotData) → IsTracklet b → IsTracklet t → last ≡ get_or b (length b - 1) last → first ≡ get_or t 0 first → last.epoch <ℤ first.epoch → HaveRisingEpochs (b ++ t)
across_of_ends b t last first one two el ef step =
    let m = one.two in
    rising_across b t one.rising two.rising (λ i j d ib jt.
    let x = not_above b i last el one.rising ib d in
    let y = not_below t j first ef two.rising jt d in
    omega (arith, ints, x, y, step))

pub ends_of_across : (b t : List SpotData) (last first : SpotData) → IsTracklet b → IsTracklet t → last ≡ get_or b (length b - 1) last → first ≡ get_or t 0 first → HaveRisingEpochs (b ++ t) → last.epoch <ℤ first.epoch
ends_of_across b t last first one two el ef rise =
    let m = one.two in
    let n = two.two in
    let s = rise (length b - 1) (length b) last (omega arith) (omega (arith, length-append b t)) in
    let x : get_or (b ++ t) (length b - 1) last ≡ last = at_left b t (length b - 1) last (omega arith) ∙ sym el in
    let f : first ≡ get_or t 0 last = get_or_read t 0 first (omega arith) ef last in
    let y : get_or (b ++ t) (length b) last ≡ first = at_right b t (length b) last (omega arith) ∙ ap (λ (k : ℕ). get_or t k last) (omega arith) ∙ sym f in
    rw (x, y) at s
