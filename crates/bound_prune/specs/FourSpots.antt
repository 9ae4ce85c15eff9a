-- The first and the last spots of two tracklets of an arc, the one after the other.
use Rattle.std.proofs.Common.{◌≡◌, ℕ, ◌+◌, ◌-◌, ◌<◌, ◌≤◌, List, [], ◌∷◌, ◌++◌, length, get_or, length-append, refl, ap, ◌∙◌, arith}
use Rattle.std.specs.Prelude.{◌-ℤ◌, ◌<ℤ◌}
use Rattle.std.proofs.lemmas.List.{get_or_append_left, get_or-append_right, get_or_default}
use Rattle.std.proofs.lemmas.List.Elements.{All-cons, All-nil}
use Rattle.std.specs.List.{All, Contains}
use Rattle.sky_units.specs.Arcs.{IsArc}
use Rattle.sky_units.specs.Limits.{arc_ticks}
use Rattle.sky_units.specs.SpotData.{SpotData}
use Rattle.bound_prune.specs.Boxes.{no_spot, first_of, last_of}

-- a part stands in the whole from a place on
pub record Stands (whole part : List SpotData) (place : ℕ) : Type 0 where
  pub within : place + length part ≤ length whole
  pub same : (k : ℕ) (d : SpotData) → k < length part → get_or whole (place + k) d ≡ get_or part k d

pub stands_first : (part rest : List SpotData) → Stands (part ++ rest) part 0
stands_first part rest = record { within = omega (arith, length-append part rest); same = λ k d h. ap (λ (n : ℕ). get_or (part ++ rest) n d) (omega arith) ∙ get_or_append_left part rest d k h }

pub stands_last : (front part : List SpotData) → Stands (front ++ part) part (length front)
stands_last front part = record { within = omega (arith, length-append front part); same = λ k d h. behind front part k d }
  where
    behind : (front part : List SpotData) (k : ℕ) (d : SpotData) → get_or (front ++ part) (length front + k) d ≡ get_or part k d
    behind front part k d = get_or-append_right front part (length front) (length front + k) d refl (omega arith) ∙ ap (λ (n : ℕ). get_or part n d) (omega arith)

pub stands_before : (whole part rest : List SpotData) (place : ℕ) → Stands whole part place → Stands (whole ++ rest) part place
stands_before whole part rest place h =
    let w = h.within in
    record {
      within = omega (arith, length-append whole rest, w);
      same = λ k d l. get_or_append_left whole rest d (place + k) (omega (arith, w)) ∙ h.same k d l;
    }

-- four spots of an arc in order of time
pub record Four (whole : List SpotData) (a b c d : SpotData) : Type 0 where
  pub lasts : a.epoch <ℤ b.epoch
  pub follows : b.epoch <ℤ c.epoch
  pub ends : c.epoch <ℤ d.epoch
  pub short : (d.epoch -ℤ a.epoch) <ℤ arc_ticks
  pub among : All (Contains whole) (a ∷ b ∷ c ∷ d ∷ [])

-- a spot at a place
record At (whole : List SpotData) (place : ℕ) (spot : SpotData) : Type 0 where
  within : place < length whole
  is : get_or whole place no_spot ≡ spot

contained : (whole : List SpotData) (place : ℕ) (spot : SpotData) → At whole place spot → Contains whole spot
contained whole place spot h = (place, h.within, get_or_default whole place spot no_spot h.within ∙ h.is)

earlier : (whole : List SpotData) (i j : ℕ) (x y : SpotData) → IsArc whole → At whole i x → At whole j y → i < j → x.epoch <ℤ y.epoch
earlier whole i j x y arc p q l = let e = p.is in let f = q.is in rw (e, f) at (arc.rising i j no_spot l q.within)

soon : (whole : List SpotData) (i j : ℕ) (x y : SpotData) → IsArc whole → At whole i x → At whole j y → i < j → (y.epoch -ℤ x.epoch) <ℤ arc_ticks
soon whole i j x y arc p q l = let e = p.is in let f = q.is in rw (e, f) at (arc.short i j no_spot l q.within)

first_at : (whole s : List SpotData) (n : ℕ) → 2 ≤ length s → Stands whole s n → At whole (n + 0) (first_of s)
first_at whole s n two h = let w = h.within in record { within = omega (arith, w, two); is = h.same 0 no_spot (omega arith) }

last_at : (whole s : List SpotData) (n : ℕ) → 2 ≤ length s → Stands whole s n → At whole (n + (length s - 1)) (last_of s)
last_at whole s n two h = let w = h.within in record { within = omega (arith, w, two); is = h.same (length s - 1) no_spot (omega arith) }

-- the ends of two tracklets, the one after the other
pub four_of : (whole s t : List SpotData) (n m : ℕ) → IsArc whole → 2 ≤ length s → 2 ≤ length t → Stands whole s n → Stands whole t m → n + length s ≤ m → Four whole (first_of s) (last_of s) (first_of t) (last_of t)
four_of whole s t n m arc two three p q order =
    let a = first_at whole s n two p in
    let b = last_at whole s n two p in
    let c = first_at whole t m three q in
    let d = last_at whole t m three q in
    record {
      lasts = earlier whole (n + 0) (n + (length s - 1)) (first_of s) (last_of s) arc a b (omega arith);
      follows = earlier whole (n + (length s - 1)) (m + 0) (last_of s) (first_of t) arc b c (omega arith);
      ends = earlier whole (m + 0) (m + (length t - 1)) (first_of t) (last_of t) arc c d (omega arith);
      short = soon whole (n + 0) (m + (length t - 1)) (first_of s) (last_of t) arc a d (omega arith);
      among = All-cons (Contains whole) (first_of s) (last_of s ∷ first_of t ∷ last_of t ∷ []) (contained whole (n + 0) (first_of s) a)
          (All-cons (Contains whole) (last_of s) (first_of t ∷ last_of t ∷ []) (contained whole (n + (length s - 1)) (last_of s) b)
          (All-cons (Contains whole) (first_of t) (last_of t ∷ []) (contained whole (m + 0) (first_of t) c)
          (All-cons (Contains whole) (last_of t) [] (contained whole (m + (length t - 1)) (last_of t) d) (All-nil (Contains whole)))));
    }
