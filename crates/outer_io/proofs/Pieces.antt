-- Lemmas on lists that are cut into pieces and joined again.
use Rattle.std.proofs.Common.{◌≡◌, ◌≢◌, ℕ, ◌+◌, ◌-◌, ◌<◌, ◌≤◌, List, ◌∷◌, ◌++◌, length, take, drop, min, get_or, cond, sym, ap, ap₂, ◌∙◌, ⊎_elim, suc, add-one, zero-add, arith, length-take, length-drop, ne_eqb}
use Rattle.std.proofs.Math.Dec.{eqb}
use Rattle.std.proofs.lemmas.Bool.{cases_lt}
use Rattle.std.proofs.lemmas.Grind.{common_steps}
use Rattle.std.proofs.lemmas.List.{take-append-drop, take-take, drop-take, drop-drop, drop_more, take_all, get_or_past}
use Rattle.std.proofs.lemmas.List.Edits.{length-between, get_or-between}
use Rattle.std.specs.Prelude.{slice_range}
use Rattle.std.proofs.lemmas.List.Edits.{take-paste}
use Rattle.std.proofs.Math.Seq.{paste}
use Rattle.std.specs.Str.Lines.{strip_carriage_return}

-- what is copied into the front of a buffer, and then the rest, is all that there was from that place on
pub given_then_rest : (bytes copied rest : List ℕ) (at n m : ℕ) → length copied ≡ n → m ≡ n → copied ≡ take m (drop at bytes)
    → drop at bytes ≡ take n (copied ++ rest) ++ drop (at + n) bytes
given_then_rest bytes copied rest at n m len same is = grind (arith, common_steps, take-append-drop n (drop at bytes))

-- a list's first elements, in two parts
pub take_then : (a b : ℕ) (xs : List ℕ) → take (a + b) xs ≡ take a xs ++ take b (drop a xs)
take_then a b xs = sym (take-append-drop a (take (a + b) xs)) ∙ ap₂ (λ s t. s ++ t) (take-take a (a + b) xs (omega arith)) (drop-take a b xs)

-- the front of a list is that of the list whose own front was cut first
pub take-take-append : (m : ℕ) (xs ys : List ℕ) → take m (take m xs ++ ys) ≡ take m (xs ++ ys)
take-take-append m xs ys = grind (arith, common_steps)

pub take_min : (a b : ℕ) (xs : List ℕ) → take (min a b) xs ≡ take b (take a xs)
take_min a b xs = ⊎_elim
    (λ low. ap (λ n. take n xs) (omega arith) ∙ sym (take_all b (take a xs) (omega (arith, length-take a xs))))
    (λ high. ap (λ n. take n xs) (omega arith) ∙ sym (take-take b a xs high))
    (cases_lt a b)

-- the front of a line goes on with what comes into the buffer behind it
pub front_goes_on : (line buffer : List ℕ) (kept n : ℕ) → take kept buffer ≡ take 1026 line → kept + n ≤ length buffer
    → take 1026 (take (kept + n) buffer) ≡ take 1026 (line ++ slice_range buffer kept (kept + n))
front_goes_on line buffer kept n is fits =
    let same : n ≡ (kept + n) - kept = omega arith in
    ap (λ t. take 1026 t) (take_then kept n buffer ∙ ap₂ (λ t m. t ++ take m (drop kept buffer)) is same) ∙ take-take-append 1026 line _

-- a range with a line feed in it: what comes before, the feed, and what comes behind it
pub range_at : (buffer : List ℕ) (start feed end : ℕ) → start ≤ feed → feed < end → end ≤ length buffer → get_or buffer feed 0 ≡ 10
    → slice_range buffer start end ≡ slice_range buffer start feed ++ 10 ∷ slice_range buffer (feed + 1) end
range_at buffer start feed end low high within is =
    let m : ℕ = feed - start in
    let k : ℕ = end - (feed + 1) in
    let len : end - start ≡ m + suc k = omega (arith, add-one) in
    let at : start + m ≡ feed = omega arith in
    ap (λ n. take n (drop start buffer)) len ∙ take_then m (suc k) (drop start buffer)
    ∙ ap (λ t. take m (drop start buffer) ++ take (suc k) t)
    (drop-drop m start buffer ∙ ap (λ i. drop i buffer) at ∙ drop_more buffer feed 0 (omega arith) ∙ ap (λ b. b ∷ drop (feed + 1) buffer) is)

take_range : (buffer : List ℕ) (start feed : ℕ) → start < feed → feed ≤ length buffer → take (feed - start - 1) (slice_range buffer start feed) ≡ slice_range buffer start (feed - 1)
take_range buffer start feed some within =
    let same : feed - start - 1 ≡ feed - 1 - start = omega arith in
    take-take (feed - start - 1) (feed - start) (drop start buffer) (omega arith) ∙ ap (λ n. take n (drop start buffer)) same

-- a list without its last element, at the place n - 1, where that is a carriage return
abbrev strip_at : ℕ → List ℕ → List ℕ
strip_at n line = cond (eqb (get_or line (n - 1) 0) 13) (take (n - 1) line) line

-- a line before its line feed, with a carriage return at its end
pub strip_one : (buffer : List ℕ) (start feed : ℕ) → start < feed → feed ≤ length buffer → get_or buffer (feed - 1) 0 ≡ 13
    → slice_range buffer start (feed - 1) ≡ strip_carriage_return (slice_range buffer start feed)
strip_one buffer start feed some within is =
    let len : length (slice_range buffer start feed) ≡ feed - start = length-between buffer start feed within in
    let at : start + (feed - start - 1) ≡ feed - 1 = omega arith in
    let last : get_or (slice_range buffer start feed) (feed - start - 1) 0 ≡ 13 =
    get_or-between buffer start feed (feed - start - 1) 0 (omega arith) ∙ ap (λ i. get_or buffer i 0) at ∙ is in
    sym (ap (λ n. strip_at n (slice_range buffer start feed)) len ∙ ap (λ b. cond (eqb b 13) (take (feed - start - 1) (slice_range buffer start feed)) (slice_range buffer start feed)) last
    ∙ take_range buffer start feed some within)

-- and without one
pub strip_none : (buffer : List ℕ) (start feed : ℕ) → start ≤ feed → feed ≤ length buffer → (start < feed → get_or buffer (feed - 1) 0 ≢ 13)
    → slice_range buffer start feed ≡ strip_carriage_return (slice_range buffer start feed)
strip_none buffer start feed order within isnt =
    let line : List ℕ = slice_range buffer start feed in
    let len : length line ≡ feed - start = length-between buffer start feed within in
    let last : get_or line (length line - 1) 0 ≢ 13 = λ e. ⊎_elim
    (λ some.
    let at : start + (length line - 1) ≡ feed - 1 = omega arith in
    isnt some (ap (λ i. get_or buffer i 0) (sym at) ∙ sym (get_or-between buffer start feed (length line - 1) 0 (omega arith)) ∙ e))
    (λ none. absurd (omega (arith, get_or_past line (length line - 1) 0, e)))
    (cases_lt start feed) in
    sym (ap (λ b. cond b (take (length line - 1) line) line) (ne_eqb (get_or line (length line - 1) 0) 13 last))

-- a range that is cut after some bytes
pub range_min : (buffer : List ℕ) (start end most : ℕ) → slice_range buffer start (min end (start + most)) ≡ take most (slice_range buffer start end)
range_min buffer start end most =
    let same : min end (start + most) - start ≡ min (end - start) most = omega arith in
    ap (λ n. take n (drop start buffer)) same ∙ take_min (end - start) most (drop start buffer)

-- what is moved to the front of a buffer
pub moved_front : (buffer : List ℕ) (start end n m : ℕ) → n ≡ min (end - start) 1026 → m ≡ n → start + n ≤ length buffer
    → take n (paste buffer 0 (drop start buffer) m) ≡ take 1026 (slice_range buffer start end)
moved_front buffer start end n m is same fits =
    ap (λ k. take n (paste buffer 0 (drop start buffer) k)) same
    ∙ ap (λ k. take k (paste buffer 0 (drop start buffer) n)) (sym (zero-add n))
    ∙ take-paste buffer 0 (drop start buffer) n (omega arith) (omega (arith, length-drop start buffer))
    ∙ ap (λ k. take k (drop start buffer)) is ∙ take_min (end - start) 1026 (drop start buffer)
