-- Runs of an order.
use Rattle.std.proofs.Common.{◌≡◌, ℕ, ◌+◌, ◌-◌, ◌≤◌, List, ◌++◌, length, take, drop, ◌∙◌, ap, length-drop, arith}
use Rattle.std.proofs.Math.Seq.{take-add}
use Rattle.std.proofs.lemmas.List.{drop-drop, length-take, take_all}
use Rattle.std.specs.Prelude.{slice_range}

-- a run is its front and its rest
pub run_split : {X : Type 0} (xs : List X) (from middle to : ℕ) → from ≤ middle → middle ≤ to → slice_range xs from to ≡ slice_range xs from middle ++ slice_range xs middle to
run_split xs from middle to low high =
    let n : to - from ≡ (middle - from) + (to - middle) = omega arith in
    let m : from + (middle - from) ≡ middle = omega arith in
    ap (λ k. take k (drop from xs)) n ∙ take-add (middle - from) (to - middle) (drop from xs)
    ∙ ap (λ ys. take (middle - from) (drop from xs) ++ take (to - middle) ys) (drop-drop (middle - from) from xs ∙ ap (λ k. drop k xs) m)

pub run_length : {X : Type 0} (xs : List X) (from to : ℕ) → to ≤ length xs → length (slice_range xs from to) ≡ to - from
run_length xs from to within = simp (length-take, length-drop) (omega arith)

pub run_whole : {X : Type 0} (xs : List X) (n : ℕ) → n ≡ length xs → slice_range xs 0 n ≡ xs
run_whole xs n e = take_all (n - 0) xs (omega arith)
