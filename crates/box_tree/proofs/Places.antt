-- The places of items.
use Rattle.std.proofs.Common.{ℕ, ◌<◌, arith}
use Rattle.std.specs.List.{All}
use Rattle.std.proofs.lemmas.List.FromFn.{get_or-range_with_len, length-range_with_len}
use Rattle.sky_units.specs.Pairs.{below}

pub below_within : (n : ℕ) → All (λ place. place < n) (below n)
below_within n k d h =
    let size = length-range_with_len 0 n in
    let within : k < n = omega arith in
    rw (get_or-range_with_len 0 n k d within) (omega arith)
