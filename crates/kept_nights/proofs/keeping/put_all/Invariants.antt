use Rattle.std.proofs.Common.{◌≡◌, ◌+◌, ◌≤◌, length}
use Rattle.std.specs.Vec.{vec_len, vec_capacity}
use Rattle.kept_nights.specs.KeptNights.{RiseByNumber}
use Rattle.kept_nights.specs.Renewed.{with_nights}
use Rattle.kept_nights.proofs.keeping.put_all.Given as goal

-- with those that are left all are put in, and there is room for them
abbrev pub invariant-loop-night : goal.invariant-loop-night
invariant-loop-night l = record {
  put : with_nights l.rest.items l.nights.items ≡ with_nights l.fn.more.items l.initial.nights.items;
  rising : RiseByNumber l.nights.items;
  room : vec_len l.nights + length l.rest.items ≤ vec_capacity l.nights;
}

abbrev pub decreases-loop-night : goal.decreases-loop-night
decreases-loop-night l = length l.rest.items
