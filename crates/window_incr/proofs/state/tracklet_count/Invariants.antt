use Rattle.std.proofs.Common.{◌≡◌, ◌*◌, ◌^◌, ◌≤◌, length, take}
use Rattle.std.specs.List.{sum_by}
use Rattle.night_tree.specs.Nights.{tracklets_of_each}
use Rattle.window_incr.proofs.state.tracklet_count.Given as goal

abbrev pub invariant-loop-night : goal.invariant-loop-night
invariant-loop-night l = record {
  count : l.count ≡ sum_by length (take l.night-index (tracklets_of_each l.nights));
  small : l.count ≤ l.night-index * 2 ^ 59;
}
